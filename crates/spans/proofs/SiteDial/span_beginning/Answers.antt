use Rattle.std.proofs.Common.{◌≡◌, ℕ, ◌+◌, ◌<◌, Some, None, sym, subst, rules}
use Rattle.std.proofs.lemmas.Option.{MatchOption-at_some}
use Rattle.std.proofs.iter.runs.Sources.{ranges, range_listed}
use Rattle.book.specs.Books.{contents}
use Rattle.spans.specs.declared.DialSpan.{DialSpan}
use Rattle.spans.specs.Finding.{track, ending, Begins}
use Rattle.spans.proofs.Beginning.{begins_by}
use Rattle.spans.proofs.SiteDial.span_beginning.Goals as goal

pub returns : goal.returns
returns c =
    let on = track (contents c.args.self.now.book.now) c.args.self.now.site c.args.self.now.dial in
    let run = c.find_map.ensures.runs in
    let list = range_listed run.0 run.0.seen in
    let missed : c.find_map.result ≡ None → (d : ℕ) → c.args.day + 1 + d < c.days-2.result + 1 → ending (on (c.args.day + 1 + d)) c.args.day c.in_ok-first.first (c.args.day + 1 + d) ≡ None = λ e d hi. let turn = list.4.3 d in search (rules, ranges, turn, run) in
    let found : (v : DialSpan) → c.find_map.result ≡ Some v → (d : ℕ) × (c.args.day + 1 + d < c.days-2.result + 1) × (Some v ≡ ending (on (c.args.day + 1 + d)) c.args.day c.in_ok-first.first (c.args.day + 1 + d)) × ((j : ℕ) → j < d → ending (on (c.args.day + 1 + j)) c.args.day c.in_ok-first.first (c.args.day + 1 + j) ≡ None) =
    λ v e.
    let m = MatchOption-at_some _ _ v e run.2 in
    let turn = list.4.3 m.0 in
    (m.0, search (rules, ranges, turn, m, run.1), search (rules, ranges, turn, m, run.1), λ j lt. let turn₁ = list.4.3 j in search (rules, ranges, turn₁, m, run.1)) in
    subst (λ (n : ℕ). Begins on n c.args.day c.find_map.result) c.days-2.ensures.value
    (begins_by on c.days-2.result c.args.day c.in_ok-first.first (sym c.in_ok-first.ensures) c.find_map.result missed found)
