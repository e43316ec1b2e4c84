use Rattle.std.proofs.Common.{◌≡◌, ℕ, ◌+◌, ◌<◌, Some, None, rules}
use Rattle.std.proofs.lemmas.Option.{MatchOption-at_some}
use Rattle.std.proofs.iter.runs.Sources.{ranges, range_listed}
use Rattle.book.specs.Books.{setup, contents}
use Rattle.spans.specs.declared.DialSpan.{DialSpan}
use Rattle.spans.specs.Finding.{track, RunsPast}
use Rattle.spans.proofs.Around.{around_by}
use Rattle.spans.proofs.SiteDial.span_around.Goals as goal

pub returns : goal.returns
returns c =
    let on = track (contents c.args.self.now.book.now) c.args.self.now.site c.args.self.now.dial in
    let days = (setup c.args.self.now.book.now).days in
    let run = c.find_map.ensures.runs in
    let list = range_listed run.0 run.0.seen in
    let missed : c.find_map.result ≡ None → (a : ℕ) → a < c.args.day + 1 → RunsPast on days c.args.day a None = λ e a lt. let turn = list.4.3 a in search (rules, ranges, turn, run) in
    let found : (z : DialSpan) → c.find_map.result ≡ Some z → (a : ℕ) × (a < c.args.day + 1) × RunsPast on days c.args.day a (Some z) =
    λ z e.
    let m = MatchOption-at_some _ _ z e run.2 in
    let turn = list.4.3 m.0 in
    (m.0, search (rules, ranges, turn, m, run.1), search (rules, ranges, turn, m, run.1)) in
    around_by on days c.args.day c.find_map.result missed found
