use Rattle.std.proofs.Common.{◌≡◌, ℕ, ◌<◌, Some, None, rules}
use Rattle.std.proofs.iter.runs.Sources.{ranges, range_listed}
use Rattle.book_rules.specs.declared.Service.{Service}
use Rattle.book.specs.Sites.{starting, service_of}
use Rattle.book.proofs.Storage.{past}
use Rattle.book.proofs.Services.{serving}
use Rattle.book.proofs.site.Site.service.Goals as goal

pub returns : goal.returns
returns c =
    let f = starting c.args.self.now in let d = c.args.day in let run = c.find_map.ensures.runs in let days = range_listed run.0 run.0.seen in
    let missed : c.find_map.result ≡ None → (b : ℕ) → b < 36 → service_of b (f b) d ≡ None = λ e b lt. let turn = days.4.3 b in search (rules, ranges, turn, run) in
    let found : (v : Service) → c.find_map.result ≡ Some v → (b : ℕ) × (Some v ≡ service_of b (f b) d) = λ v e. search (rules, ranges) in
    serving f 36 d (past c.args.self.now.situations) c.find_map.result missed found
