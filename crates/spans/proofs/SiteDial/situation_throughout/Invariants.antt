use Rattle.book.specs.Books.{contents}
use Rattle.spans.proofs.Situations.{LookedAt}
use Rattle.spans.proofs.SiteDial.situation_throughout.Given as goal

abbrev pub invariant-loop-day : goal.invariant-loop-day
invariant-loop-day l = LookedAt ((contents l.self.book.now).situation l.self.site) l.from l.day l.latest
