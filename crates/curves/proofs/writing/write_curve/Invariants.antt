use Rattle.book.specs.Books.{setup}
use Rattle.judgements.specs.Judgements.{meaning}
use Rattle.curves.specs.Writing.{SpansWritten}
use Rattle.curves.proofs.writing.write_curve.Given as goal

abbrev pub invariant-loop-day : goal.invariant-loop-day
invariant-loop-day g l = SpansWritten (meaning g.S.ProfileSource.weighs l.metered) (setup l.metered.at.book.now).days l.day l.initial.figures l.figures
