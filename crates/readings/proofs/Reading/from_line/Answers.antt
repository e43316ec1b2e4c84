use Rattle.std.proofs.Common.{rules}
use Rattle.std.proofs.lemmas.List.{take_rest}
use Rattle.readings.proofs.Reading.from_line.Goals as goal

pub returns-in_err-date : goal.returns-in_err-date
returns-in_err-date c = let rest = take_rest c.args.line.now 11 in search rules

pub returns : goal.returns
returns c = let rest = take_rest c.args.line.now 11 in search rules
