use Rattle.std.proofs.Common.{◌≤◌, pos, mul-le-mul, arith}
use Rattle.std.proofs.lemmas.Int.{ints, to_z-of_z, unsigned_abs-mul}
use Rattle.temperature.proofs.layer.times.Goals as goal

pub returns-clause-bound : goal.returns-clause-bound
returns-clause-bound c =
    let g : c.args.gradient ≤ 65535 = omega arith in
    let size = unsigned_abs-mul (pos c.args.gradient) c.args.d in
    let most = mul-le-mul g c.requires in
    grind (arith, ints, to_z-of_z)
