use Rattle.std.proofs.Common.{sym, subst, arith}
use Rattle.book.specs.Books.{setup, contents}
use Rattle.span_rules.specs.Figures.{FactorOf}
use Rattle.span_rules.proofs.Steps.{tracked}
use Rattle.judgements.specs.Judgements.{meaning}
use Rattle.curves.proofs.Factors.{factor_none, factor_some, factor_kept}
use Rattle.curves.proofs.factor.Goals as goal

pub returns-in_default : goal.returns-in_default
returns-in_default g c =
    let at = c.args.metered.now.at in
    (sym c.in_ok-check_factor.ensures.value, λ h told. factor_none (meaning g.S.ProfileSource.weighs c.args.metered.now) (setup at.book.now).days c.args.day (tracked (setup at.book.now) h (contents at.book.now) told at.site at.dial) c.in_default.ensures)

pub returns-in-Ok : goal.returns-in-Ok
returns-in-Ok g c =
    let x = meaning g.S.ProfileSource.weighs c.args.metered.now in let days = (setup c.args.metered.now.at.book.now).days in
    let s = c.in-Some.span in let found = c.in-Some.ensures in
    let few = c.args.metered.now.at.book.now.horizon in let covered = c.in_ok-check_factor.ensures.known in
    let judged = c.judge-judgement.ensures found.span.forward (omega (arith, found.within)) (omega (arith, found.within)) in
    (sym c.in_ok-check_factor.ensures.value, λ h told. subst (FactorOf x c.args.day) (sym c.usage_factor_of.ensures) (factor_some x days c.args.day s found _ c.judge-judgement.result judged c.in-Ok.field-0 c.in-Ok.is))

pub returns-in-Err : goal.returns-in-Err
returns-in-Err g c =
    let x = meaning g.S.ProfileSource.weighs c.args.metered.now in let days = (setup c.args.metered.now.at.book.now).days in
    let s = c.in-Some.span in let found = c.in-Some.ensures in
    let few = c.args.metered.now.at.book.now.horizon in let covered = c.in_ok-check_factor.ensures.known in
    let judged = c.judge-judgement.ensures found.span.forward (omega (arith, found.within)) (omega (arith, found.within)) in
    (sym c.in_ok-check_factor.ensures.value, λ h told. factor_kept x days c.args.day s found _ c.judge-judgement.result judged c.in-Err.field-0 c.in-Err.is)
