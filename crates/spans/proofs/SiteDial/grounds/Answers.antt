use Rattle.std.proofs.Common.{◌≡◌, Some, refl, sym, ◌∙◌, arith}
use Rattle.spans.proofs.SiteDial.grounds.Goals as goal

pub returns : goal.returns
returns c = λ lt.
    let o = c.in_ok-situation.ensures lt in
    let has : c.sub_profile_of.result ≡ Some c.in_ok-sub_profile.sub_profile = grind arith in
    record { start = o.0; situation = c.in_ok-situation.situation; throughout = o.1; party = refl; power = refl; sub_profile = sym c.sub_profile_of.ensures ∙ has }
