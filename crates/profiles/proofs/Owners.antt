-- Each sub-profile has one owner: a profile and its dial. Assumes nothing.
use Rattle.std.proofs.Common.{◌≡◌, ℕ, ◌≤◌, [], ◌∷◌, get_or, Some, sym, ◌∙◌, arith}
use Rattle.std.proofs.lemmas.Bool.Decides.{nat_tests}
use Rattle.profiles.specs.declared.Profile.{Profile}
use Rattle.profiles.specs.declared.Profile.TheVariants.{Res1, Res11, Res1We, Res11We, Res2}
use Rattle.profiles.specs.Table.{sub_profile_of, SubProfilesApart}

abbrev owner : ℕ → Profile × ℕ
owner s = get_or ((Res1, 1) ∷ (Res11, 1) ∷ (Res1We, 1) ∷ (Res1We, 2) ∷ (Res11We, 1) ∷ (Res11We, 2) ∷ (Res2, 1) ∷ (Res2, 2) ∷ []) s (Res1, 0)

abbrev Owned : Profile → ℕ → ℕ → Type 0
Owned p d s = ((owner s).0 ≡ p) × ((owner s).1 ≡ d) × (s ≤ 7)

owned : (p : Profile) (d s : ℕ) → sub_profile_of p d ≡ Some s → Owned p d s
owned Res1 d s h = grind (arith, nat_tests)
owned Res11 d s h = grind (arith, nat_tests)
owned Res1We d s h = grind (arith, nat_tests)
owned Res11We d s h = grind (arith, nat_tests)
owned Res2 d s h = grind (arith, nat_tests)

pub sub_profiles_apart : SubProfilesApart
sub_profiles_apart = record {
  bounded = λ p d s h. (owned p d s h).2;
  once = λ p q d e s h k. let a = owned p d s h in let b = owned q e s k in (sym a.0 ∙ b.0, sym a.1 ∙ b.1);
}
