-- What stands at a key after a change at one key. Assumes nothing.
use Rattle.std.proofs.Common.{◌≡◌, ℕ, cond, eqb, ◌⊎◌, Some, None, Option, refl, arith}
use Rattle.std.proofs.lemmas.Bool.{cases_eq}
use Rattle.std.proofs.lemmas.Bool.Decides.{nat_tests}

-- something and nothing are not the same
pub not_none : {X : Type 0} {x : X} (o : Option X) → o ≡ Some x → o ≡ None → ⊥
not_none o p q = cc

pub same_some : {X : Type 0} {x y : X} (o : Option X) → o ≡ Some x → o ≡ Some y → x ≡ y
same_some o p q = cc

pub nothing : {X : Type 0} (o : Option X) → ((x : X) → o ≡ Some x → ⊥) → o ≡ None
nothing None h = refl
nothing (Some x) h = absurd (h x refl)

-- at the key that was changed stands the new one, elsewhere the old one
pub record Changed {X : Type 0} (d : ℕ) (new : Option X) (old changed : ℕ → Option X) : Type 0 where
  pub here : changed d ≡ new
  pub elsewhere : (b : ℕ) → (b ≡ d → ⊥) → changed b ≡ old b

pub changed_by : {X : Type 0} (d : ℕ) (new : Option X) (old changed : ℕ → Option X) → ((b : ℕ) → changed b ≡ cond (eqb d b) new (old b)) → Changed d new old changed
changed_by d new old changed h = record { here = let e = h d in grind (arith, nat_tests); elsewhere = λ b ne. let e = h b in grind (arith, nat_tests) }

-- what stands somewhere is the new one or an old one
pub look : {X : Type 0} (d b : ℕ) (new : Option X) (old changed : ℕ → Option X) → Changed d new old changed → (x : X) → changed b ≡ Some x → ((b ≡ d) × (new ≡ Some x)) ⊎ ((b ≡ d → ⊥) × (old b ≡ Some x))
look d b new old changed c x h = let e = cases_eq b d in let here = c.here in let elsewhere = c.elsewhere b in grind arith
