-- The situation that covers a day. Assumes nothing.
use Rattle.std.proofs.Common.{◌≡◌, ℕ, ◌<◌, ◌≤◌, Some, None, Option, refl, arith}
use Rattle.book_rules.specs.declared.Situation.{Situation}
use Rattle.book_rules.specs.declared.Service.{Service}
use Rattle.book.specs.Sites.{service_of, Serving}

-- the one that starts on b was answered
found : (f : ℕ → Option Situation) (b d : ℕ) (v : Service) (o : Option Situation) → f b ≡ o → Some v ≡ service_of b o d → Serving f d (Some v)
found f b d v None k h = absurd (cc)
found f b d v (Some x) k h = grind arith

-- what a walk over the starts below n finds, where there are no later ones
pub serving : (f : ℕ → Option Situation) (n d : ℕ) → ((b : ℕ) → n ≤ b → f b ≡ None) → (r : Option Service)
    → (r ≡ None → (b : ℕ) → b < n → service_of b (f b) d ≡ None) → ((v : Service) → r ≡ Some v → (b : ℕ) × (Some v ≡ service_of b (f b) d)) → Serving f d r
serving f n d past None none one = λ b x e. let p = past b in let q = none refl b in grind arith
serving f n d past (Some v) none one = let w = one v refl in found f w.0 d v (f w.0) refl w.1
