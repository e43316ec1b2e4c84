-- Every history tells one content. Assumes nothing.
use Rattle.std.proofs.Common.{◌≡◌, ℕ, List, [], ◌∷◌, ◌++◌, length, Some, None, Option, sym, refl, ap, ◌∙◌, subst, arith, length-append}
use mathlib.Core.Path.{fun_ext}
use Rattle.std.proofs.lemmas.List.{same_from_push}
use Rattle.book_rules.specs.declared.Call.{Call}
use Rattle.book_rules.specs.Contents.{Setup, Contents}
use Rattle.book_rules.specs.Telling.{Acts, opens, modifies, ends, corrects, enters, strikes, Step, Empty, Told, at_first, after}
use Rattle.book_rules.proofs.Keys.{same_some}
use Rattle.book_rules.proofs.Standings.{last_once}

-- contents that agree everywhere are the same
pub same_contents : (m n : Contents) → ((a b : ℕ) → m.situation a b ≡ n.situation a b) → ((a b e : ℕ) → m.index a b e ≡ n.index a b e) → m.situations ≡ n.situations → m.indexes ≡ n.indexes → m ≡ n
same_contents m n s t i j = λ z. record { situation = fun_ext (λ a. fun_ext (λ b. s a b)) z; index = fun_ext (λ a. fun_ext (λ b. fun_ext (λ e. t a b e))) z; situations = i z; indexes = j z }

acts_once : (m n o : Contents) (c : Call) → Acts m n c → Acts m o c → n ≡ o
acts_once m n o c (opens f t q) (opens g v r) = same_contents n o (λ a b. let p = f a b in let h = g a b in cc) (λ a b e. let p = q.0 a b e in let h = r.0 a b e in cc) (omega arith) (cc)
acts_once m n o c (modifies {s} {b} {x} l f t q) (modifies {b = b'} {x = x'} l' g v r) =
    let w = last_once (m.situation s) b b' x x' l l' in
    same_contents n o (λ a e. let p = f a e in let h = g a e in cc) (λ a b e. let p = q.0 a b e in let h = r.0 a b e in cc) (omega arith) (cc)
acts_once m n o c (ends {s} {b} {x} l f t q) (ends {b = b'} {x = x'} l' g v r) =
    let w = last_once (m.situation s) b b' x x' l l' in
    same_contents n o (λ a e. let p = f a e in let h = g a e in cc) (λ a b e. let p = q.0 a b e in let h = r.0 a b e in cc) (omega arith) (cc)
acts_once m n o c (corrects {s} {d} l f t q) (corrects l' g v r) =
    let w = same_some (m.situation s d) l l' in
    same_contents n o (λ a e. let p = f a e in let h = g a e in cc) (λ a b e. let p = q.0 a b e in let h = r.0 a b e in cc) (omega arith) (cc)
acts_once m n o c (enters f t q) (enters g v r) = same_contents n o (λ a b. let p = q.0 a b in let h = r.0 a b in cc) (λ a b e. let p = f a b e in let h = g a b e in cc) (cc) (omega arith)
acts_once m n o c (strikes f t q) (strikes g v r) = same_contents n o (λ a b. let p = q.0 a b in let h = r.0 a b in cc) (λ a b e. let p = f a b e in let h = g a b e in cc) (cc) (omega arith)

step_once : (u : Setup) (m n o : Contents) (c : Call) (j k : Option ℕ) → Step u m c j n → Step u m c k o → n ≡ o
step_once u m n o c (Some j) (Some k) s t = s.1 ∙ sym t.1
step_once u m n o c (Some j) None s t = absurd (t.0 j s.0.0)
step_once u m n o c None (Some k) s t = absurd (s.0 k t.0.0)
step_once u m n o c None None s t = acts_once m n o c s.1 t.1

-- the last call, and what was held before it
pub record Before (u : Setup) (h : List Call) (c : Call) (n : Contents) : Type 0 where
  pub held : Contents
  pub answer : Option ℕ
  pub told : Told u h held
  pub step : Step u held c answer n

pub undo : (u : Setup) (k : List Call) (n : Contents) → Told u k n → (h : List Call) (c : Call) → k ≡ h ++ c ∷ [] → Before u h c n
undo u k n (at_first _ f) h c e = absurd (omega (arith, ap length e, length-append h (c ∷ [])))
undo u k n (after g d a m _ t s) h c e =
    let same = same_from_push g h d c e in
    record { held = m; answer = a; told = subst (λ (l : List Call). Told u l m) same.0 t; step = subst (λ (x : Call). Step u m x a n) same.1 s }

starts : (u : Setup) (k : List Call) (m n : Contents) → Told u k n → k ≡ [] → Empty m → m ≡ n
starts u k m n (at_first _ f) e p = same_contents m n (λ a b. p.no_situation a b ∙ sym (f.no_situation a b)) (λ a b d. p.no_index a b d ∙ sym (f.no_index a b d)) (p.none_situated ∙ sym f.none_situated) (p.none_indexed ∙ sym f.none_indexed)
starts u k m n (after h c a b _ t s) e p = absurd (omega (arith, ap length e, length-append h (c ∷ [])))

pub once : (u : Setup) (h : List Call) (m n : Contents) → Told u h m → Told u h n → m ≡ n
once u h m n (at_first _ f) w = starts u [] m n w refl f
once u k m n (after h c a b _ t s) w =
    let v = undo u (h ++ c ∷ []) n w h c refl in
    let same = once u h b v.held t v.told in
    step_once u b m n c a v.answer s (subst (λ (x : Contents). Step u x c v.answer n) (sym same) v.step)
