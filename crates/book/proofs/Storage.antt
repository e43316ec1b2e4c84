-- Sites in a list, and what is kept of a site. Assumes nothing.
use Rattle.std.proofs.Common.{◌≡◌, ℕ, zero, suc, ◌<◌, ◌≤◌, List, [], ◌∷◌, ◌++◌, length, get_or, replicate, None, Ok, Option, sym, refl, ap, ◌∙◌, subst, arith}
use Rattle.std.proofs.lemmas.List.{get_or_past, get_or_read}
use Rattle.std.proofs.lemmas.Bool.Decides.{nat_tests}
use Rattle.profiles.specs.declared.Dial.{Dial}
use Rattle.profiles.specs.declared.Dial.TheVariants.{First, Second}
use Rattle.profiles.specs.Table.{dial_of}
use Rattle.book_rules.specs.Laws.{Within}
use Rattle.book.specs.declared.by_day.ByDay.{ByDay}
use Rattle.book.specs.declared.site.Site.{Site}
use Rattle.book.specs.Sites.{on, dial_days, standing_index, NoEntries}
use Rattle.book.specs.Books.{no_days, no_site, held, AllEmpty}

-- past day 35 nothing is kept, and a table of nothing has nothing
pub past : {X : Type 0} (x : ByDay X) (d : ℕ) → 36 ≤ d → on x d ≡ None
past x d h = get_or_past x.days d None (omega (arith, x.long))

none_in : {X : Type 0} (n d : ℕ) → ◌≡◌ {A = Option X} (get_or (replicate n None) d None) None
none_in zero d = refl
none_in (suc n) zero = refl
none_in (suc n) (suc d) = none_in n d

none_on : {X : Type 0} (x : ByDay X) → x.days ≡ replicate 36 None → (d : ℕ) → on x d ≡ None
none_on x e d = ap (λ xs. get_or xs d None) e ∙ none_in 36 d

pub past_index : (x : Site) (k d : ℕ) → 36 ≤ d → standing_index x k d ≡ None
past_index x k d h = let p = past x.first d h in let q = past x.second d h in grind (arith, nat_tests)

pub no_entries : (x : Site) → x.situations.days ≡ replicate 36 None → x.first.days ≡ replicate 36 None → x.second.days ≡ replicate 36 None → NoEntries x
no_entries x a b c = record {
  no_situation = none_on x.situations a;
  no_index = λ k d. let p = none_on x.first b d in let q = none_on x.second c d in grind (arith, nat_tests);
}

nothing_there : NoEntries no_site
unfolding no_site no_days
nothing_there = no_entries no_site refl refl refl

pub within : (xs : List Site) (i j : ℕ) → Within 36 (held xs i j)
within xs i j = record { situations = λ s b h. past (get_or xs s no_site).situations b h; indexes = λ s k d h. past_index (get_or xs s no_site) k d h }

-- what is read of the list is the site that the book holds
pub read : (xs : List Site) (s : ℕ) (x : Site) → s < length xs → x ≡ get_or xs s x → x ≡ get_or xs s no_site
read xs s x lt v = get_or_read xs s x lt v no_site

-- of a site that the book has not nothing is kept
pub unknown : (xs : List Site) (s : ℕ) → length xs ≤ s → NoEntries (get_or xs s no_site)
unknown xs s h = subst NoEntries (sym (get_or_past xs s no_site h)) nothing_there

-- a list of nothing is of sites that keep nothing, and so is one site more that keeps nothing
pub all_empty : AllEmpty []
all_empty s = nothing_there

pub one_more_empty : (xs : List Site) (x : Site) → AllEmpty xs → NoEntries x → AllEmpty (xs ++ x ∷ [])
one_more_empty [] x h e zero = e
one_more_empty [] x h e (suc s) = h s
one_more_empty (y ∷ xs) x h e zero = h zero
one_more_empty (y ∷ xs) x h e (suc s) = one_more_empty xs x (λ z. h (suc z)) e s

-- the indexes of a dial, by its number
pub of_dial : (x : Site) (k : ℕ) (dial : Dial) → Ok dial ≡ dial_of k → standing_index x k ≡ on (dial_days x dial)
of_dial x k First e = let one : k ≡ 1 = grind (arith, nat_tests) in subst (λ n. standing_index x n ≡ on x.first) (sym one) refl
of_dial x k Second e = let two : k ≡ 2 = grind (arith, nat_tests) in subst (λ n. standing_index x n ≡ on x.second) (sym two) refl
