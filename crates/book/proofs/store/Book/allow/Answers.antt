use Rattle.std.proofs.Common.{◌≡◌, ℕ, ◌<◌, not, leb, ltb, List, [], ◌∷◌, Bool, get_or, is_ok, is_some, Some, None, Ok, Option, vec_items, vec_len, sym, ap, ◌∙◌, arith, rules}
use Rattle.std.proofs.lemmas.Grind.{common_steps}
use Rattle.std.proofs.lemmas.Bool.Decides.{nat_tests}
use Rattle.std.proofs.lemmas.Result.{err_from_is_err_and}
use Rattle.profiles.specs.declared.Dial.{Dial}
use Rattle.profiles.specs.Table.{profile_of, dial_of}
use Rattle.book_rules.specs.declared.Standing.{Standing}
use Rattle.book_rules.specs.declared.Index.{Index}
use Rattle.book_rules.specs.declared.Call.{Call}
use Rattle.book_rules.specs.declared.Call.TheVariants.{Enter}
use Rattle.book_rules.specs.Contents.{Setup, Contents}
use Rattle.book_rules.specs.Refusing.{site_of}
use Rattle.book_rules.specs.Tests.{first, tests, of_terms, beyond, crossed, standing, standing_by, opened_running, not_served, unfit_day}
use Rattle.book.specs.Sites.{on, starting, standing_index}
use Rattle.book.specs.Books.{no_site, setup, contents}
use Rattle.book.proofs.Storage.{of_dial}
use Rattle.book.proofs.store.Book.allow.Goals as goal

-- the tests of day and terms, and those of how the site stands
abbrev by_terms : Setup → Call → List (ℕ × Bool)
by_terms u c = (4, of_terms (λ t. leb u.parties t.party) c) ∷ (5, beyond u c) ∷ (6, of_terms (λ t. not (is_ok (profile_of t.class t.power))) c) ∷ []

abbrev by_standing : Standing → Call → List (ℕ × Bool)
by_standing z c = (7, opened_running z c) ∷ (8, not_served z c) ∷ (9, unfit_day z c) ∷ []

module _ (u : Setup) (m : Contents) (c : Call) (k : ℕ) (known : site_of c < u.sites) where
  refused_terms : Some k ≡ first (by_terms u c) → Some k ≡ first (tests 36 u m c)
  refused_terms h = grind (arith, nat_tests)

  refused_standing : (z : Standing) → z ≡ standing 36 m (site_of c) → None ≡ first (by_terms u c) → Some k ≡ first (by_standing z c) → Some k ≡ first (tests 36 u m c)
  refused_standing z e t h = let h' = rw e at h in grind (arith, nat_tests)

-- an index is entered of a dial whose indexes are f
module _ (u : Setup) (m : Contents) (s k d v : ℕ) (known : s < u.sites) where
  refused_index : (f : ℕ → Option Index) (dial : Dial) (o : Option ℕ) → None ≡ first (by_terms u (Enter s k d v)) → Ok dial ≡ dial_of k → m.index s k ≡ f
      → o ≡ first ((13, ltb 999999999 v) ∷ (14, is_some (f d)) ∷ (15, crossed f d v 36) ∷ (16, leb u.index_places m.indexes) ∷ []) → o ≡ first (tests 36 u m (Enter s k d v))
  refused_index f dial o t w e h = let h' = rw (← e) at h in grind (arith, nat_tests)

pub returns-in_err-allow_terms : goal.returns-in_err-allow_terms
returns-in_err-allow_terms c =
    let p = err_from_is_err_and c.from_residual-in_err-allow_terms.result c.from_residual-in_err-allow_terms.ensures.1 in
    let known : site_of c.args.call < vec_len c.args.self.now.sites = grind (arith, common_steps) in
    rw (p.1, p.2) (refused_terms (setup c.args.self.now) (contents c.args.self.now) c.args.call _ known c.in_err-allow_terms.ensures)

pub returns-in_err-allow_standing : goal.returns-in_err-allow_standing
returns-in_err-allow_standing c =
    let b = c.args.self.now in
    let p = err_from_is_err_and c.from_residual-in_err-allow_standing.result c.from_residual-in_err-allow_standing.ensures.1 in
    let known : site_of c.args.call < vec_len b.sites = grind (arith, common_steps) in
    let at : standing_by (starting c.in_ok-site.site.now) 36 ≡ standing 36 (contents b) (site_of c.args.call) = grind (arith, common_steps) in
    rw (p.1, p.2) (refused_standing (setup b) (contents b) c.args.call _ known (standing_by (starting c.in_ok-site.site.now) 36) at c.in_ok-allow_terms.ensures c.in_err-allow_standing.ensures)

pub returns-in_ok-try_from-in-Enter : goal.returns-in_ok-try_from-in-Enter
returns-in_ok-try_from-in-Enter c =
    let b = c.args.self.now in let i = c.in-Enter in
    let known : i.site < vec_len b.sites = grind (arith, common_steps) in
    let t : None ≡ first (by_terms (setup b) (Enter i.site i.dial i.day i.value)) = grind (arith, common_steps) in
    let is : c.args.call ≡ Enter i.site i.dial i.day i.value = search rules in
    let at : c.in_ok-site.site.now ≡ get_or (vec_items b.sites) i.site no_site = grind (arith, common_steps) in
    let same : standing_index (get_or (vec_items b.sites) i.site no_site) i.dial ≡ on c.dial.result.now = ap (λ x. standing_index x i.dial) (sym at) ∙ (of_dial c.in_ok-site.site.now i.dial c.in_ok-try_from-in-Enter.field-0 c.in_ok-try_from-in-Enter.ensures ∙ ap on (sym c.dial.ensures)) in
    rw is (refused_index (setup b) (contents b) i.site i.dial i.day i.value known (on c.dial.result.now) c.in_ok-try_from-in-Enter.field-0 _ t c.in_ok-try_from-in-Enter.ensures same c.allow_index.ensures)
