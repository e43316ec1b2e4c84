use Rattle.std.proofs.Common.{◌≡◌, arith, ◌∙◌}
use Rattle.book.proofs.Acting.{situations_after, indexes_after}
use Rattle.book.proofs.Ruled.{allowed, served, acting}
use Rattle.book.proofs.store.Book.act.Goals as goal

pub index_mut-requires : goal.index_mut-requires
index_mut-requires c = let known = (allowed c.args.self.now c.args.call c.requires).known in omega (arith, c.from.ensures, c.site.ensures, known)

pub serve-requires-clause-kept : goal.serve-requires-clause-kept
serve-requires-clause-kept c = (allowed c.args.self.now c.args.call c.requires).kept

pub serve-requires-clause-served : goal.serve-requires-clause-served
serve-requires-clause-served c = served c.args.self.now c.args.call _ _ (allowed c.args.self.now c.args.call c.requires) (c.from.ensures ∙ c.site.ensures) c.index_mut.ensures.value

pub take-requires : goal.take-requires
take-requires c = let free = (allowed c.args.self.now c.args.call c.requires).situation_free in grind arith

pub take-requires-in-Enter : goal.take-requires-in-Enter
take-requires-in-Enter c = let free = (allowed c.args.self.now c.args.call c.requires).index_free in grind arith

pub returns-in-Open-clause-acts : goal.returns-in-Open-clause-acts
returns-in-Open-clause-acts c =
    let b = c.args.self.now in let k = c.args.call in
    let i : c.take.new.self.taken ≡ situations_after k b.situations.taken = grind arith in
    let j : b.indexes.taken ≡ indexes_after k b.indexes.taken = grind arith in
    acting b k _ _ (allowed b k c.requires) (c.from.ensures ∙ c.site.ensures) c.index_mut.ensures.value _ _ _ c.serve.ensures i j

pub returns-in-End-clause-acts : goal.returns-in-End-clause-acts
returns-in-End-clause-acts c =
    let b = c.args.self.now in let k = c.args.call in
    let i : b.situations.taken ≡ situations_after k b.situations.taken = grind arith in
    let j : b.indexes.taken ≡ indexes_after k b.indexes.taken = grind arith in
    acting b k _ _ (allowed b k c.requires) (c.from.ensures ∙ c.site.ensures) c.index_mut.ensures.value _ _ _ c.serve.ensures i j

pub returns-in-Enter-clause-acts : goal.returns-in-Enter-clause-acts
returns-in-Enter-clause-acts c =
    let b = c.args.self.now in let k = c.args.call in
    let i : b.situations.taken ≡ situations_after k b.situations.taken = grind arith in
    let j : c.take-in-Enter.new.self.taken ≡ indexes_after k b.indexes.taken = grind arith in
    acting b k _ _ (allowed b k c.requires) (c.from.ensures ∙ c.site.ensures) c.index_mut.ensures.value _ _ _ c.serve.ensures i j

pub returns-in-Strike-clause-acts : goal.returns-in-Strike-clause-acts
returns-in-Strike-clause-acts c =
    let b = c.args.self.now in let k = c.args.call in
    let i : b.situations.taken ≡ situations_after k b.situations.taken = grind arith in
    let j : c.give_back.new.self.taken ≡ indexes_after k b.indexes.taken = grind arith in
    acting b k _ _ (allowed b k c.requires) (c.from.ensures ∙ c.site.ensures) c.index_mut.ensures.value _ _ _ c.serve.ensures i j
