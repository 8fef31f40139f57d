use Rattle.std.proofs.Common.{ℕ, List, ◌+◌, ◌-◌, ◌∷◌, [], drop, length, subst, arith}
use Rattle.std.proofs.lemmas.List.{length-drop, take_all}
use Rattle.store_question.specs.Lacking.{NamedIn}
use Rattle.store_question.proofs.OnceLemmas.{nowhere_there, once_there}
use Rattle.store_question.proofs.lacking.name_stands_once.Goals as goal

pub returns-in-Some : goal.returns-in-Some
returns-in-Some c = λ yes.
    let behind = drop (c.in-Some.place + 1) c.args.elements.now in
    let whole = take_all (length c.args.elements.now - (c.in-Some.place + 1)) behind (omega (arith, length-drop {A = ℕ})) in
    once_there c.args.byte c.args.elements.now c.in-Some.place c.in-Some.ensures
    (subst (λ (l : List ℕ). NamedIn (c.args.byte ∷ 0 ∷ []) l → ⊥) whole (c.lacks_name.ensures yes))

pub returns-in-None : goal.returns-in-None
returns-in-None c = λ yes. nowhere_there c.args.byte c.args.elements.now c.in-None.ensures
