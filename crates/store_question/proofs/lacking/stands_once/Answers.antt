use Rattle.std.proofs.Common.{List, ℕ, ◌-◌, ◌++◌, ◌∷◌, [], drop, length, subst, arith}
use Rattle.std.proofs.lemmas.List.{length-drop, take_all}
use Rattle.store_question.specs.Lacking.{NamedOnce}
use Rattle.store_question.proofs.OnceLemmas.{short_once}
use Rattle.store_question.proofs.lacking.stands_once.Goals as goal

pub returns-in-len1 : goal.returns-in-len1
returns-in-len1 c = λ yes.
    let some = c.in-len1.len_at_least in
    let few = c.in-len1.len_below in
    let elements = drop 4 c.args.bytes.now in
    let whole = take_all (length c.args.bytes.now - 4) elements (omega (arith, length-drop {A = ℕ})) in
    subst (λ (l : List ℕ). NamedOnce (c.args.key.now ++ 0 ∷ []) l) whole (short_once c.as_bytes.result.now c.args.key.now _ _ c.as_bytes.ensures.value (omega (arith, some)) (omega (arith, few)) (c.name_stands_once.ensures yes))
