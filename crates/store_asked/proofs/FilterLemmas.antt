-- What a list of filters is as one.
use Rattle.std.proofs.Common.{◌≡◌, List, [], ◌∷◌, ◌++◌, map, Vec, Global, refl, ap, rules}
use Rattle.store_question.specs.Filters.{filter_of, tests_of}
use Rattle.store_question.specs.declared.filter.Filter.{Filter, And, Or, the_lemmas}
use Rattle.store_model.specs.Filter.{Filter as Test, all_of, any_of}

pub and_is : (fs : Vec Filter Global) → filter_of (And fs) ≡ all_of (tests_of (map filter_of fs.items))
and_is fs = search (rules, the_lemmas)

pub or_is : (fs : Vec Filter Global) → filter_of (Or fs) ≡ any_of (tests_of (map filter_of fs.items))
or_is fs = search (rules, the_lemmas)

-- one more at the end is the first of those behind
pub one_more : (fs : List Filter) (m : Filter) (gs : List Test) → map filter_of (fs ++ m ∷ []) ++ gs ≡ map filter_of fs ++ filter_of m ∷ gs
one_more [] m gs = refl
one_more (f ∷ fs) m gs = ap (λ xs. filter_of f ∷ xs) (one_more fs m gs)
