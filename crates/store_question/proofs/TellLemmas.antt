-- What calls tell that may run out of memory.
use Rattle.std.proofs.Common.{◌≡◌, ◌↔◌, inl, inr, ℕ, zero, suc, ◌<◌, List, [], ◌∷◌, map, length, get_or, Bool, IsTrue, Result, Ok, Err, IfOk, IsErrAnd, subst, sym, ◌∙◌, arith}
use Rattle.std.proofs.lemmas.Result.{err_from_is_err_and}
use Rattle.std.specs.declared.alloc.AllocError.{AllocError}
use Rattle.store_question.specs.declared.question.Question.{Question}
use Rattle.store_question.specs.Reads.{HasPattern, OneHasPattern, Tells, form_of, forms_of}

-- on from what was told of A to B, and from what took memory to what contains it
pub over : (P Q A B : Type 0) (r : Result Bool AllocError) → (P → Q) → ((b : Bool) → IsTrue b ↔ A → IsTrue b ↔ B) → Tells P r A → Tells Q r B
over P Q A B (Ok b) g f h = f b h
over P Q A B (Err e) g f h = g h

pub told : (P A B : Type 0) (r : Result Bool AllocError) → ((b : Bool) → IsTrue b ↔ A → IsTrue b ↔ B) → Tells P r A → Tells P r B
told P A B r f h = over P P A B r (λ p. p) f h

-- one of a list has a pattern
pub one_has : (list : List Question) (i : ℕ) (q : Question) → q ≡ get_or list i q → i < length list → HasPattern (form_of q) → OneHasPattern (forms_of (map form_of list))
one_has [] i q e h p = absurd (omega (arith, h))
one_has (x ∷ xs) zero q e h p = inl (subst (λ (y : Question). HasPattern (form_of y)) e p)
one_has (x ∷ xs) (suc i) q e h p = inr (one_has xs i q e (omega (arith, h)) p)

pub matched : (P : Type 0) (r : Result Bool AllocError) (x : Bool) → P → IfOk r (λ b. b ≡ x) → Tells P r (IsTrue x)
matched P (Ok b) x p e = (λ t. sym e ∙ t, λ t. e ∙ t)
matched P (Err y) x p e = p

-- the exit of a `?`
pub left_by : (P A : Type 0) (Q : AllocError → Type 0) (r : Result Bool AllocError) → IsErrAnd r Q → P → Tells P r A
left_by P A Q r is p = let e = err_from_is_err_and r is in rw e.1 p
