-- Words as strings.
use Rattle.std.proofs.Common.{◌≡◌, ◌↔◌, ◌≤◌, ◌<◌, ℕ, List, [], ◌∷◌, length, map, slice_index_or, string_bytes, String, Global, Bool, false, IsTrue, Result, Ok, Err, IfOk, refl, sym, ◌∙◌, ap, subst, arith}
use Rattle.std.specs.declared.alloc.AllocError.{AllocError}
use Rattle.std.specs.List.{list_any}
use Rattle.fallowtime_words.specs.Advice.{HasObjectId, IsObjectId}
use Rattle.fallowtime_words.specs.Hints.{HintsIf, is_joined}
use Rattle.fallowtime_words.proofs.TopicLemmas.{not_both}

pub no_second : (ws : List (String Global)) → length ws < 2 → IsTrue false ↔ HasObjectId (map string_bytes ws)
no_second [] l = (λ e. absurd (not_both e), λ (coll, id, more, is, h). absurd (omega (arith, ap length is)))
no_second (a ∷ []) l = (λ e. absurd (not_both e), λ (coll, id, more, is, h). absurd (omega (arith, ap length is)))
no_second (a ∷ b ∷ ws) l = absurd (omega (arith, l))

behind_first : (v w v' w' : List ℕ) (vs ws : List (List ℕ)) → v ∷ v' ∷ vs ≡ w ∷ w' ∷ ws → v' ≡ w'
behind_first v w v' w' vs ws e = cc

in_front : (v w : List ℕ) (vs ws : List (List ℕ)) → v ∷ vs ≡ w ∷ ws → v ≡ w
in_front v w vs ws e = cc

pub second_is : (ws : List (String Global)) (a : String Global) (t : List ℕ) (r : Bool) → 2 ≤ length ws → a ≡ slice_index_or ws 1 a → t ≡ string_bytes a
    → (IsTrue r ↔ IsObjectId t) → IsTrue r ↔ HasObjectId (map string_bytes ws)
second_is [] a t r l e f h = absurd (omega (arith, l))
second_is (x ∷ []) a t r l e f h = absurd (omega (arith, l))
second_is (x ∷ y ∷ ws) a t r l e f h =
    let same : t ≡ string_bytes y = f ∙ ap string_bytes e in (
      λ on. (string_bytes x, string_bytes y, map string_bytes ws, refl, subst IsObjectId same (h.0 on)),
      λ (coll, id, more, is, digits). h.1 (subst IsObjectId (sym (same ∙ behind_first (string_bytes x) coll (string_bytes y) id (map string_bytes ws) more is)) digits),
    )

pub told_so : (r : Result (String Global) AllocError) (P Q : String Global → Type 0) → ((t : String Global) → P t → Q t) → IfOk r P → IfOk r Q
told_so (Ok t) P Q f h = f t h
told_so (Err e) P Q f h = tt

pub same_file : (ws bs : List (String Global)) (f : String Global) (file : List ℕ) (rest : List (List ℕ)) → ws ≡ f ∷ bs → map string_bytes ws ≡ file ∷ rest
    → string_bytes f ≡ file
same_file ws bs f file rest e is = in_front (string_bytes f) file (map string_bytes bs) rest (sym (ap (map string_bytes) e) ∙ is)

behind_it : (v w : List ℕ) (vs ws : List (List ℕ)) → v ∷ vs ≡ w ∷ ws → vs ≡ ws
behind_it v w vs ws e = cc

pub same_behind : (ws bs : List (String Global)) (f : String Global) (file : List ℕ) (rest : List (List ℕ)) → ws ≡ f ∷ bs → map string_bytes ws ≡ file ∷ rest
    → map string_bytes bs ≡ rest
same_behind ws bs f file rest e is = behind_it (string_bytes f) file (map string_bytes bs) rest (sym (ap (map string_bytes) e) ∙ is)

-- an option and its value are one word, or not
pub hints_so : (r : Result (String Global) AllocError) (P : String Global → Type 0) (b : Bool) (word : List ℕ) (words rest : List (List ℕ)) → b ≡ list_any is_joined words → words ≡ rest → ((t : String Global) → P t → HintsIf b word (string_bytes t)) → IfOk r P
    → IfOk r (λ t. HintsIf (list_any is_joined rest) word (string_bytes t))
hints_so r P b word words rest is same f h =
    told_so r P (λ t. HintsIf (list_any is_joined rest) word (string_bytes t)) (λ t p. subst (λ x. HintsIf x word (string_bytes t)) (is ∙ ap (list_any is_joined) same) (f t p)) h

pub same_word : (ws bs cs : List (String Global)) (f w : String Global) (file word : List ℕ) (more : List (List ℕ)) → ws ≡ f ∷ bs → bs ≡ w ∷ cs
    → map string_bytes ws ≡ file ∷ word ∷ more → string_bytes w ≡ word
same_word ws bs cs f w file word more e g is = behind_first (string_bytes f) file (string_bytes w) word (map string_bytes cs) more
    (sym (ap (map string_bytes) (e ∙ ap (λ x. f ∷ x) g)) ∙ is)

pub no_words : (ws : List (String Global)) (file : List ℕ) (rest : List (List ℕ)) → length ws ≡ 0 → map string_bytes ws ≡ file ∷ rest → ⊥
no_words [] file rest n is = absurd (omega (arith, ap length is))
no_words (w ∷ ws) file rest n is = absurd (omega (arith, n))

pub one_word : (ws bs : List (String Global)) (f : String Global) (file word : List ℕ) (more : List (List ℕ)) → ws ≡ f ∷ bs → length bs ≡ 0
    → map string_bytes ws ≡ file ∷ word ∷ more → ⊥
one_word ws [] f file word more e n is = absurd (omega (arith, ap length (sym (ap (map string_bytes) e) ∙ is)))
one_word ws (b ∷ bs) f file word more e n is = absurd (omega (arith, n))
