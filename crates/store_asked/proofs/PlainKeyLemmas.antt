-- What a document is sorted by where the way along the path meets no array: the one value that is there.
use Rattle.std.proofs.Common.{◌≡◌, ◌∙◌, ℕ, zero, suc, List, [], ◌∷◌, take, Bool, true, false, Option, Some, None, refl, sym, ap, subst}
use Rattle.std.specs.Prelude.{IsSomeAnd, IsTrue, option_and_then, unwrap_or}
use Rattle.bson_base.specs.Value.{Value, scalar, null, array, document, scoped_code, Members, look_up, value_kind}
use Rattle.store_model.specs.Filter.{at, Path}
use Rattle.store_pipeline.specs.Order.{best, led_to, sorted_by, under}
use Rattle.bson_store.specs.Marks.{is_wide_kind}

abbrev IsNarrow : Path → Value → Type 0
IsNarrow p v = (n : ℕ) → IsSomeAnd (at v (take n p)) (λ u. IsTrue (is_wide_kind (value_kind u))) → ⊥

ends : (opens : Bool) (v w : Value) → IsNarrow [] v → v ≡ w → led_to opens [] v ≡ w ∷ []
ends true (scalar s) w h e = ap (λ u. u ∷ []) e
ends true (array vs) w h e = absurd (h zero refl)
ends true (document ms) w h e = ap (λ u. u ∷ []) e
ends true (scoped_code t ms) w h e = ap (λ u. u ∷ []) e
ends false v w h e = ap (λ u. u ∷ []) e

goes_in : (o : Option Value) (k : List ℕ) (p : Path) (ms : Members) (w : Value) → look_up k ms ≡ o → IsNarrow (k ∷ p) (document ms) → at (document ms) (k ∷ p) ≡ Some w
    → ((u : Value) → IsNarrow p u → at u p ≡ Some w → led_to true p u ≡ w ∷ []) → under (led_to true p) (look_up k ms) ≡ w ∷ []
goes_in None k p ms w e h is on = absurd (let none : None ≡ Some w = sym (ap (option_and_then (λ u. at u p)) e) ∙ is in cc none)
goes_in (Some u) k p ms w e h is on =
    let there : at u p ≡ Some w = sym (ap (option_and_then (λ x. at x p)) e) ∙ is in
    ap (under (led_to true p)) e ∙ on u (λ n s. h (suc n) (subst (λ o. IsSomeAnd (option_and_then (λ x. at x (take n p)) o) (λ x. IsTrue (is_wide_kind (value_kind x)))) (sym e) s)) there

-- the path leads to this value alone
pub led_alone : (opens : Bool) (p : Path) (v w : Value) → IsNarrow p v → at v p ≡ Some w → led_to opens p v ≡ w ∷ []
led_alone opens [] v w h is = ends opens v w h (let same : v ≡ w = cc is in same)
led_alone opens (k ∷ p) (document ms) w h is = goes_in (look_up k ms) k p ms w refl h is (λ u. led_alone true p u w)
led_alone opens (k ∷ p) (array vs) w h is = absurd (h zero refl)
led_alone opens (k ∷ p) (scalar s) w h is = absurd (cc is)
led_alone opens (k ∷ p) (scoped_code t ms) w h is = absurd (cc is)

pub sorted_alone : (p : Path) (descending : Bool) (d : Members) (w : Value) → IsNarrow p (document d) → at (document d) p ≡ Some w → sorted_by p descending d ≡ w
sorted_alone p descending d w h is = ap (λ l. unwrap_or (best descending None l) (scalar null)) (led_alone true p (document d) w h is)
