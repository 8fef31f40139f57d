-- What is stored under a name, and when two states are equal.
use Rattle.std.proofs.Common.{◌≡◌, ◌≢◌, ℕ, List, [], ◌∷◌, Bool, true, false, cond, Option, Some, None, refl, ap, ◌∙◌, sym}
use Rattle.std.specs.Prelude.{bytes_eq}
use Rattle.std.specs.Ordering.{nat_cmp, eq_by_cmp}
use Rattle.std.specs.Cmp.Lexicographic.{slice_cmp, texts_ties}
use Rattle.std.specs.FinMap.{get, get-insert, get-remove, same_map, slice_cmp-IsAntisymmetric, nat_cmp-IsAntisymmetric}
use Rattle.std.proofs.lemmas.Cmp.{nat_list_cmp_total}
use Rattle.store_model.specs.Reading.{Documents}
use Rattle.store_model.specs.State.{State, list_of, or_no_documents, store}
use Rattle.bson_base.proofs.MemberLemmas.{equal_keys}

listed_if : (b : Bool) (ds : Documents) (o : Option Documents) → or_no_documents (cond b (Some ds) o) ≡ cond b ds (or_no_documents o)
listed_if true ds o = refl
listed_if false ds o = refl

gone_if : (b : Bool) (o : Option Documents) → or_no_documents (cond b None o) ≡ cond b [] (or_no_documents o)
gone_if true o = refl
gone_if false o = refl

pub list_of-store : (s : State) (n m : List ℕ) (ds : Documents) → list_of (store s n ds) m ≡ cond (bytes_eq m n) ds (list_of s m)
list_of-store s n m [] = ap or_no_documents (get-remove nat_list_cmp_total s n m) ∙ gone_if (eq_by_cmp (slice_cmp nat_cmp) m n) (get s m) ∙ ap (λ b. cond b [] (list_of s m)) (sym (texts_ties m n))
list_of-store s n m (d ∷ ds) = ap or_no_documents (get-insert nat_list_cmp_total s n (d ∷ ds) m) ∙ listed_if (eq_by_cmp (slice_cmp nat_cmp) m n) (d ∷ ds) (get s m) ∙ ap (λ b. cond b (d ∷ ds) (list_of s m)) (sym (texts_ties m n))

-- no name has the empty list
abbrev pub HasNoEmpty : State → Type 0
HasNoEmpty s = (n : List ℕ) → get s n ≢ Some []

pub never_empty : (s : State) (n m : List ℕ) (ds : Documents) → HasNoEmpty s → get (store s n ds) m ≢ Some []
never_empty s n m [] h e = by (eq_by_cmp (slice_cmp nat_cmp) m n) (sym (get-remove nat_list_cmp_total s n m) ∙ e)
  where
    by : (b : Bool) → cond b None (get s m) ≡ Some [] → ⊥
    by true x = cc
    by false x = h m x
never_empty s n m (d ∷ ds) h e = by (eq_by_cmp (slice_cmp nat_cmp) m n) (sym (get-insert nat_list_cmp_total s n (d ∷ ds) m) ∙ e)
  where
    by : (b : Bool) → cond b (Some (d ∷ ds)) (get s m) ≡ Some [] → ⊥
    by true x = cc
    by false x = h m x

-- two states without empty lists are equal if each name has the same list in both
pub same_lists : (s t : State) → HasNoEmpty s → HasNoEmpty t → ((n : List ℕ) → list_of s n ≡ list_of t n) → s ≡ t
same_lists s t h k e = same_map nat_list_cmp_total (slice_cmp-IsAntisymmetric nat_cmp-IsAntisymmetric) s t (λ q. at_name (get s q) (get t q) (h q) (k q) (e q))
  where
    at_name : (o p : Option Documents) → o ≢ Some [] → p ≢ Some [] → or_no_documents o ≡ or_no_documents p → o ≡ p
    at_name None None a b c = refl
    at_name None (Some []) a b c = absurd (b refl)
    at_name None (Some (d ∷ ds)) a b c = cc
    at_name (Some []) p a b c = absurd (a refl)
    at_name (Some (d ∷ ds)) None a b c = cc
    at_name (Some (d ∷ ds)) (Some es) a b c = ap Some c

-- the list of a name stored under it again changes nothing
pub stored_again : (s : State) (n : List ℕ) → HasNoEmpty s → store s n (list_of s n) ≡ s
stored_again s n h = same_lists _ s (λ m. never_empty s n m (list_of s n) h) h (λ m. list_of-store s n m (list_of s n) ∙ by m (bytes_eq m n) refl)
  where
    by : (m : List ℕ) (b : Bool) → bytes_eq m n ≡ b → cond b (list_of s n) (list_of s m) ≡ list_of s m
    by m true e = ap (list_of s) (sym (equal_keys m n e))
    by m false e = refl
