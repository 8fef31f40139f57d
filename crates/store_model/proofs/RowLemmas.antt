-- Rows that are added last, changed or removed, and the lists that they represent.
use Rattle.std.proofs.Common.{◌≡◌, ℕ, List, [], ◌∷◌, ◌++◌, map, Bool, true, false, cond, refl, ap, ◌∙◌, sym, append-nil}
use Rattle.std.specs.Prelude.{bytes_eq}
use Rattle.std.specs.Ordering.{nat_cmp}
use Rattle.std.specs.Cmp.Lexicographic.{slice_cmp}
use Rattle.std.specs.FinMap.{get-empty}
use Rattle.bson_base.specs.Value.{Members}
use Rattle.store_model.specs.Reading.{Documents}
use Rattle.store_model.specs.State.{list_of, or_no_documents, store}
use Rattle.store_model.specs.Table.{DocumentRow, DocumentTable, state_of, documents_of, AreOf, with_document}
use Rattle.store_model.proofs.StateLemmas.{HasNoEmpty, list_of-store, never_empty, same_lists}
use Rattle.bson_base.proofs.MemberLemmas.{equal_keys, same_key}

pub rows_not_empty : (rs : DocumentTable) → HasNoEmpty (state_of rs)
rows_not_empty [] n e = let none = sym (get-empty (slice_cmp nat_cmp) n) ∙ e in cc
rows_not_empty (r ∷ rs) n e = never_empty (state_of rs) r.name n (r.document ∷ list_of (state_of rs) r.name) (rows_not_empty rs) e

pub list_of-state_of : (rs : DocumentTable) (n : List ℕ) → list_of (state_of rs) n ≡ documents_of rs n
list_of-state_of [] n = ap or_no_documents (get-empty (slice_cmp nat_cmp) n)
list_of-state_of (r ∷ rs) n = list_of-store (state_of rs) r.name n (r.document ∷ list_of (state_of rs) r.name) ∙ by (bytes_eq n r.name) refl (list_of-state_of rs n)
  where
    by : (b : Bool) → bytes_eq n r.name ≡ b → list_of (state_of rs) n ≡ documents_of rs n → cond b (r.document ∷ list_of (state_of rs) r.name) (list_of (state_of rs) n) ≡ cond b (r.document ∷ documents_of rs n) (documents_of rs n)
    by true e rest = ap (λ m. r.document ∷ list_of (state_of rs) m) (sym (equal_keys n r.name e)) ∙ ap (λ ds. r.document ∷ ds) rest
    by false e rest = rest

pub documents_of-append : (rs ss : DocumentTable) (n : List ℕ) → documents_of (rs ++ ss) n ≡ documents_of rs n ++ documents_of ss n
documents_of-append [] ss n = refl
documents_of-append (r ∷ rs) ss n = by (bytes_eq n r.name) (documents_of-append rs ss n)
  where
    by : (b : Bool) → documents_of (rs ++ ss) n ≡ documents_of rs n ++ documents_of ss n
        → cond b (r.document ∷ documents_of (rs ++ ss) n) (documents_of (rs ++ ss) n) ≡ cond b (r.document ∷ documents_of rs n) (documents_of rs n) ++ documents_of ss n
    by true e = ap (λ ds. r.document ∷ ds) e
    by false e = e

-- a table represents what another represents, with ds under the name n
pub state_is : (a b : DocumentTable) (n : List ℕ) (ds : Documents) → documents_of b n ≡ ds → ((m : List ℕ) → bytes_eq m n ≡ false → documents_of b m ≡ documents_of a m) → state_of b ≡ store (state_of a) n ds
state_is a b n ds here there = same_lists _ _ (rows_not_empty b) (λ m. never_empty (state_of a) n m ds (rows_not_empty a))
    (λ m. list_of-state_of b m ∙ by m (bytes_eq m n) refl ∙ sym (list_of-store (state_of a) n m ds))
  where
    by : (m : List ℕ) (c : Bool) → bytes_eq m n ≡ c → documents_of b m ≡ cond c ds (list_of (state_of a) m)
    by m true e = ap (documents_of b) (equal_keys m n e) ∙ here
    by m false e = there m e ∙ sym (list_of-state_of a m)

pub own_row : (r : DocumentRow) (rs : DocumentTable) → documents_of (r ∷ rs) r.name ≡ r.document ∷ documents_of rs r.name
own_row r rs = ap (λ b. cond b (r.document ∷ documents_of rs r.name) (documents_of rs r.name)) (same_key r.name)

other_row : (m : List ℕ) (r : DocumentRow) (rs : DocumentTable) → bytes_eq m r.name ≡ false → documents_of (r ∷ rs) m ≡ documents_of rs m
other_row m r rs e = ap (λ b. cond b (r.document ∷ documents_of rs m) (documents_of rs m)) e

of_name : (n : List ℕ) (rs : DocumentTable) → AreOf n rs → documents_of rs n ≡ map (λ r. r.document) rs
of_name n [] h = refl
of_name n (r ∷ rs) h = ap (λ b. cond b (r.document ∷ documents_of rs n) (documents_of rs n)) (ap (bytes_eq n) h.0 ∙ same_key n) ∙ ap (λ ds. r.document ∷ ds) (of_name n rs h.1)

of_others : (n m : List ℕ) (rs : DocumentTable) → AreOf n rs → bytes_eq m n ≡ false → documents_of rs m ≡ []
of_others n m [] h e = refl
of_others n m (r ∷ rs) h e = ap (λ b. cond b (r.document ∷ documents_of rs m) (documents_of rs m)) (ap (bytes_eq m) h.0 ∙ e) ∙ of_others n m rs h.1 e

pub rows_last : (a new : DocumentTable) (n : List ℕ) → AreOf n new → state_of (a ++ new) ≡ store (state_of a) n (list_of (state_of a) n ++ map (λ r. r.document) new)
rows_last a new n h = state_is a (a ++ new) n _
    (documents_of-append a new n ∙ ap (λ ds. ds ++ documents_of new n) (sym (list_of-state_of a n)) ∙ ap (λ ds. list_of (state_of a) n ++ ds) (of_name n new h))
    (λ m e. documents_of-append a new m ∙ ap (λ ds. documents_of a m ++ ds) (of_others n m new h e) ∙ append-nil (documents_of a m))

pub row_changed : (front : DocumentTable) (r : DocumentRow) (back : DocumentTable) (d : Members)
    → state_of (front ++ with_document d r ∷ back) ≡ store (state_of (front ++ r ∷ back)) r.name (documents_of front r.name ++ d ∷ documents_of back r.name)
row_changed front r back d = state_is (front ++ r ∷ back) (front ++ with_document d r ∷ back) r.name _
    (documents_of-append front (with_document d r ∷ back) r.name ∙ ap (λ ds. documents_of front r.name ++ ds) (own_row (with_document d r) back))
    (λ m e. documents_of-append front (with_document d r ∷ back) m ∙ ap (λ ds. documents_of front m ++ ds) (other_row m (with_document d r) back e ∙ sym (other_row m r back e)) ∙ sym (documents_of-append front (r ∷ back) m))

pub row_gone : (front : DocumentTable) (r : DocumentRow) (back : DocumentTable)
    → state_of (front ++ back) ≡ store (state_of (front ++ r ∷ back)) r.name (documents_of front r.name ++ documents_of back r.name)
row_gone front r back = state_is (front ++ r ∷ back) (front ++ back) r.name _
    (documents_of-append front back r.name)
    (λ m e. documents_of-append front back m ∙ ap (λ ds. documents_of front m ++ ds) (sym (other_row m r back e)) ∙ sym (documents_of-append front (r ∷ back) m))

-- and where it was
pub row_there : (front : DocumentTable) (r : DocumentRow) (back : DocumentTable) → list_of (state_of (front ++ r ∷ back)) r.name ≡ documents_of front r.name ++ r.document ∷ documents_of back r.name
row_there front r back = list_of-state_of (front ++ r ∷ back) r.name ∙ documents_of-append front (r ∷ back) r.name ∙ ap (λ ds. documents_of front r.name ++ ds) (own_row r back)
