-- The list under one key is changed.
use Rattle.std.proofs.Common.{◌≡◌, ℕ, ℤ, List, Bool, true, false, cond, Option, Vec, bytes_eq, is_eq, refl, sym, ap, ◌∙◌}
use Rattle.std.specs.declared.alloc.Global.{Global}
use Rattle.std.specs.Cmp.Lexicographic.{slice_cmp}
use Rattle.std.specs.Ordering.{nat_cmp}
use Rattle.std.specs.declared.cmp.Ordering.{Ordering}
use Rattle.std.specs.BTreeMap.{BTreeMap, get_by}
use Rattle.std.proofs.lemmas.Map.Text.{is_eq-slice_cmp}
use Rattle.std.proofs.lemmas.Slice.Eq.{bytes_eq-Decides}
use Rattle.bson_store.specs.Lists.{is_among}
use Rattle.bson_store.specs.Under.{list_under, places_of}
use Rattle.bson_store.specs.declared.indexed.place_list.PlaceList.{PlaceList}

abbrev pub at_key : List ℕ → Vec ℕ Global → Ordering
at_key k v = slice_cmp nat_cmp k v.items

pub twice : (b : Bool) (x m y : Option PlaceList) → cond b x (cond b m y) ≡ cond b x y
twice true x m y = refl
twice false x m y = refl

-- what is under each key, where another list comes under one of them
pub moved_list : (old new : BTreeMap (Vec ℕ Global) PlaceList) (key k : Vec ℕ Global) (o rest : Option PlaceList) (q : ℤ) → o ≡ get_by (at_key key.items) old
    → (is_among q (places_of o) ≡ true → is_among q (places_of rest) ≡ true)
    → get_by (at_key k.items) new ≡ cond (is_eq (slice_cmp nat_cmp key.items k.items)) rest (get_by (at_key k.items) old)
    → is_among q (list_under old k.items) ≡ true → is_among q (list_under new k.items) ≡ true
moved_list old new key k o rest q was on is h = by (bytes_eq key.items k.items) refl
  where
    by : (b : Bool) → bytes_eq key.items k.items ≡ b → is_among q (list_under new k.items) ≡ true
    by true e =
        let t : is_eq (slice_cmp nat_cmp key.items k.items) ≡ true = is_eq-slice_cmp key.items k.items ∙ e in
        let same : key.items ≡ k.items = (bytes_eq-Decides key.items k.items).0 e in
        let there : is_among q (places_of o) ≡ true = ap (λ (x : Option PlaceList). is_among q (places_of x)) (was ∙ ap (λ (x : List ℕ). get_by (at_key x) old) same) ∙ h in
        ap (λ (x : Option PlaceList). is_among q (places_of x)) (is ∙ ap (λ (c : Bool). cond c rest (get_by (at_key k.items) old)) t) ∙ on there
    by false e =
        let t : is_eq (slice_cmp nat_cmp key.items k.items) ≡ false = is_eq-slice_cmp key.items k.items ∙ e in
        ap (λ (x : Option PlaceList). is_among q (places_of x)) (is ∙ ap (λ (c : Bool). cond c rest (get_by (at_key k.items) old)) t) ∙ h

-- what is under a key now was under it before
pub back_list : (old new : BTreeMap (Vec ℕ Global) PlaceList) (key k : Vec ℕ Global) (o rest : Option PlaceList) (q : ℤ) → o ≡ get_by (at_key key.items) old
    → (is_among q (places_of rest) ≡ true → is_among q (places_of o) ≡ true)
    → get_by (at_key k.items) new ≡ cond (is_eq (slice_cmp nat_cmp key.items k.items)) rest (get_by (at_key k.items) old)
    → is_among q (list_under new k.items) ≡ true → is_among q (list_under old k.items) ≡ true
back_list old new key k o rest q was back is h = by (bytes_eq key.items k.items) refl
  where
    by : (b : Bool) → bytes_eq key.items k.items ≡ b → is_among q (list_under old k.items) ≡ true
    by true e =
        let t : is_eq (slice_cmp nat_cmp key.items k.items) ≡ true = is_eq-slice_cmp key.items k.items ∙ e in
        let same : key.items ≡ k.items = (bytes_eq-Decides key.items k.items).0 e in
        let there : is_among q (places_of rest) ≡ true = sym (ap (λ (x : Option PlaceList). is_among q (places_of x)) (is ∙ ap (λ (c : Bool). cond c rest (get_by (at_key k.items) old)) t)) ∙ h in
        sym (ap (λ (x : Option PlaceList). is_among q (places_of x)) (was ∙ ap (λ (x : List ℕ). get_by (at_key x) old) same)) ∙ back there
    by false e =
        let t : is_eq (slice_cmp nat_cmp key.items k.items) ≡ false = is_eq-slice_cmp key.items k.items ∙ e in
        sym (ap (λ (x : Option PlaceList). is_among q (places_of x)) (is ∙ ap (λ (c : Bool). cond c rest (get_by (at_key k.items) old)) t)) ∙ h

-- what is no longer in the list is no longer under its key
pub gone_list : (new : BTreeMap (Vec ℕ Global) PlaceList) (key : Vec ℕ Global) (rest other : Option PlaceList) (p : ℤ) → (is_among p (places_of rest) ≡ true → ⊥) → get_by (at_key key.items) new ≡ cond (is_eq (slice_cmp nat_cmp key.items key.items)) rest other
    → is_among p (list_under new key.items) ≡ true → ⊥
gone_list new key rest other p gone is h =
    let t : is_eq (slice_cmp nat_cmp key.items key.items) ≡ true = is_eq-slice_cmp key.items key.items ∙ (bytes_eq-Decides key.items key.items).1 refl in
    gone (sym (ap (λ (x : Option PlaceList). is_among p (places_of x)) (is ∙ ap (λ (c : Bool). cond c rest other) t)) ∙ h)

-- under another key nothing is added
pub other_list : (old new : BTreeMap (Vec ℕ Global) PlaceList) (key k : Vec ℕ Global) (rest : Option PlaceList) (p : ℤ) → (k.items ≡ key.items → ⊥) → get_by (at_key k.items) new ≡ cond (is_eq (slice_cmp nat_cmp key.items k.items)) rest (get_by (at_key k.items) old)
    → is_among p (list_under new k.items) ≡ true → is_among p (list_under old k.items) ≡ true
other_list old new key k rest p other is h = by (bytes_eq key.items k.items) refl
  where
    by : (b : Bool) → bytes_eq key.items k.items ≡ b → is_among p (list_under old k.items) ≡ true
    by true e = absurd (other (sym ((bytes_eq-Decides key.items k.items).0 e)))
    by false e =
        let t : is_eq (slice_cmp nat_cmp key.items k.items) ≡ false = is_eq-slice_cmp key.items k.items ∙ e in
        sym (ap (λ (x : Option PlaceList). is_among p (places_of x)) (is ∙ ap (λ (c : Bool). cond c rest (get_by (at_key k.items) old)) t)) ∙ h
