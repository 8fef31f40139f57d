-- Steps of a question.
use Rattle.std.proofs.Common.{◌≡◌, ◌↔◌, ◌⊎◌, inl, inr, ℕ, ◌+◌, ◌<◌, ◌≤◌, List, [], ◌∷◌, map, drop, length, get_or, Bool, true, false, IsTrue, Option, Some, None, is_some, String, string_bytes, refl, sym, ◌∙◌, subst, arith, add-one}
use Rattle.std.specs.Prelude.{IsSomeAnd, MatchOption, not}
use Rattle.std.specs.declared.alloc.Global.{Global}
use Rattle.std.proofs.Math.Seq.{drop-cons}
use Rattle.std.proofs.lemmas.List.{drop_all}
use Rattle.std.specs.Str.{bytes_eq}
use Rattle.bson_base.proofs.MemberLemmas.{equal_keys, same_key}
use Rattle.bson_base.specs.Value.{Value, scalar, array, document, scoped_code, Items, Members, look_up}
use Rattle.bson_raw.specs.declared.bson_ref.RawBsonRef.{RawBsonRef}
use Rattle.bson_raw.specs.declared.bson_ref.RawBsonRef.TheVariants as views
use Rattle.bson_raw.specs.ReadValue.{as_document}
use Rattle.store_question.specs.Filters.{path_of}
use Rattle.store_question.specs.Views.{Encodes}
use Rattle.store_model.specs.Filter.{pairs, under_places, Path}
use Rattle.store_question.specs.declared.question.Question.{Question}
use Rattle.store_question.specs.Asked.{Asked, Askeds, no_asked, Answers, AnswersAll, AnswersAny, AnyMember, HasItem, AtEnd, AtMember, AtPlace, Along, IntoDocument, Through, Under}
use Rattle.store_question.specs.Reads.{form, forms_of, form_of, Reads, ReadEach, Found, Shows, HoldsItems}

pub answered : (b : Bool) (t a : Asked) (o : Option Value) → t ≡ a → IsTrue b ↔ Answers a o → IsTrue b ↔ Answers t o
answered b t a o e h = subst (λ (x : Asked). IsTrue b ↔ Answers x o) (sym e) h

pub exists_told : (b : Bool) (value : Option RawBsonRef) (o : Option Value) → Shows value o → b ≡ is_some value → IsTrue b ↔ IsSomeAnd o (λ v. Unit {0})
exists_told b None o s e = subst (λ (x : Option Value). IsTrue b ↔ IsSomeAnd x (λ v. Unit {0})) (sym s) (λ t. absurd cc, λ t. absurd t)
exists_told b (Some raw) o s e = subst (λ (x : Option Value). IsTrue b ↔ IsSomeAnd x (λ v. Unit {0})) (sym s.1) (λ t. tt, λ t. e)

pub not_told : (b c : Bool) (A : Type 0) → c ≡ not b → IsTrue b ↔ A → IsTrue c ↔ (A → ⊥)
not_told true c A e h = (λ t. absurd cc, λ n. absurd (n (h.0 refl)))
not_told false c A e h = (λ t a. let f = h.1 a in absurd cc, λ n. e)

pub same_truths : (b c : Bool) (A : Type 0) → c ≡ b → IsTrue b ↔ A → IsTrue c ↔ A
same_truths b c A e h = (λ t. h.0 (sym e ∙ t), λ a. e ∙ h.1 a)

-- ---- lists of questions

-- those that are left decide
pub record AllLeft (whole : Askeds) (o : Option Value) (list : List Question) : Type 0 where
  pub left : Askeds
  pub read : ReadEach (forms_of (map form_of list)) left
  pub same : AnswersAll whole o ↔ AnswersAll left o

pub record SomeLeft (whole : Askeds) (o : Option Value) (list : List Question) : Type 0 where
  pub left : Askeds
  pub read : ReadEach (forms_of (map form_of list)) left
  pub same : AnswersAny whole o ↔ AnswersAny left o

pub front : (list : List Question) (i : ℕ) (q : Question) → q ≡ get_or list i q → i < length list → drop i list ≡ q ∷ drop (i + 1) list
front list i q e h = drop-cons list i q h ∙ rw (← e, add-one) refl

module _ (whole : Askeds) (o : Option Value) (list : List Question) (i : ℕ) (q : Question) (e : q ≡ get_or list i q) (h : i < length list) where
  module _ (l : AllLeft whole o (drop i list)) where
    split_all : ReadEach (form (form_of q) (forms_of (map form_of (drop (i + 1) list)))) l.left
    split_all = subst (λ (qs : List Question). ReadEach (forms_of (map form_of qs)) l.left) (front list i q e h) l.read

    all_opened : AnswersAll whole o ↔ (Answers split_all.0 o × AnswersAll split_all.1 o)
    all_opened = subst (λ (ts : Askeds). AnswersAll whole o ↔ AnswersAll ts o) split_all.2 l.same

    -- what holds for whatever the question reads
    pub all_refused : (P : Type 0) → ((t : Asked) → Reads (form_of q) t → P) → P
    all_refused P told = told split_all.0 split_all.3

    pub all_broken : (b : Bool) → ((t : Asked) → Reads (form_of q) t → IsTrue b ↔ Answers t o) → b ≡ false → IsTrue false ↔ AnswersAll whole o
    all_broken b told f = (λ t. absurd cc, λ a. let yes = (told split_all.0 split_all.3).1 (all_opened.0 a).0 in absurd cc)

    pub all_on : (b : Bool) → ((t : Asked) → Reads (form_of q) t → IsTrue b ↔ Answers t o) → IsTrue b → AllLeft whole o (drop (i + 1) list)
    all_on b told t = record {
      left = split_all.1;
      read = split_all.4;
      same = (λ a. (all_opened.0 a).1, λ a. all_opened.1 ((told split_all.0 split_all.3).0 t, a));
    }

  module _ (l : SomeLeft whole o (drop i list)) where
    split_some : ReadEach (form (form_of q) (forms_of (map form_of (drop (i + 1) list)))) l.left
    split_some = subst (λ (qs : List Question). ReadEach (forms_of (map form_of qs)) l.left) (front list i q e h) l.read

    some_opened : AnswersAny whole o ↔ (Answers split_some.0 o ⊎ AnswersAny split_some.1 o)
    some_opened = subst (λ (ts : Askeds). AnswersAny whole o ↔ AnswersAny ts o) split_some.2 l.same

    pub some_refused : (P : Type 0) → ((t : Asked) → Reads (form_of q) t → P) → P
    some_refused P told = told split_some.0 split_some.3

    pub some_found : (b : Bool) → ((t : Asked) → Reads (form_of q) t → IsTrue b ↔ Answers t o) → IsTrue b → IsTrue true ↔ AnswersAny whole o
    some_found b told t = (λ u. some_opened.1 (inl ((told split_some.0 split_some.3).0 t)), λ a. refl)

    pub some_on : (b : Bool) → ((t : Asked) → Reads (form_of q) t → IsTrue b ↔ Answers t o) → b ≡ false → SomeLeft whole o (drop (i + 1) list)
    some_on b told f = record {
      left = split_some.1;
      read = split_some.4;
      same = (λ a. rest (some_opened.0 a), λ a. some_opened.1 (inr a));
    }
      where
        rest : Answers split_some.0 o ⊎ AnswersAny split_some.1 o → AnswersAny split_some.1 o
        rest (inl a) = let yes = (told split_some.0 split_some.3).1 a in absurd cc
        rest (inr a) = a

none_left : (list : List Question) (i : ℕ) (left : Askeds) → length list ≤ i → ReadEach (forms_of (map form_of (drop i list))) left → left ≡ no_asked
none_left list i left h r = subst (λ (qs : List Question). ReadEach (forms_of (map form_of qs)) left) (drop_all i list h) r

pub all_end : (whole : Askeds) (o : Option Value) (list : List Question) (i : ℕ) → length list ≤ i → AllLeft whole o (drop i list) → IsTrue true ↔ AnswersAll whole o
all_end whole o list i h l =
    let none = none_left list i l.left h l.read in
    (λ t. l.same.1 (subst (λ (ts : Askeds). AnswersAll ts o) (sym none) tt), λ a. refl)

pub some_end : (whole : Askeds) (o : Option Value) (list : List Question) (i : ℕ) → length list ≤ i → SomeLeft whole o (drop i list) → IsTrue false ↔ AnswersAny whole o
some_end whole o list i h l =
    let none = none_left list i l.left h l.read in
    (λ t. absurd cc, λ a. absurd (subst (λ (ts : Askeds). AnswersAny ts o) none (l.same.0 a)))

-- ---- kinds of values on the way

pub is_document : (raw : RawBsonRef) (v : Value) (b : Bool) → b ≡ is_some (as_document raw) → b ≡ true → Encodes raw v → (ms : Members) × (v ≡ document ms)
is_document (views.Document x) v b e t h = (h.0, h.1)
is_document raw v b e t h = absurd cc

abbrev pub IsNoDocument : Value → Type 0
IsNoDocument (document ms) = ⊥
IsNoDocument v = Unit {0}

pub no_document : (raw : RawBsonRef) (v : Value) (b : Bool) → b ≡ is_some (as_document raw) → b ≡ false → Encodes raw v → IsNoDocument v
no_document (views.Document x) v b e f h = absurd cc
no_document (views.Array x) v b e f h = subst IsNoDocument (sym h.1) tt
no_document (views.JavaScriptCodeWithScope x) v b e f h = subst IsNoDocument (sym h.1) tt
no_document raw v b e f h = subst IsNoDocument (sym h) tt

module _ (opens : Bool) (P : Option Value → Type 0) where
  pub along_key : (b : Bool) (path : List (String Global)) (key : String Global) (rest : List (String Global)) (k : List ℕ) (o : Option Value) (raw : RawBsonRef) → path ≡ key ∷ rest → k ≡ string_bytes key → Shows (Some raw) o
      → ((v : Value) → Found raw v → IsTrue b ↔ Under opens P k (AtMember opens P (path_of rest)) (pairs v)) → IsTrue b ↔ Along opens P (path_of path) o
  along_key b path key rest k o raw e named s told =
      subst (λ (x : Option Value). IsTrue b ↔ Along opens P (path_of path) x) (sym s.1)
      (subst (λ (p : List (String Global)). IsTrue b ↔ Along opens P (path_of p) (Some s.0)) (sym e)
      (subst (λ (n : List ℕ). IsTrue b ↔ Under opens P n (AtMember opens P (path_of rest)) (pairs s.0)) named (told s.0 s.2)))

  pub along_none : (b : Bool) (path : List (String Global)) (key : String Global) (rest : List (String Global)) (o : Option Value) → path ≡ key ∷ rest → o ≡ None → IsTrue b ↔ P None → IsTrue b ↔ Along opens P (path_of path) o
  along_none b path key rest o e n h = subst (λ (x : Option Value). IsTrue b ↔ Along opens P (path_of path) x) (sym n) (subst (λ (p : List (String Global)). IsTrue b ↔ Along opens P (path_of p) None) (sym e) h)

  empty_path : (path : List (String Global)) → length path ≡ 0 → path ≡ []
  empty_path [] e = refl
  empty_path (k ∷ ks) e = absurd (omega arith)

  pub along_over : (b : Bool) (path : List (String Global)) (o : Option Value) → length path ≡ 0 → IsTrue b ↔ P o → IsTrue b ↔ Along opens P (path_of path) o
  along_over b path o e h = subst (λ (p : List (String Global)). IsTrue b ↔ Along opens P (path_of p) o) (sym (empty_path path e)) h

  pub under_found : (b : Bool) (k : List ℕ) (On : Value → Type 0) (ms : Members) (w : Value) → look_up k ms ≡ Some w → IsTrue b ↔ On w → IsTrue b ↔ Under opens P k On ms
  under_found b k On ms w e h = subst (λ (o : Option Value). IsTrue b ↔ MatchOption o (P None) On) (sym e) h

  pub under_none : (b : Bool) (k : List ℕ) (On : Value → Type 0) (ms : Members) → look_up k ms ≡ None → IsTrue b ↔ P None → IsTrue b ↔ Under opens P k On ms
  under_none b k On ms e h = subst (λ (o : Option Value). IsTrue b ↔ MatchOption o (P None) On) (sym e) h

  pub member_over : (b : Bool) (path : List (String Global)) (v : Value) → length path ≡ 0 → IsTrue b ↔ AtEnd opens P v → IsTrue b ↔ AtMember opens P (path_of path) v
  member_over b path v e h = subst (λ (p : List (String Global)). IsTrue b ↔ AtMember opens P (path_of p) v) (sym (empty_path path e)) h

  pub place_over : (b : Bool) (path : List (String Global)) (v : Value) → length path ≡ 0 → IsTrue b ↔ P (Some v) → IsTrue b ↔ AtPlace opens P (path_of path) v
  place_over b path v e h = subst (λ (p : List (String Global)). IsTrue b ↔ AtPlace opens P (path_of p) v) (sym (empty_path path e)) h

  module _ (b : Bool) (path : List (String Global)) (key : String Global) (rest : List (String Global)) (k : List ℕ) (v : Value) (e : path ≡ key ∷ rest) (named : k ≡ string_bytes key) where
    step_member : IsTrue b ↔ AtMember opens P (k ∷ path_of rest) v → IsTrue b ↔ AtMember opens P (path_of path) v
    step_member h = subst (λ (p : List (String Global)). IsTrue b ↔ AtMember opens P (path_of p) v) (sym e) (subst (λ (n : List ℕ). IsTrue b ↔ AtMember opens P (n ∷ path_of rest) v) named h)

    step_place : IsTrue b ↔ AtPlace opens P (k ∷ path_of rest) v → IsTrue b ↔ AtPlace opens P (path_of path) v
    step_place h = subst (λ (p : List (String Global)). IsTrue b ↔ AtPlace opens P (path_of p) v) (sym e) (subst (λ (n : List ℕ). IsTrue b ↔ AtPlace opens P (n ∷ path_of rest) v) named h)

    pub member_document : (ms : Members) → v ≡ document ms → IsTrue b ↔ Under opens P k (AtMember opens P (path_of rest)) (pairs v) → IsTrue b ↔ AtMember opens P (path_of path) v
    member_document ms is h = step_member (subst (λ (x : Value). IsTrue b ↔ AtMember opens P (k ∷ path_of rest) x) (sym is) (subst (λ (x : Value). IsTrue b ↔ Under opens P k (AtMember opens P (path_of rest)) (pairs x)) is h))

    pub place_document : (ms : Members) → v ≡ document ms → IsTrue b ↔ Under opens P k (AtMember opens P (path_of rest)) (pairs v) → IsTrue b ↔ AtPlace opens P (path_of path) v
    place_document ms is h = step_place (subst (λ (x : Value). IsTrue b ↔ AtPlace opens P (k ∷ path_of rest) x) (sym is) (subst (λ (x : Value). IsTrue b ↔ Under opens P k (AtMember opens P (path_of rest)) (pairs x)) is h))

    pub member_array : (vs : Items) → Some v ≡ Some (array vs) → IsTrue b ↔ AnyMember (Through opens P k (AtMember opens P (path_of rest)) (AtPlace opens P (path_of rest))) (under_places 0 vs) → IsTrue b ↔ AtMember opens P (path_of path) v
    member_array vs is h = let same : v ≡ array vs = cc in step_member (subst (λ (x : Value). IsTrue b ↔ AtMember opens P (k ∷ path_of rest) x) (sym same) h)

    pub place_array : (vs : Items) → Some v ≡ Some (array vs) → IsTrue b ↔ AnyMember (Through opens P k (AtMember opens P (path_of rest)) (AtPlace opens P (path_of rest))) (under_places 0 vs) → IsTrue b ↔ AtPlace opens P (path_of path) v
    place_array vs is h = let same : v ≡ array vs = cc in step_place (subst (λ (x : Value). IsTrue b ↔ AtPlace opens P (k ∷ path_of rest) x) (sym same) h)

  other_member : (b : Bool) (k : List ℕ) (rest : Path) (v : Value) → IsNoDocument v → HoldsItems None (Some v) → IsTrue b ↔ P None → IsTrue b ↔ AtMember opens P (k ∷ rest) v
  other_member b k rest (scalar s) d a h = h
  other_member b k rest (array vs) d a h = absurd a
  other_member b k rest (document ms) d a h = absurd d
  other_member b k rest (scoped_code t ms) d a h = h

  other_place : (k : List ℕ) (rest : Path) (v : Value) → IsNoDocument v → HoldsItems None (Some v) → IsTrue false ↔ AtPlace opens P (k ∷ rest) v
  other_place k rest (scalar s) d a = (λ t. absurd cc, λ x. absurd x)
  other_place k rest (array vs) d a = absurd a
  other_place k rest (document ms) d a = absurd d
  other_place k rest (scoped_code t ms) d a = (λ t. absurd cc, λ x. absurd x)

  pub member_other : (b : Bool) (path : List (String Global)) (key : String Global) (rest : List (String Global)) (v : Value) → path ≡ key ∷ rest → IsNoDocument v → HoldsItems None (Some v) → IsTrue b ↔ P None → IsTrue b ↔ AtMember opens P (path_of path) v
  member_other b path key rest v e d a h = subst (λ (p : List (String Global)). IsTrue b ↔ AtMember opens P (path_of p) v) (sym e) (other_member b (string_bytes key) (path_of rest) v d a h)

  pub place_other : (path : List (String Global)) (key : String Global) (rest : List (String Global)) (v : Value) → path ≡ key ∷ rest → IsNoDocument v → HoldsItems None (Some v) → IsTrue false ↔ AtPlace opens P (path_of path) v
  place_other path key rest v e d a = subst (λ (p : List (String Global)). IsTrue false ↔ AtPlace opens P (path_of p) v) (sym e) (other_place (string_bytes key) (path_of rest) v d a)

  pub into_it : (b : Bool) (k : List ℕ) (On : Value → Type 0) (v : Value) (ms : Members) → v ≡ document ms → IsTrue b ↔ Under opens P k On (pairs v) → IsTrue b ↔ IntoDocument opens P k On v
  into_it b k On v ms e h = subst (λ (x : Value). IsTrue b ↔ IntoDocument opens P k On x) (sym e) (subst (λ (x : Value). IsTrue b ↔ Under opens P k On (pairs x)) e h)

  pub not_into : (k : List ℕ) (On : Value → Type 0) (v : Value) → IsNoDocument v → IsTrue false ↔ IntoDocument opens P k On v
  not_into k On (scalar s) d = (λ t. absurd cc, λ x. absurd x)
  not_into k On (array vs) d = (λ t. absurd cc, λ x. absurd x)
  not_into k On (document ms) d = absurd d
  not_into k On (scoped_code t ms) d = (λ t. absurd cc, λ x. absurd x)

  module _ (k : List ℕ) (On Here : Value → Type 0) (place : List ℕ) (v : Value) where
    pub through_into : (b : Bool) → IsTrue b ↔ IntoDocument opens P k On v → IsTrue b → IsTrue true ↔ Through opens P k On Here place v
    through_into b h t = (λ u. inl (h.0 t), λ x. refl)

    pub through_here : (b r : Bool) → IsTrue b ↔ IntoDocument opens P k On v → b ≡ false → bytes_eq place k ≡ true → IsTrue r ↔ Here v → IsTrue r ↔ Through opens P k On Here place v
    through_here b r h f e g = (λ t. inr (equal_keys place k e, g.0 t), λ x. back x)
      where
        back : Through opens P k On Here place v → IsTrue r
        back (inl i) = let yes = h.1 i in absurd cc
        back (inr i) = g.1 i.1

    pub through_not : (b : Bool) → IsTrue b ↔ IntoDocument opens P k On v → b ≡ false → bytes_eq place k ≡ false → IsTrue false ↔ Through opens P k On Here place v
    through_not b h f e = (λ t. absurd cc, λ x. absurd (back x))
      where
        back : Through opens P k On Here place v → ⊥
        back (inl i) = let yes = h.1 i in cc
        back (inr i) = let test : bytes_eq place k ≡ true = subst (λ (n : List ℕ). bytes_eq place n ≡ true) i.0 (same_key place) in cc

-- ---- at the end of a path

pub end_whole : (opens b : Bool) (P : Option Value → Type 0) (v : Value) → opens ≡ false → IsTrue b ↔ P (Some v) → IsTrue b ↔ AtEnd opens P v
end_whole opens b P v f h = (λ t. inr (h.0 t), λ x. back x)
  where
    back : AtEnd opens P v → IsTrue b
    back (inl i) = let yes = i.0 in absurd cc
    back (inr p) = h.1 p

pub end_item : (opens b : Bool) (P : Option Value → Type 0) (v : Value) → opens ≡ true → IsTrue b ↔ HasItem (λ w. P (Some w)) (Some v) → IsTrue b → IsTrue true ↔ AtEnd opens P v
end_item opens b P v e h t = (λ u. inl (e, h.0 t), λ x. refl)

pub end_itself : (opens b r : Bool) (P : Option Value → Type 0) (v : Value) → IsTrue b ↔ HasItem (λ w. P (Some w)) (Some v) → b ≡ false → IsTrue r ↔ P (Some v) → IsTrue r ↔ AtEnd opens P v
end_itself opens b r P v h f g = (λ t. inr (g.0 t), λ x. back x)
  where
    back : AtEnd opens P v → IsTrue r
    back (inl i) = let yes = h.1 i.1 in absurd cc
    back (inr p) = g.1 p

-- ---- items

pub has_items : (b : Bool) (Q : Value → Type 0) (o : Option Value) (vs : Items) → o ≡ Some (array vs) → IsTrue b ↔ AnyMember (λ k v. Q v) (under_places 0 vs) → IsTrue b ↔ HasItem Q o
has_items b Q o vs e h = subst (λ (x : Option Value). IsTrue b ↔ HasItem Q x) (sym e) h

pub no_items_there : (Q : Value → Type 0) (o : Option Value) → HoldsItems None o → IsTrue false ↔ HasItem Q o
no_items_there Q None a = (λ t. absurd cc, λ x. absurd x)
no_items_there Q (Some (scalar s)) a = (λ t. absurd cc, λ x. absurd x)
no_items_there Q (Some (array vs)) a = absurd a
no_items_there Q (Some (document ms)) a = (λ t. absurd cc, λ x. absurd x)
no_items_there Q (Some (scoped_code t ms)) a = (λ t. absurd cc, λ x. absurd x)
