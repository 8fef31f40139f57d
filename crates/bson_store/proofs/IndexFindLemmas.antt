-- Documents that an index finds.
use Rattle.std.proofs.Common.{◌≡◌, ◌⊎◌, inl, inr, drop, ◌++◌, ◌∷◌, [], ℕ, ℤ, List, Option, Some, None, Result, Ok, Err, string_bytes, sym, ap, ap₂, ◌∙◌, subst}
use Rattle.std.specs.List.{AllByRecursion}
use Rattle.std.specs.Prelude.{IsSomeAnd, OnOk}
use Rattle.std.proofs.lemmas.List.{append-nil}
use Rattle.std.specs.declared.alloc.AllocError.{AllocError}
use Rattle.bson_base.specs.Value.{Value, document, Members}
use Rattle.bson_bytes.specs.Encode.{encode}
use Rattle.bson_meaning.specs.Meaning.{norm_members_in_order, Same}
use Rattle.bson_meaning.proofs.NowLemmas.{in_order_same}
use Rattle.bson_meaning.proofs.PlainLemmas.{only_same}
use Rattle.store_question.specs.Filters.{path_of}
use Rattle.store_model.specs.Filter.{Path, at}
use Rattle.store_model.specs.State.{id_key}
use Rattle.store_model.specs.Table.{only_id}
use Rattle.bson_store.specs.Find.{FindsIn, FindsOf, FindEach, IsAsBefore, IsOn, HasOn, MissEach, RenewEach, kinds_of}
use Rattle.bson_store.specs.Keys.{KeyAt, value_key}
use Rattle.bson_store.specs.declared.indexed.index.Index.{Index}

one_of : (o : Option Value) (a b : List ℕ) → IsSomeAnd o (λ v. a ≡ value_key v) → IsSomeAnd o (λ v. b ≡ value_key v) → a ≡ b
one_of None a b h k = absurd h
one_of (Some v) a b h k = h ∙ sym k

-- a value has one key
pub one_key : (d : Members) (p : Path) (a b : List ℕ) → KeyAt d p (Some a) → KeyAt d p (Some b) → a ≡ b
one_key d p a b h k = one_of (at (document d) p) a b h k

none_of : (o : Option Value) (a : List ℕ) → o ≡ None → IsSomeAnd o (λ v. a ≡ value_key v) → ⊥
none_of None a e h = h
none_of (Some v) a e h = absurd (cc)

pub no_key : (d : Members) (p : Path) (a : List ℕ) → KeyAt d p None → KeyAt d p (Some a) → ⊥
no_key d p a h k = none_of (at (document d) p) a h k

-- ---- several indexes

pub all_more : (P : Index → Type 0) (ixs : List Index) (ix : Index) → AllByRecursion P ixs → P ix → AllByRecursion P (ixs ++ ix ∷ [])
all_more P [] ix h one = (one, tt)
all_more P (x ∷ ixs) ix h one = (h.0, all_more P ixs ix h.1 one)

pub each_more : (c : List ℕ) (p : ℤ) (b : List ℕ) (ixs : List Index) (ix : Index) → FindEach ixs c p b → FindsOf ix c p b → FindEach (ixs ++ ix ∷ []) c p b
each_more c p b ixs ix h one = all_more (λ (jx : Index). FindsOf jx c p b) ixs ix h one

pub note_of : (old new : Index) (c : List ℕ) (p : ℤ) (b : List ℕ) (r : Result (Unit {0}) AllocError) → IsAsBefore old new → (FindsIn old p b → OnOk r (FindsIn new p b)) → FindsOf old c p b → OnOk r (FindsOf new c p b)
note_of old new c p b (Ok x) same kept h = λ e. kept (h (sym (ap (λ s. string_bytes s) same.0) ∙ e))
note_of old new c p b (Err x) same kept h = tt

-- the first of the indexes, which was changed, comes behind those that were
pub each_first : (c : List ℕ) (p : ℤ) (b : List ℕ) (rest all new after : List Index) (ix jx : Index) → all ≡ ix ∷ rest → after ≡ new ++ jx ∷ [] → (FindsOf ix c p b → FindsOf jx c p b) → FindEach all c p b × FindEach new c p b → FindEach rest c p b × FindEach after c p b
each_first c p b rest all new after ix jx split put goes h =
    let one = subst (λ xs. FindEach xs c p b) split h.0 in
    (one.1, subst (λ xs. FindEach xs c p b) (sym put) (each_more c p b new jx h.1 (goes one.0)))

-- ---- values that mean the same have one key

same_values : (v w : Value) → Same v w → value_key v ≡ value_key w
same_values v w same =
    let i : document (norm_members_in_order (only_id v)) ≡ document (norm_members_in_order (only_id w)) = in_order_same (document (only_id v)) (document (only_id w)) (only_same id_key v w same) in
    let j : norm_members_in_order (only_id v) ≡ norm_members_in_order (only_id w) = cc in
    ap (λ (ms : Members). drop 9 (encode ms)) j

asked : (o : Option Value) (w : Value) (k : List ℕ) → k ≡ value_key w → IsSomeAnd o (λ v. Same v w) → IsSomeAnd o (λ v. k ≡ value_key v)
asked None w k e h = h
asked (Some v) w k e h = e ∙ sym (same_values v w h)

-- the key of a value is that of each value that means the same
pub asked_key : (d : Members) (p : Path) (w : Value) (k : List ℕ) → k ≡ value_key w → IsSomeAnd (at (document d) p) (λ v. Same v w) → KeyAt d p (Some k)
asked_key d p w k e h = asked (at (document d) p) w k e h

-- what is missed is missed whatever body comes
pub renewed_too : (p : ℤ) (old body : List ℕ) (ixs : List Index) → MissEach ixs p old → RenewEach ixs p old body
renewed_too p old body [] h = tt
renewed_too p old body (ix ∷ ixs) h = (λ d e kd ke is _ k at there _. h.0 d kd is k at there, renewed_too p old body ixs h.1)

-- ---- whether one is on a path

pub not_first : (c : List ℕ) (p : Path) (here rest : List Index) (ix : Index) (all : Type 0) → here ≡ ix ∷ rest → (IsOn ix c p → ⊥) → (HasOn here c p → all) × (all → HasOn here c p) → (HasOn rest c p → all) × (all → HasOn rest c p)
not_first c p here rest ix all split other h = (λ r. h.0 (subst (λ xs. HasOn xs c p) (sym split) (inr r)), λ a. behind (subst (λ xs. HasOn xs c p) split (h.1 a)))
  where
    behind : IsOn ix c p ⊎ HasOn rest c p → HasOn rest c p
    behind (inl one) = absurd (other one)
    behind (inr r) = r

pub has_still : (c : List ℕ) (p : Path) (ixs : List Index) (ix : Index) → HasOn ixs c p → HasOn (ixs ++ ix ∷ []) c p
has_still c p [] ix h = absurd h
has_still c p (x ∷ ixs) ix (inl one) = inl one
has_still c p (x ∷ ixs) ix (inr h) = inr (has_still c p ixs ix h)

pub has_last : (c : List ℕ) (p : Path) (ixs : List Index) (ix : Index) → IsOn ix c p → HasOn (ixs ++ ix ∷ []) c p
has_last c p [] ix one = inl one
has_last c p (x ∷ ixs) ix one = inr (has_last c p ixs ix one)

pub has_only : (c : List ℕ) (p : Path) (ixs : List Index) (ix : Index) → HasOn (ixs ++ ix ∷ []) c p → HasOn ixs c p ⊎ ((c ≡ string_bytes ix.coll) × (p ≡ path_of ix.path.items))
has_only c p [] ix (inl one) = inr (sym one.0, sym one.1)
has_only c p [] ix (inr h) = absurd h
has_only c p (x ∷ ixs) ix (inl one) = inl (inl one)
has_only c p (x ∷ ixs) ix (inr h) = elim (has_only c p ixs ix h) [ inl there ↦ inl (inr there) | inr last ↦ inr last ]

-- ---- which indexes there are

in_place_of : (new rest : List Index) (ix jx : Index) → IsAsBefore ix jx → kinds_of ((new ++ jx ∷ []) ++ rest) ≡ kinds_of (new ++ ix ∷ rest)
in_place_of [] rest ix jx same = ap₂ (λ k l. (string_bytes k, path_of l.items) ∷ kinds_of rest) same.0 same.1
in_place_of (x ∷ new) rest ix jx same = ap (λ ks. (string_bytes x.coll, path_of x.path.items) ∷ ks) (in_place_of new rest ix jx same)

-- the first of the indexes, which was changed, comes behind those that were
pub kinds_first : (list rest all new after : List Index) (ix jx : Index) → all ≡ ix ∷ rest → after ≡ new ++ jx ∷ [] → IsAsBefore ix jx → kinds_of (new ++ all) ≡ kinds_of list → kinds_of (after ++ rest) ≡ kinds_of list
kinds_first list rest all new after ix jx split put same h = ap (λ xs. kinds_of (xs ++ rest)) put ∙ in_place_of new rest ix jx same ∙ sym (ap (λ xs. kinds_of (new ++ xs)) split) ∙ h

pub kinds_all : (list new left : List Index) → left ≡ [] → kinds_of (new ++ left) ≡ kinds_of list → kinds_of new ≡ kinds_of list
kinds_all list new left none h = ap kinds_of (sym (append-nil new)) ∙ sym (ap (λ xs. kinds_of (new ++ xs)) none) ∙ h

pub find_of : (ix : Index) (p : ℤ) (b : List ℕ) (r : Result (Unit {0}) AllocError) → OnOk r (FindsIn ix p b) → (c : List ℕ) → OnOk r (FindsOf ix c p b)
find_of ix p b (Ok x) h c = λ _. h
find_of ix p b (Err x) h c = tt
