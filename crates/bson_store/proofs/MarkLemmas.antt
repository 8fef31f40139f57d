-- Marks of documents, and places that are put under them and taken away.
use Rattle.std.proofs.Common.{◌≡◌, ◌↔◌, ◌≤◌, ◌+◌, ℕ, zero, suc, ℤ, inl, inr, List, take, length, Bool, Option, Some, None, String, Vec, Global, IsTrue, string_bytes, sym, ap, subst, ◌∙◌, arith}
use Rattle.std.specs.Prelude.{IsSomeAnd, MatchOption}
use Rattle.std.proofs.lemmas.Bool.{cases_lt}
use Rattle.std.proofs.lemmas.List.{length-map, take_all, take-map}
use Rattle.bson_base.specs.Kinds.{IsClean, IsSound}
use Rattle.bson_base.specs.Value.{Value, document, Members, value_kind}
use Rattle.bson_base.specs.declared.spec.ElementType.{ElementType}
use Rattle.bson_bytes.specs.Encode.{encode}
use Rattle.bson_frame.specs.Payload.{IsEnvelope}
use Rattle.bson_order.specs.Order.{rank}
use Rattle.bson_raw.specs.Convert.{SpellsRawValue}
use Rattle.bson_raw.specs.Raw.{raw_kind, ref_value}
use Rattle.bson_raw.specs.declared.bson_ref.RawBsonRef.{RawBsonRef}
use Rattle.store_question.specs.Filters.{path_of}
use Rattle.store_question.specs.Views.{Finds}
use Rattle.store_question.proofs.MemberLemmas.{at_back, document_back}
use Rattle.store_question.proofs.ViewLemmas.{kind_shown, shows}
use Rattle.store_question.proofs.SelectLemmas.{asked_found}
use Rattle.store_model.specs.Filter.{Path, at}
use Rattle.store_model.specs.State.{IsKept}
use Rattle.bson_store.specs.Find.{FindsIn, FindsOf, HasUnder, IsAsBefore, MissesIn, RenewsIn}
use Rattle.bson_store.specs.Keys.{KeyAt}
use Rattle.bson_store.specs.Lists.{is_among}
use Rattle.bson_store.specs.Marks.{AreMarks, HasMark, IsOneOf, IsWide, LeadsToWide, Mark, ranked, under, wide, is_wide_kind}
use Rattle.bson_store.specs.Ranked.{AreThese, HasRanked, RankedAt}
use Rattle.bson_store.specs.Parts.{part}
use Rattle.bson_store.specs.Under.{HasPlace}
use Rattle.bson_store.specs.declared.indexed.index.Index.{Index}
use Rattle.bson_store.specs.declared.indexed.marks.Marks.{Marks}
use Rattle.bson_store.proofs.IndexFindLemmas.{no_key, one_key}

-- ---- places under marks

pub each_there : (ix : Index) (ms : Marks) (p : ℤ) → ((k : Vec ℕ Global) → IsSomeAnd ms.key (λ own. own.items ≡ k.items) → HasPlace ix.places k.items p) → ((r : ℕ) (q : ℤ) → AreThese ms.ranked r q → HasRanked ix.ranks r q p)
    → (IsTrue ms.wide → IsTrue (is_among p ix.wide.places.items)) → (m : Mark) → IsOneOf ms m → HasUnder ix m p
each_there ix ms p keys parts list (under k) one = keys k one
each_there ix ms p keys parts list (ranked r q) one = parts r q one
each_there ix ms p keys parts list wide one = list one

pub each_gone : (ix : Index) (ms : Marks) (p : ℤ) → ((k : Vec ℕ Global) → IsSomeAnd ms.key (λ own. own.items ≡ k.items) → HasPlace ix.places k.items p → ⊥) → ((r : ℕ) (q : ℤ) → AreThese ms.ranked r q → HasRanked ix.ranks r q p → ⊥)
    → (IsTrue ms.wide → IsTrue (is_among p ix.wide.places.items) → ⊥) → (m : Mark) → IsOneOf ms m → HasUnder ix m p → ⊥
each_gone ix ms p keys parts list (under k) one = keys k one
each_gone ix ms p keys parts list (ranked r q) one = parts r q one
each_gone ix ms p keys parts list wide one = list one

pub each_same : (old new : Index) (p : ℤ) → ((k : Vec ℕ Global) → HasPlace old.places k.items p → HasPlace new.places k.items p) → ((r : ℕ) (q : ℤ) → HasRanked old.ranks r q p → HasRanked new.ranks r q p)
    → (IsTrue (is_among p old.wide.places.items) → IsTrue (is_among p new.wide.places.items)) → (m : Mark) → HasUnder old m p → HasUnder new m p
each_same old new p keys parts list (under k) = keys k
each_same old new p keys parts list (ranked r q) = parts r q
each_same old new p keys parts list wide = list

pub each_other : (old new : Index) (ms : Marks) (p : ℤ) → ((k : Vec ℕ Global) → (IsSomeAnd ms.key (λ own. own.items ≡ k.items) → ⊥) → HasPlace old.places k.items p → HasPlace new.places k.items p)
    → ((r : ℕ) (q : ℤ) → (AreThese ms.ranked r q → ⊥) → HasRanked old.ranks r q p → HasRanked new.ranks r q p)
    → ((IsTrue ms.wide → ⊥) → IsTrue (is_among p old.wide.places.items) → IsTrue (is_among p new.wide.places.items)) → (m : Mark) → (IsOneOf ms m → ⊥) → HasUnder old m p → HasUnder new m p
each_other old new ms p keys parts list (under k) none = keys k none
each_other old new ms p keys parts list (ranked r q) none = parts r q none
each_other old new ms p keys parts list wide none = list none

-- ---- the marks of a document

own_key : (d : Members) (p : Path) (o : Option (Vec ℕ Global)) (k : Vec ℕ Global) → MatchOption o (KeyAt d p None) (λ own. KeyAt d p (Some own.items)) → KeyAt d p (Some k.items) ↔ IsSomeAnd o (λ own. own.items ≡ k.items)
own_key d p None k h = (λ is. absurd (no_key d p k.items h is), λ is. absurd is)
own_key d p (Some own) k h = (λ is. one_key d p own.items k.items h is, λ is. subst (λ (x : List ℕ). KeyAt d p (Some x)) is h)

pub marked : (d : Members) (p : Path) (ms : Marks) → MatchOption ms.key (KeyAt d p None) (λ own. KeyAt d p (Some own.items)) → ((r : ℕ) (q : ℤ) → RankedAt d p r q ↔ AreThese ms.ranked r q) → IsTrue ms.wide ↔ IsWide d p → AreMarks d p ms
marked d p ms keys parts list (under k) = own_key d p ms.key k keys
marked d p ms keys parts list (ranked r q) = parts r q
marked d p ms keys parts list wide = (list.1, list.0)

of_value : (o : Option Value) (v : Value) (k : ℕ) (z : ℤ) → o ≡ Some v → k ≡ rank (value_kind v) → z ≡ part v → (r : ℕ) (q : ℤ) → IsSomeAnd o (λ w. (rank (value_kind w) ≡ r) × (part w ≡ q)) ↔ ((k ≡ r) × (z ≡ q))
of_value None v k z e a b r q = absurd (cc)
of_value (Some w) v k z e a b r q =
    let same : v ≡ w = cc in
    let ranks : k ≡ rank (value_kind w) = a ∙ ap (λ x. rank (value_kind x)) same in
    let parts : z ≡ part w = b ∙ ap part same in
    (λ h. (ranks ∙ h.0, parts ∙ h.1), λ h. (sym ranks ∙ h.0, sym parts ∙ h.1))

-- of what is at the path, by its view
pub ranked_found : (raw : RawBsonRef) (d : Members) (bytes : List ℕ) (p : Path) (k : ℕ) (z : ℤ) → IsClean (document d) → IsSound (document d) → bytes ≡ encode d → IsEnvelope bytes → Finds (Some raw) (at (document d) p)
    → k ≡ rank (raw_kind (ref_value raw)) → ((v : Value) → SpellsRawValue (ref_value raw) v → z ≡ part v) → (r : ℕ) (q : ℤ) → RankedAt d p r q ↔ AreThese (Some (k, z)) r q
ranked_found raw d bytes p k z clean sound is envelope f kind parts =
    let back = at_back p (document d) f.0 (document_back d bytes envelope clean sound is) f.1 in
    of_value (at (document d) p) f.0 k z f.1 (kind ∙ ap rank (kind_shown raw f.0 f.2)) (parts f.0 (shows raw f.0 f.2 back))

nothing_of : (o : Option Value) → o ≡ None → (r : ℕ) (q : ℤ) → IsSomeAnd o (λ w. (rank (value_kind w) ≡ r) × (part w ≡ q)) ↔ ⊥
nothing_of None e r q = (λ h. h, λ h. h)
nothing_of (Some w) e r q = absurd (cc)

pub none_ranked : (d : Members) (p : Path) → at (document d) p ≡ None → (r : ℕ) (q : ℤ) → RankedAt d p r q ↔ AreThese None r q
none_ranked d p e = nothing_of (at (document d) p) e

-- ---- the way along a path

-- what is at the path is of the kind that its view has
pub wide_found : (b : Bool) (raw : RawBsonRef) (d : Members) (p : Path) (k : ElementType) → Finds (Some raw) (at (document d) p) → k ≡ raw_kind (ref_value raw) → b ≡ is_wide_kind k → IsTrue b ↔ LeadsToWide d p
wide_found b raw d p k f is told =
    let e : b ≡ is_wide_kind (value_kind f.0) = told ∙ ap is_wide_kind (is ∙ kind_shown raw f.0 f.2) in
    asked_found b (λ v. IsTrue (is_wide_kind (value_kind v))) (at (document d) p) f.0 f.1 (λ t. sym e ∙ t, λ t. e ∙ t)

-- no beginning of up to n keys leads to a wide value
abbrev pub NoneUpTo : Members → Path → ℕ → Type 0
NoneUpTo d p n = (k : ℕ) → k ≤ n → LeadsToWide d (take k p) → ⊥

-- the document itself is no such value
pub none_first : (d : Members) (p : Path) → NoneUpTo d p 0
none_first d p zero le h = absurd (cc)
none_first d p (suc k) le h = absurd (omega (arith, le))

pub none_next : (d : Members) (p : Path) (n : ℕ) → NoneUpTo d p n → (LeadsToWide d (take (n + 1) p) → ⊥) → NoneUpTo d p (n + 1)
none_next d p n none next k le h = elim (cases_lt n k) [
  | inl past ↦ next (subst (λ (j : ℕ). LeadsToWide d (take j p)) (let e : k ≡ n + 1 = omega (arith, le, past) in e) h)
  | inr low ↦ none k low h
]

pub none_at_all : (d : Members) (keys : List (String Global)) (n : ℕ) → length keys ≤ n → NoneUpTo d (path_of keys) n → IsWide d (path_of keys) → ⊥
none_at_all d keys n long none (k, h) = elim (cases_lt n k) [
  | inl past ↦ none n (omega arith) (subst (λ (q : Path). LeadsToWide d q) (take_all k (path_of keys) (omega (arith, all, past)) ∙ sym (take_all n (path_of keys) all)) h)
  | inr low ↦ none k low h
]
  where
    all : length (path_of keys) ≤ n
    all = subst (λ (l : ℕ). l ≤ n) (sym (length-map keys string_bytes)) long

-- a beginning of the keys
pub leads_by : (d : Members) (keys : List (String Global)) (n : ℕ) (b : Bool) → IsTrue b ↔ LeadsToWide d (path_of (take n keys)) → IsTrue b ↔ LeadsToWide d (take n (path_of keys))
leads_by d keys n b h = subst (λ (q : Path). IsTrue b ↔ LeadsToWide d q) (sym (take-map string_bytes n keys)) h

-- ---- a document that an index notes or forgets

marks_before : (old new : Index) (d : Members) (m : Mark) → IsAsBefore old new → HasMark d (path_of new.path.items) m → HasMark d (path_of old.path.items) m
marks_before old new d m same h = subst (λ (v : Vec (String Global) Global). HasMark d (path_of v.items) m) same.1 h

marks_after : (old new : Index) (d : Members) (m : Mark) → IsAsBefore old new → HasMark d (path_of old.path.items) m → HasMark d (path_of new.path.items) m
marks_after old new d m same h = subst (λ (v : Vec (String Global) Global). HasMark d (path_of v.items) m) (sym same.1) h

module _ (old new : Index) (same : IsAsBefore old new) where
  pub finds_still : (p : ℤ) (b : List ℕ) → ((m : Mark) → HasUnder old m p → HasUnder new m p) → FindsIn old p b → FindsIn new p b
  finds_still p b kept h d ok is m has = kept m (h d ok is m (marks_before old new d m same has))

  pub finds_of_still : (c : List ℕ) (p : ℤ) (b : List ℕ) → ((m : Mark) → HasUnder old m p → HasUnder new m p) → FindsOf old c p b → FindsOf new c p b
  finds_of_still c p b kept h = λ named. finds_still p b kept (h (sym (ap (λ (s : String Global). string_bytes s) same.0) ∙ named))

  pub misses_still : (p : ℤ) (b : List ℕ) → ((m : Mark) → HasUnder new m p → HasUnder old m p) → MissesIn old p b → MissesIn new p b
  misses_still p b only h d ok is m has there = h d ok is m (marks_before old new d m same has) (only m there)

  module _ (body : List ℕ) (ms : Marks) (marks : (d : Members) → IsKept d → body ≡ encode d → AreMarks d (path_of old.path.items) ms) where
    pub finds_now : (p : ℤ) → ((m : Mark) → IsOneOf ms m → HasUnder new m p) → FindsIn new p body
    finds_now p there d ok is m has = there m ((marks d ok is m).0 (marks_before old new d m same has))

    pub misses_now : (p : ℤ) → ((m : Mark) → IsOneOf ms m → HasUnder new m p → ⊥) → MissesIn new p body
    misses_now p gone d ok is m has = gone m ((marks d ok is m).0 (marks_before old new d m same has))

    pub renews_now : (p : ℤ) (b : List ℕ) → ((m : Mark) → (IsOneOf ms m → ⊥) → HasUnder new m p → HasUnder old m p) → MissesIn old p b → RenewsIn new p b body
    renews_now p b others h d e kd ke is now m has there other = h d kd is m (marks_before old new d m same has) (others m (λ one. other (marks_after old new e m same ((marks e ke now m).1 one))) there)
