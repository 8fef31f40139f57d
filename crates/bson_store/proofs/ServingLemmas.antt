-- Which places serve a question best.
use Rattle.std.proofs.Common.{◌≡◌, ◌⊎◌, inl, inr, ◌∷◌, ◌++◌, ◌≤ℤ◌, refl, ◌<◌, ◌≤◌, ◌+◌, ℕ, ℤ, true, List, Option, Some, None, Result, Ok, Err, String, Vec, Global, IsTrue, drop, drop-cons, add-one, get_or, length, map, take, sym, ap, ap₂, subst, ◌∙◌}
use Rattle.std.specs.BTreeMap.{get_by}
use Rattle.std.specs.Cmp.Lexicographic.{slice_cmp}
use Rattle.std.specs.Prelude.{IfSome, IfOk, IsSomeAnd}
use Rattle.std.specs.Ordering.{int_eq, nat_cmp}
use Rattle.std.specs.List.Sorted.{IsPermutation}
use Rattle.std.specs.declared.alloc.AllocError.{AllocError}
use Rattle.std.proofs.lemmas.List.{drop_all}
use Rattle.std.proofs.lemmas.List.Sorted.{list_any-IsPermutation}
use Rattle.bson_base.specs.Value.{Value, document, Members, value_kind}
use Rattle.bson_order.specs.Order.{rank}
use Rattle.bson_base.specs.declared.spec.ElementType.{ElementType}
use Rattle.store_question.specs.Filters.{filter_of, path_of, tests_of}
use Rattle.store_question.specs.declared.filter.Filter.{Filter as Question}
use Rattle.bson_store.specs.Find.{FindsOf, FindEach, Finds}
use Rattle.bson_store.specs.Keys.{value_key}
use Rattle.bson_store.specs.Lists.{Ascends, is_among}
use Rattle.bson_store.specs.Fronts.{LiesIn, LiesInAll, Passes}
use Rattle.bson_store.specs.Marks.{IsWide, LeadsToWide, ranked, under, wide, is_wide_kind}
use Rattle.bson_store.specs.Ranked.{HasRanked, RankedAt}
use Rattle.bson_store.specs.Serving.{Covers, HoldsAll, IsBy, IsSelected, IsServed}
use Rattle.bson_store.specs.Under.{places_of, places_under}
use Rattle.bson_store.specs.declared.indexed.index.Index.{Index}
use Rattle.bson_store.specs.declared.indexed.indexes.Indexes.{Indexes}
use Rattle.bson_store.specs.declared.indexed.place_list.PlaceList.{PlaceList}
use Rattle.bson_store.specs.declared.indexed.place_list.PlaceList.TheVariants.{One, Many}
use Rattle.bson_store.specs.declared.indexed.front.Front.{Front}
use Rattle.bson_store.specs.declared.indexed.range.Range.{Range}
use Rattle.bson_store.proofs.AmongLemmas.{over_there, under_there}
use Rattle.bson_store.proofs.IndexFindLemmas.{asked_key}
use Rattle.bson_store.specs.Parts.{part}
use Rattle.store_model.specs.Filter.{Path, Selects, SelectsAll, SelectsAny, at, equals, is_of}

abbrev pub IsBest : Indexes → List ℕ → (Members → Type 0) → Option (Vec ℤ Global) → Type 0
IsBest ixs coll P o = IfSome o (λ v. Ascends v.items × Covers ixs coll P v.items)

by_one : (ixs : Indexes) (coll : List ℕ) (P : Members → Type 0) (ix : Index) (o : Option (Vec ℤ Global)) → ((p : ℤ) (b : List ℕ) → Finds ixs coll p b → FindsOf ix coll p b) → IsBy ix coll P o → IsBest ixs coll P o
by_one ixs coll P ix None finds h = h.1
by_one ixs coll P ix (Some v) finds h = (h.1.0, λ place body d found kept is selected. h.1.1 place body d (finds place body found h.0) kept is selected)

pub best_on : (ixs : Indexes) (coll : List ℕ) (P : Members → Type 0) (ix : Index) (rest here : List Index) (best o : Option (Vec ℤ Global)) → here ≡ ix ∷ rest → ((p : ℤ) (b : List ℕ) → Finds ixs coll p b → FindEach here coll p b) → (o ≡ best) ⊎ IsBy ix coll P o
    → IsBest ixs coll P best → IsBest ixs coll P o
best_on ixs coll P ix rest here best o split left (inl e) h = subst (IsBest ixs coll P) (sym e) h
best_on ixs coll P ix rest here best o split left (inr by) h = by_one ixs coll P ix o (λ p b found. (subst (λ xs. FindEach xs coll p b) split (left p b found)).0) by

pub left_on : (ixs : Indexes) (coll : List ℕ) (ix : Index) (rest here : List Index) → here ≡ ix ∷ rest → ((p : ℤ) (b : List ℕ) → Finds ixs coll p b → FindEach here coll p b) → (p : ℤ) (b : List ℕ) → Finds ixs coll p b → FindEach rest coll p b
left_on ixs coll ix rest here split left p b found = (subst (λ xs. FindEach xs coll p b) split (left p b found)).1

-- ---- of a filter's parts

pub at_head : {X : Type 0} (fs : List X) (i : ℕ) (f : X) → i < length fs → f ≡ get_or fs i f → drop i fs ≡ f ∷ drop (i + 1) fs
at_head fs i f low is = drop-cons fs i f low ∙ ap₂ (λ g k. g ∷ drop k fs) (sym is) (sym (add-one i))

pub head_all : (fs : List Question) (i : ℕ) (f : Question) (d : Value) → i < length fs → f ≡ get_or fs i f → SelectsAll (tests_of (map filter_of (drop i fs))) d → Selects (filter_of f) d × SelectsAll (tests_of (map filter_of (drop (i + 1) fs))) d
head_all fs i f d low is h = subst (λ gs. SelectsAll (tests_of (map filter_of gs)) d) (at_head fs i f low is) h

pub head_any : (fs : List Question) (i : ℕ) (f : Question) (d : Value) → i < length fs → f ≡ get_or fs i f → SelectsAny (tests_of (map filter_of (drop i fs))) d → Selects (filter_of f) d ⊎ SelectsAny (tests_of (map filter_of (drop (i + 1) fs))) d
head_any fs i f d low is h = subst (λ gs. SelectsAny (tests_of (map filter_of gs)) d) (at_head fs i f low is) h

pub none_left : (fs : List Question) (i : ℕ) (d : Value) → length fs ≤ i → SelectsAny (tests_of (map filter_of (drop i fs))) d → ⊥
none_left fs i d end_ h = subst (λ gs. SelectsAny (tests_of (map filter_of gs)) d) (drop_all i fs end_) h

-- ---- by a value, or by a kind

ascending : (o : Option PlaceList) → Ascends (places_of o)
ascending None = tt
ascending (Some (One p)) = (tt, tt)
ascending (Some (Many l)) = l.ascends

pub by_value : (ix : Index) (w : Value) (key : Vec ℕ Global) (v : Vec ℤ Global) → key.items ≡ value_key w → v.items ≡ places_under ix.places key.items → Ascends v.items × HoldsAll ix (IsSelected (equals (path_of ix.path.items) w)) v.items
by_value ix w key v k is = (
  subst Ascends (sym is) (ascending (get_by (λ (x : Vec ℕ Global). slice_cmp nat_cmp key.items x.items) ix.places.lists)),
  λ place body d finds kept e selected. ap (is_among place) is ∙ finds d kept e (under key) (asked_key d (path_of ix.path.items) w key.items k selected),
)

of_wide_kind : (o : Option Value) (kind : ElementType) → is_wide_kind kind ≡ true → IsSomeAnd o (λ v. value_kind v ≡ kind) → IsSomeAnd o (λ v. IsTrue (is_wide_kind (value_kind v)))
of_wide_kind None kind one h = h
of_wide_kind (Some v) kind one h = ap is_wide_kind h ∙ one

pub by_kind : (ix : Index) (q : List (String Global)) (kind : ElementType) (v : Vec ℤ Global) → is_wide_kind kind ≡ true → path_of q ≡ take (length q) (path_of ix.path.items) → v.items ≡ ix.wide.places.items → Ascends v.items × HoldsAll ix (IsSelected (is_of (path_of q) kind)) v.items
by_kind ix q kind v one begins is = (
  subst Ascends (sym is) ix.wide.ascends,
  λ place body d finds kept e selected. ap (is_among place) is ∙ finds d kept e wide (length q, subst (λ (p : Path). LeadsToWide d p) begins (of_wide_kind (at (document d) (path_of q)) kind one selected)),
)

-- ---- by several

-- what holds of fewer documents
pub by_part : (ix : Index) (P Q : Members → Type 0) (o : Option (Vec ℤ Global)) → ((d : Members) → Q d → P d) → IsServed ix P o → IsServed ix Q o
by_part ix P Q None more h = tt
by_part ix P Q (Some v) more h = (h.0, λ place body d found kept is holds. h.1 place body d found kept is (more d holds))

pub by_either : (ix : Index) (P : Members → Type 0) (a b o : Option (Vec ℤ Global)) → (o ≡ a) ⊎ (o ≡ b) → IsServed ix P a → IsServed ix P b → IsServed ix P o
by_either ix P a b o (inl e) h k = subst (IsServed ix P) (sym e) h
by_either ix P a b o (inr e) h k = subst (IsServed ix P) (sym e) k

pub by_all : (ix : Index) (P : Members → Type 0) (xs : List ℤ) (r : Result (Option (Vec ℤ Global)) AllocError) → HoldsAll ix P xs → IfOk r (λ o. IfSome o (λ v. Ascends v.items)) → ((p : ℤ) → IsTrue (is_among p xs) → IfOk r (λ o. IfSome o (λ v. IsTrue (is_among p v.items))))
    → IfOk r (IsServed ix P)
by_all ix P xs (Ok None) h up all = tt
by_all ix P xs (Ok (Some v)) h up all = (up, λ place body d found kept is holds. all place (h place body d found kept is holds))
by_all ix P xs (Err e) h up all = tt

pub sorted_among : (p : ℤ) (xs ys : List ℤ) → IsPermutation xs ys → is_among p xs ≡ true → is_among p ys ≡ true
sorted_among p xs ys perm h = sym (list_any-IsPermutation (λ q. int_eq q p) xs ys perm) ∙ h

-- ---- by ranges

what_holds : (o : Option Value) (P : Value → Type 0) → IsSomeAnd o P → (v : Value) × (o ≡ Some v) × P v
what_holds None P h = absurd h
what_holds (Some v) P h = (v, refl, h)

has_parts : (o : Option Value) (v : Value) (r : ℕ) → o ≡ Some v → rank (value_kind v) ≡ r → IsSomeAnd o (λ w. (rank (value_kind w) ≡ r) × (part w ≡ part v))
has_parts None v r e k = absurd (cc)
has_parts (Some w) v r e k = let same : w ≡ v = cc in (ap (λ x. rank (value_kind x)) same ∙ k, ap part same)

-- those of wide documents, and those of the values between the ends
pub by_range : (ix : Index) (r : Range) (wides between all : List ℤ) → path_of r.path.items ≡ path_of ix.path.items → wides ≡ ix.wide.places.items → all ≡ wides ++ between
    → ((q p : ℤ) → r.low ≤ℤ q → q ≤ℤ r.high → HasRanked ix.ranks r.rank q p → IsTrue (is_among p between)) → HoldsAll ix (LiesIn r) all
by_range ix r wides between all same list put parts place body d found kept is (inl w) =
    let there : IsTrue (is_among place wides) = ap (is_among place) list ∙ found d kept is wide (subst (IsWide d) same w) in
    ap (is_among place) put ∙ over_there place wides between there
by_range ix r wides between all same list put parts place body d found kept is (inr h) =
    let it = what_holds (at (document d) (path_of r.path.items)) (λ v. (rank (value_kind v) ≡ r.rank) × (r.low ≤ℤ part v) × (part v ≤ℤ r.high)) h in
    let has : RankedAt d (path_of ix.path.items) r.rank (part it.0) = subst (λ (p : Path). RankedAt d p r.rank (part it.0)) same (has_parts (at (document d) (path_of r.path.items)) it.0 r.rank it.1 it.2.0) in
    ap (is_among place) put ∙ under_there place wides between (parts (part it.0) place it.2.1 it.2.2 (found d kept is (ranked r.rank (part it.0)) has))

pub head_range : (rs : List Range) (i : ℕ) (r : Range) (d : Members) → i < length rs → r ≡ get_or rs i r → LiesInAll (drop i rs) d → LiesIn r d × LiesInAll (drop (i + 1) rs) d
head_range rs i r d low is h = subst (λ qs. LiesInAll qs d) (at_head rs i r low is) h

-- ---- filters, and ranges beside them

pub first_best : (ixs : Indexes) (coll : List ℕ) (f : Front) (o : Option (Vec ℤ Global)) → IfSome o (λ v. Ascends v.items) → IfSome o (λ v. Covers ixs coll (IsSelected (filter_of f.filter.now)) v.items) → IsBest ixs coll (Passes f) o
first_best ixs coll f None up all = tt
first_best ixs coll f (Some v) up all = (up, λ place body d found kept is passes. all place body d found kept is passes.0)

pub by_ranges : (ix : Index) (coll : List ℕ) (f : Front) (best o : Option (Vec ℤ Global)) → (o ≡ best) ⊎ IsBy ix coll (LiesInAll f.ranges.now) o → (o ≡ best) ⊎ IsBy ix coll (Passes f) o
by_ranges ix coll f best o (inl e) = inl e
by_ranges ix coll f best o (inr h) = inr (h.0, by_part ix (LiesInAll f.ranges.now) (Passes f) o (λ d passes. passes.1) h.1)
