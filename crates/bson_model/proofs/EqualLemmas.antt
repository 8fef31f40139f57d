-- `==` on values, by their trees: `bson_eq a b` exactly if the trees are Equal, provided that keys are distinct.
use Rattle.std.proofs.Common.{◌≡◌, Bool, true, false, cond, List, [], ◌∷◌, map, Option, Some, None, is_some, unwrap_or, Vec, Global, string_bytes, bytes_eq, refl, sym, ap, ◌∙◌, subst, true≢false}
use Rattle.std.specs.Bool.{Decides}
use Rattle.std.specs.Cmp.Lexicographic.{pointwise}
use Rattle.std.specs.Option.{IsSomeAnd, option_eq, option_map}
use Rattle.std.specs.String.{string_eq}
use Rattle.std.proofs.lemmas.Bool.Decides.{Decides-like, Decides-and, Decides-at}
use Rattle.std.proofs.lemmas.Slice.Eq.{bytes_eq-Decides}
use Rattle.bson_base.specs.Value.{Value, Members, look_up, has_key, HasDistinctKeys, ItemsHaveDistinctKeys, MembersHaveDistinctKeys}
use Rattle.bson_pairs.specs.Keyed.{Key, get}
use Rattle.bson_pairs.specs.Over.{over, get-over}
use Rattle.bson_pairs.specs.Same.{same_at, pairs_eq, pairs_eq_from_each, each_from_pairs_eq}
use Rattle.bson_model.specs.Equal.{Equal, EqualItems, EqualUnder, SameKeys}
use Rattle.bson_model.specs.Laws.{bson_eq, document_eq}
use Rattle.bson_model.specs.View.{view, pair_view, pairs_of, items_of, members_of}
use Rattle.bson_model.specs.declared.bson.Bson.{Bson, roll-Bson, out-Bson, ind-Bson}
use Rattle.bson_model.specs.declared.bson.Bson.TheBlock.{the_family, member-Bson, member-Document, member-JavaScriptCodeWithScope}
use Rattle.bson_model.specs.declared.bson.Bson.TheOpen.{Bson-F, Document-F, JavaScriptCodeWithScope-F}
use Rattle.bson_model.specs.declared.bson.Bson.TheFolds.{claims, map-Bson}
use Rattle.bson_model.specs.declared.bson.JavaScriptCodeWithScope.{JavaScriptCodeWithScope, roll-JavaScriptCodeWithScope}
use Rattle.bson_model.specs.declared.document.Document.{Document, roll-Document}
use Rattle.bson_model.specs.contracts.bson.BsonPartialEq.TheImpl.Laws.{is, unfolded}
use Rattle.bson_model.proofs.LayerLemmas
use Rattle.bson_model.proofs.LayerLemmas.{Layer, seen, view_roll, roll_out}
use Rattle.bson_model.proofs.ViewLemmas.{is_some-map}
use denote.Hole.Holds.{Such}

-- what is to be shown of a value
abbrev pub IsSaid : Bson → Type 0
IsSaid a = (b : Bson) → HasDistinctKeys (view a) → HasDistinctKeys (view b) → Decides (bson_eq a b) (Equal (view a) (view b))

abbrev Each : (Bson → Type 0) → List Bson → Type 0
Each P [] = Unit {0}
Each P (x ∷ xs) = P x × Each P xs

abbrev EachPair : (Key → Bson → Type 0) → List (Key × Bson) → Type 0
EachPair P [] = Unit {0}
EachPair P (p ∷ ps) = P p.0 p.1 × EachPair P ps

-- of each value
abbrev EachValue : (Bson → Type 0) → List (Key × Bson) → Type 0
EachValue P ps = EachPair (λ k v. P v) ps

-- ---- arrays

items_equal : (xs : List Bson) → Each IsSaid xs → (ys : List Bson) → ItemsHaveDistinctKeys (items_of (map view xs)) → ItemsHaveDistinctKeys (items_of (map view ys))
    → Decides (pointwise bson_eq xs ys) (EqualItems (items_of (map view xs)) (items_of (map view ys)))
items_equal [] h [] d e = (λ p. tt, λ q. refl)
items_equal [] h (y ∷ ys) d e = (λ p. absurd (true≢false (sym p)), λ q. absurd q)
items_equal (x ∷ xs) h [] d e = (λ p. absurd (true≢false (sym p)), λ q. absurd q)
items_equal (x ∷ xs) h (y ∷ ys) d e = Decides-and (bson_eq x y) (pointwise bson_eq xs ys) (h.0 y d.0 e.0) (items_equal xs h.1 ys d.1 e.1)

-- ---- look-ups

abbrev members : List (Key × Bson) → Members
members ps = members_of (map pair_view ps)

pub look_up-members_of : (k : Key) (ps : List (Key × Value)) → look_up k (members_of ps) ≡ get k ps
look_up-members_of k [] = refl
look_up-members_of k (p ∷ ps) = ap (cond (bytes_eq k p.0) (Some p.1)) (look_up-members_of k ps)

look_up-view : (k : Key) (ps : List (Key × Bson)) → look_up k (members ps) ≡ option_map view (get k ps)
look_up-view k ps = look_up-members_of k (over view ps) ∙ get-over view k ps

same_some : (x y : Bson) → Some x ≡ Some y → x ≡ y
same_some x y e = ap (λ o. unwrap_or o x) e

get_each : (P : Bson → Type 0) (k : Key) (ps : List (Key × Bson)) (v : Bson) → EachValue P ps → get k ps ≡ Some v → P v
get_each P k [] v h e = absurd (true≢false (sym (ap is_some e)))
get_each P k (p ∷ ps) v h e = by (bytes_eq k p.0) (get_each P k ps v h.1) e
  where
    by : (b : Bool) → (get k ps ≡ Some v → P v) → cond b (Some p.1) (get k ps) ≡ Some v → P v
    by true later q = subst P (same_some p.1 v q) h.0
    by false later q = later q

each_distinct : (ps : List (Key × Bson)) → MembersHaveDistinctKeys (members ps) → EachValue (λ v. HasDistinctKeys (view v)) ps
each_distinct [] d = tt
each_distinct (p ∷ ps) d = (d.1, each_distinct ps d.2)

nothing : (r : Option Bson) → option_map view r ≡ None → r ≡ None
nothing None e = refl
nothing (Some x) e = absurd (true≢false (ap is_some e))

later_own : (p : Key × Bson) (ps : List (Key × Bson)) → get p.0 ps ≡ None → (rs : List (Key × Bson)) → EachPair (λ k v. get k ps ≡ Some v) rs → EachPair (λ k v. get k (p ∷ ps) ≡ Some v) rs
later_own p ps gone [] h = tt
later_own p ps gone (r ∷ rs) h = (by (bytes_eq r.0 p.0) (bytes_eq-Decides r.0 p.0).0, later_own p ps gone rs h.1)
  where
    by : (b : Bool) → (b ≡ true → r.0 ≡ p.0) → cond b (Some p.1) (get r.0 ps) ≡ Some r.1
    by true same = absurd (true≢false (ap is_some (sym h.0 ∙ ap (λ k. get k ps) (same refl) ∙ gone)))
    by false same = h.0

-- each value is the one under its key
own_values : (ps : List (Key × Bson)) → MembersHaveDistinctKeys (members ps) → EachPair (λ k v. get k ps ≡ Some v) ps
own_values [] d = tt
own_values (p ∷ ps) d =
    (ap (λ b. cond b (Some p.1) (get p.0 ps)) ((bytes_eq-Decides p.0 p.0).1 refl), later_own p ps (nothing (get p.0 ps) (sym (look_up-view p.0 ps) ∙ d.0)) ps (own_values ps d.2))

-- ---- documents, from left to right

both_there : (p q : Option Bson) → option_eq bson_eq p q ≡ true → is_some p ≡ is_some q
both_there None None h = refl
both_there None (Some y) h = absurd (true≢false (sym h))
both_there (Some x) None h = absurd (true≢false (sym h))
both_there (Some x) (Some y) h = refl

has_key-view : (k : Key) (ps : List (Key × Bson)) → has_key k (members ps) ≡ is_some (get k ps)
has_key-view k ps = ap is_some (look_up-view k ps) ∙ is_some-map view (get k ps)

equal_at : (v : Bson) → IsSaid v → HasDistinctKeys (view v) → (o : Option Bson) → ((w : Bson) → o ≡ Some w → HasDistinctKeys (view w)) → option_eq bson_eq (Some v) o ≡ true → IsSomeAnd (option_map view o) (Equal (view v))
equal_at v said d None e h = absurd (true≢false (sym h))
equal_at v said d (Some w) e h = (said w d (e w refl)).0 h

under : (ps qs rs : List (Key × Bson)) → EachPair (λ k v. get k ps ≡ Some v) rs → EachValue IsSaid rs → EachValue (λ v. HasDistinctKeys (view v)) rs → EachValue (λ v. HasDistinctKeys (view v)) qs
    → ((k : Key) → same_at bson_eq ps qs k ≡ true) → EqualUnder (members rs) (members qs)
under ps qs [] own said d e same = tt
under ps qs (r ∷ rs) own said d e same =
    let Q : Option Value → Type 0 = λ o. IsSomeAnd o (Equal (view r.1)) in (
      subst Q (sym (look_up-view r.0 qs))
          (equal_at r.1 said.0 d.0 (get r.0 qs) (λ w is. get_each (λ v. HasDistinctKeys (view v)) r.0 qs w e is) (ap (λ o. option_eq bson_eq o (get r.0 qs)) (sym own.0) ∙ same r.0)),
      under ps qs rs own.1 said.1 d.1 e same,
    )

-- ---- documents, from right to left

under_at : (k : Key) (v : Bson) (rs qs : List (Key × Bson)) → EqualUnder (members rs) (members qs) → get k rs ≡ Some v → IsSomeAnd (look_up k (members qs)) (Equal (view v))
under_at k v [] qs u e = absurd (true≢false (sym (ap is_some e)))
under_at k v (r ∷ rs) qs u e = by (bytes_eq k r.0) (under_at k v rs qs u.1) (bytes_eq-Decides k r.0).0 e
  where
    by : (b : Bool) → (get k rs ≡ Some v → IsSomeAnd (look_up k (members qs)) (Equal (view v))) → (b ≡ true → k ≡ r.0) → cond b (Some r.1) (get k rs) ≡ Some v → IsSomeAnd (look_up k (members qs)) (Equal (view v))
    by true later same q =
        let A : Bson → Type 0 = λ w. IsSomeAnd (look_up k (members qs)) (Equal (view w)) in
        let B : Key → Type 0 = λ l. IsSomeAnd (look_up l (members qs)) (Equal (view r.1)) in
        subst A (same_some r.1 v q) (subst B (sym (same refl)) u.0)
    by false later same q = later q

eq_at : (v : Bson) → IsSaid v → HasDistinctKeys (view v) → (o : Option Bson) → ((w : Bson) → o ≡ Some w → HasDistinctKeys (view w)) → IsSomeAnd (option_map view o) (Equal (view v)) → option_eq bson_eq (Some v) o ≡ true
eq_at v said d None e h = absurd h
eq_at v said d (Some w) e h = (said w d (e w refl)).1 h

neither : (o : Option Bson) → false ≡ is_some o → option_eq bson_eq None o ≡ true
neither None h = refl
neither (Some x) h = absurd (true≢false (sym h))

at_key : (ps qs : List (Key × Bson)) → EachValue IsSaid ps → EachValue (λ v. HasDistinctKeys (view v)) ps → EachValue (λ v. HasDistinctKeys (view v)) qs → SameKeys (members ps) (members qs) → EqualUnder (members ps) (members qs)
    → (k : Key) → same_at bson_eq ps qs k ≡ true
at_key ps qs said d e keys u k = by (get k ps) refl
  where
    by : (o : Option Bson) → get k ps ≡ o → option_eq bson_eq o (get k qs) ≡ true
    by None is = neither (get k qs) (sym (ap is_some is) ∙ sym (has_key-view k ps) ∙ keys k ∙ has_key-view k qs)
    by (Some v) is =
        let Q : Option Value → Type 0 = λ o. IsSomeAnd o (Equal (view v)) in
        eq_at v (get_each IsSaid k ps v said is) (get_each (λ v. HasDistinctKeys (view v)) k ps v d is) (get k qs) (λ w there. get_each (λ v. HasDistinctKeys (view v)) k qs w e there)
        (subst Q (look_up-view k qs) (under_at k v ps qs u is))

pairs_equal : (ps : List (Key × Bson)) → EachValue IsSaid ps → (qs : List (Key × Bson)) → MembersHaveDistinctKeys (members ps) → MembersHaveDistinctKeys (members qs)
    → Decides (pairs_eq bson_eq ps qs) (SameKeys (members ps) (members qs) × EqualUnder (members ps) (members qs))
pairs_equal ps said qs d e = (
  λ h.
      let same = each_from_pairs_eq bson_eq ps qs h in
      (λ k. has_key-view k ps ∙ both_there (get k ps) (get k qs) (same k) ∙ sym (has_key-view k qs), under ps qs ps (own_values ps d) said (each_distinct ps d) (each_distinct qs e) same),
  λ u. pairs_eq_from_each bson_eq ps qs (at_key ps qs said (each_distinct ps d) (each_distinct qs e) u.0 u.1),
)

-- ---- one layer

by_layer : (x : Layer) → ((z : Layer) → HasDistinctKeys (seen x) → HasDistinctKeys (seen z) → Decides (unfolded (roll-Bson x) (roll-Bson z)) (Equal (seen x) (seen z))) → IsSaid (roll-Bson x)
by_layer x f b =
    let z = out-Bson b in
    let P : Bson → Type 0 = λ w. HasDistinctKeys (view (roll-Bson x)) → HasDistinctKeys (view w) → Decides (bson_eq (roll-Bson x) w) (Equal (view (roll-Bson x)) (view w)) in
    let Q : Value → Type 0 = λ v. HasDistinctKeys v → HasDistinctKeys (seen z) → Decides (bson_eq (roll-Bson x) (roll-Bson z)) (Equal v (seen z)) in
    let R : Value → Type 0 = λ w. HasDistinctKeys (view (roll-Bson x)) → HasDistinctKeys w → Decides (bson_eq (roll-Bson x) (roll-Bson z)) (Equal (view (roll-Bson x)) w) in
    subst P (roll_out b) (subst R (sym (view_roll z)) (subst Q (sym (view_roll x)) (λ d e. Decides-at _ _ (is (roll-Bson x) (roll-Bson z)) (f z d e))))

array_said : (x : Vec Bson Global) → Each IsSaid x.items → IsSaid (roll-Bson (Bson-F.Array x))
array_said x said = by_layer (Bson-F.Array x) (λ z d. LayerLemmas.apart-Array x z (λ y e. Decides-at _ _ (sym (is _ _) ∙ LayerLemmas.other-Array x y) (items_equal x.items said y.items d e)))

document_said : (x : Document) → EachValue IsSaid x.pairs → IsSaid (roll-Bson (Bson-F.Document x))
document_said x said = by_layer (Bson-F.Document x) (λ z d. LayerLemmas.apart-Document x z (λ y e. Decides-at _ _ (sym (is _ _) ∙ LayerLemmas.other-Document x y) (pairs_equal x.pairs said y.pairs d e)))

code_said : (x : JavaScriptCodeWithScope) → EachValue IsSaid x.scope.pairs → IsSaid (roll-Bson (Bson-F.JavaScriptCodeWithScope x))
code_said x said =
    by_layer (Bson-F.JavaScriptCodeWithScope x) (λ z d. LayerLemmas.apart-JavaScriptCodeWithScope x z (λ y e. Decides-at _ _ (sym (is _ _) ∙ LayerLemmas.other-Code x y)
    (Decides-like _ (λ h. (h.0, h.1.0, h.1.1)) (λ h. (h.0, (h.1, h.2)))
    (Decides-and (string_eq x.code y.code) (document_eq x.scope y.scope) (bytes_eq-Decides (string_bytes x.code) (string_bytes y.code))
    (Decides-at _ _ (LayerLemmas.family-Document x.scope y.scope) (pairs_equal x.scope.pairs said y.scope.pairs d e))))))

-- ---- all layers

abbrev CodeSaid : JavaScriptCodeWithScope → Type 0
CodeSaid c = EachValue IsSaid c.scope.pairs

abbrev DocumentSaid : Document → Type 0
DocumentSaid d = EachValue IsSaid d.pairs

abbrev Value' : Type 0
Value' = Such the_family (claims IsSaid CodeSaid DocumentSaid) member-Bson

abbrev Code' : Type 0
Code' = Such the_family (claims IsSaid CodeSaid DocumentSaid) member-JavaScriptCodeWithScope

abbrev Document' : Type 0
Document' = Such the_family (claims IsSaid CodeSaid DocumentSaid) member-Document

each_such : (ys : List Value') → Each IsSaid (map (λ y. y.0) ys)
each_such [] = tt
each_such (y ∷ ys) = (y.1, each_such ys)

each_value_such : (ys : List (Key × Value')) → EachValue IsSaid (map (λ p. (p.0, p.1.0)) ys)
each_value_such [] = tt
each_value_such (y ∷ ys) = (y.1.1, each_value_such ys)

step : (y : Bson-F Value' Code' Document') → IsSaid (roll-Bson (map-Bson Value' Code' Document' Bson JavaScriptCodeWithScope Document (λ v. v.0) (λ c. c.0) (λ d. d.0) y))
step (Bson-F.Double x) = by_layer (Bson-F.Double x) (λ z d e. LayerLemmas.leaf-Double x z)
step (Bson-F.String x) = by_layer (Bson-F.String x) (λ z d e. LayerLemmas.leaf-String x z)
step (Bson-F.Boolean x) = by_layer (Bson-F.Boolean x) (λ z d e. LayerLemmas.leaf-Boolean x z)
step (Bson-F.RegularExpression x) = by_layer (Bson-F.RegularExpression x) (λ z d e. LayerLemmas.leaf-RegularExpression x z)
step (Bson-F.JavaScriptCode x) = by_layer (Bson-F.JavaScriptCode x) (λ z d e. LayerLemmas.leaf-JavaScriptCode x z)
step (Bson-F.Int32 x) = by_layer (Bson-F.Int32 x) (λ z d e. LayerLemmas.leaf-Int32 x z)
step (Bson-F.Int64 x) = by_layer (Bson-F.Int64 x) (λ z d e. LayerLemmas.leaf-Int64 x z)
step (Bson-F.Timestamp x) = by_layer (Bson-F.Timestamp x) (λ z d e. LayerLemmas.leaf-Timestamp x z)
step (Bson-F.Binary x) = by_layer (Bson-F.Binary x) (λ z d e. LayerLemmas.leaf-Binary x z)
step (Bson-F.ObjectId x) = by_layer (Bson-F.ObjectId x) (λ z d e. LayerLemmas.leaf-ObjectId x z)
step (Bson-F.DateTime x) = by_layer (Bson-F.DateTime x) (λ z d e. LayerLemmas.leaf-DateTime x z)
step (Bson-F.Symbol x) = by_layer (Bson-F.Symbol x) (λ z d e. LayerLemmas.leaf-Symbol x z)
step (Bson-F.Decimal128 x) = by_layer (Bson-F.Decimal128 x) (λ z d e. LayerLemmas.leaf-Decimal128 x z)
step (Bson-F.DbPointer x) = by_layer (Bson-F.DbPointer x) (λ z d e. LayerLemmas.leaf-DbPointer x z)
step Bson-F.Null = by_layer Bson-F.Null (λ z d e. LayerLemmas.leaf-Null z)
step Bson-F.Undefined = by_layer Bson-F.Undefined (λ z d e. LayerLemmas.leaf-Undefined z)
step Bson-F.MaxKey = by_layer Bson-F.MaxKey (λ z d e. LayerLemmas.leaf-MaxKey z)
step Bson-F.MinKey = by_layer Bson-F.MinKey (λ z d e. LayerLemmas.leaf-MinKey z)
step (Bson-F.Array v) = array_said _ (each_such v.items)
step (Bson-F.Document d) = document_said d.0 d.1
step (Bson-F.JavaScriptCodeWithScope c) = code_said c.0 c.1

pub said : (a : Bson) → IsSaid a
said =
    ind-Bson IsSaid CodeSaid DocumentSaid
    (λ x y e. let P : Layer → Type 0 = λ w. IsSaid (roll-Bson w) in subst P e (step y))
    (λ x y e. let P : JavaScriptCodeWithScope-F Bson JavaScriptCodeWithScope Document → Type 0 = λ w. CodeSaid (roll-JavaScriptCodeWithScope w) in subst P e y.scope.1)
    (λ x y e. let P : Document-F Bson JavaScriptCodeWithScope Document → Type 0 = λ w. DocumentSaid (roll-Document w) in subst P e (each_value_such y.pairs))

said_of_all : (ps : List (Key × Bson)) → EachValue IsSaid ps
said_of_all [] = tt
said_of_all (p ∷ ps) = (said p.1, said_of_all ps)

pub said_of_documents : (a b : Document) → MembersHaveDistinctKeys (members_of (pairs_of a)) → MembersHaveDistinctKeys (members_of (pairs_of b))
    → Decides (document_eq a b) (SameKeys (members_of (pairs_of a)) (members_of (pairs_of b)) × EqualUnder (members_of (pairs_of a)) (members_of (pairs_of b)))
said_of_documents a b d e = Decides-at _ _ (LayerLemmas.family-Document a b) (pairs_equal a.pairs (said_of_all a.pairs) b.pairs d e)
