-- The text of a form is read by the reader of texts.
use Rattle.std.proofs.Common.{◌≡◌, ℕ, suc, ◌+◌, ◌≤◌, ℤ, Bool, true, false, if◌then◌else◌, List, Some, None, Result, Ok, Err, refl, ap, ◌∙◌, sym, subst, arith}
use Rattle.json.specs.Json as json
use Rattle.json.specs.Json.{Json, number, object, document as tree_of, max_depth}
use Rattle.json.specs.Tree.{depth, items_depth, members_depth}
use Rattle.bson_json_read.specs.DoubleText.{is_finite}
use Rattle.bson_base.specs.Dates.{date_text}
use Rattle.bson_base.specs.Value.{Scalar, double, string, binary, undefined, object_id, boolean, date_time, null, regex, db_pointer, code, symbol, int32, timestamp, int64, decimal, max_key, min_key, Value, scalar, array, document, scoped_code, Items, no_items, item, Members, no_members, member}
use Rattle.bson_base.specs.Kinds.{IsSound}
use Rattle.bson_model.specs.JsonKeys.{Reserved, of_int, of_long, of_double, of_date}
use Rattle.bson_model.specs.JsonWrite.{is_relaxed_date}
use Rattle.bson_model.specs.View.{content}
use Rattle.bson_model.specs.declared.document.Document.{Document}
use Rattle.bson_model.specs.declared.extjson.ser.Mode.{Mode}
use Rattle.bson_model.specs.declared.extjson.ser.Mode.TheVariants.{Canonical, Relaxed}
use Rattle.bson_meaning.specs.JsonReserved.{has_reserved}
use Rattle.bson_json.specs.Form.{Writes, WritesScalar, WritesItems, WritesMembers, date_form, double_form, integer_form, millis_form, text_wrapper, wrapper_of}
use Rattle.bson_json.specs.Prints.{IsTextOf}
use Rattle.bson_json_read.specs.Reading.{read_top, ReadsText, RefusesTree}
use Rattle.bson_json_read.specs.declared.error.Error.{Error}
use Rattle.bson_json_read.specs.declared.error.Error.TheVariants.{NotJson, RepeatedKey, InvalidObjectId, NumberOutOfRange, NotExtendedJson, Memory}
use Rattle.bson_json.specs.Settled.{settle_members, ComesBack, json_levels, json_items_levels, json_members_levels}
use Rattle.bson_json.proofs.ReadBackLemmas.{top_back}

-- ---- how deep the tree is

double_deep : (m : Mode) (n : ℕ) (t : List ℕ) → depth (double_form m n t) ≤ 3
double_deep Canonical n t = omega arith
double_deep Relaxed n t = by (is_finite n)
  where
    by : (b : Bool) → depth (if b then number t else text_wrapper of_double t) ≤ 3
    by true = omega arith
    by false = omega arith

integer_deep : (m : Mode) (r : Reserved) (z : ℤ) → depth (integer_form m r z) ≤ 3
integer_deep Canonical r z = omega arith
integer_deep Relaxed r z = omega arith

date_deep : (m : Mode) (z : ℤ) → depth (date_form m z) ≤ 3
date_deep Canonical z = omega arith
date_deep Relaxed z = by (is_relaxed_date z)
  where
    by : (b : Bool) → depth (wrapper_of of_date (if b then json.string (date_text z) else millis_form z)) ≤ 3
    by true = omega arith
    by false = omega arith

scalar_deep : (m : Mode) (s : Scalar) (j : Json) → WritesScalar m s j → depth j ≤ 3
scalar_deep m (double n) j w = subst (λ i. depth i ≤ 3) (sym w.2) (double_deep m n w.0)
scalar_deep m (string t) j w = subst (λ i. depth i ≤ 3) (sym w) (omega arith)
scalar_deep m (binary s bs) j w = subst (λ i. depth i ≤ 3) (sym w) (omega arith)
scalar_deep m undefined j w = subst (λ i. depth i ≤ 3) (sym w) (omega arith)
scalar_deep m (object_id bs) j w = subst (λ i. depth i ≤ 3) (sym w) (omega arith)
scalar_deep m (boolean b) j w = subst (λ i. depth i ≤ 3) (sym w) (omega arith)
scalar_deep m (date_time z) j w = subst (λ i. depth i ≤ 3) (sym w) (date_deep m z)
scalar_deep m null j w = subst (λ i. depth i ≤ 3) (sym w) (omega arith)
scalar_deep m (regex p o) j w = subst (λ i. depth i ≤ 3) (sym w) (omega arith)
scalar_deep m (db_pointer t bs) j w = subst (λ i. depth i ≤ 3) (sym w) (omega arith)
scalar_deep m (code t) j w = subst (λ i. depth i ≤ 3) (sym w) (omega arith)
scalar_deep m (symbol t) j w = subst (λ i. depth i ≤ 3) (sym w) (omega arith)
scalar_deep m (int32 z) j w = subst (λ i. depth i ≤ 3) (sym w) (integer_deep m of_int z)
scalar_deep m (timestamp t i) j w = subst (λ k. depth k ≤ 3) (sym w) (omega arith)
scalar_deep m (int64 z) j w = subst (λ i. depth i ≤ 3) (sym w) (integer_deep m of_long z)
scalar_deep m (decimal bs) j w = subst (λ i. depth i ≤ 3) (sym w) (omega arith)
scalar_deep m max_key j w = subst (λ i. depth i ≤ 3) (sym w) (omega arith)
scalar_deep m min_key j w = subst (λ i. depth i ≤ 3) (sym w) (omega arith)

mutual
  pub deep : (m : Mode) (v : Value) (j : Json) → Writes m v j → depth j ≤ json_levels v + 3
  deep m (scalar s) j w = scalar_deep m s j w
  deep m (array vs) j w = subst (λ i. depth i ≤ suc (json_items_levels vs) + 3) (sym w.2) (omega (arith, items_deep m vs w.0 w.1))
  deep m (document ms) j w = subst (λ i. depth i ≤ suc (json_members_levels ms) + 3) (sym w.2) (omega (arith, members_deep m ms w.0 w.1))
  deep m (scoped_code t ms) j w = subst (λ i. depth i ≤ suc (suc (json_members_levels ms)) + 3) (sym w.2) (omega (arith, members_deep m ms w.0 w.1))

  items_deep : (m : Mode) (vs : Items) (js : json.Items) → WritesItems m vs js → items_depth js ≤ json_items_levels vs + 3
  items_deep m no_items json.no_items w = omega arith
  items_deep m no_items (json.item j js) w = absurd w
  items_deep m (item v vs) json.no_items w = absurd w
  items_deep m (item v vs) (json.item j js) w = omega (arith, deep m v j w.0, items_deep m vs js w.1)

  members_deep : (m : Mode) (ms : Members) (js : json.Members) → WritesMembers m ms js → members_depth js ≤ json_members_levels ms + 3
  members_deep m no_members json.no_members w = omega arith
  members_deep m no_members (json.member l j js) w = absurd w
  members_deep m (member k v ms) json.no_members w = absurd w
  members_deep m (member k v ms) (json.member l j js) w = omega (arith, deep m v j w.1, members_deep m ms js w.2)

-- ---- what is read

-- a fault of the tree, which has none
refused_not : (A : Type 0) (ms : Members) (t : List ℕ) (j : Json) (e : Error) → tree_of t ≡ Some j → read_top j ≡ Ok ms → RefusesTree read_top t e → A
refused_not A ms t j e tree ok r =
    let same : Some r.0 ≡ Some j = sym r.1 ∙ tree in
    let is : r.0 ≡ j = cc same in
    let both : Ok ms ≡ Err e = sym ok ∙ ap read_top (sym is) ∙ r.2 in
    absurd (cc both)

no_tree_not : (A : Type 0) (t : List ℕ) (j : Json) → tree_of t ≡ Some j → tree_of t ≡ None → A
no_tree_not A t j tree none = let both : Some j ≡ None = sym tree ∙ none in absurd (cc both)

-- the tree of the text reads as the members
by_tree : (m : Mode) (ms : Members) (t : List ℕ) (j : Json) → tree_of t ≡ Some j → read_top j ≡ Ok (settle_members m ms) → (r : Result Document Error) → ReadsText t r → ComesBack m ms r
by_tree m ms t j tree ok (Ok d) reads =
    let same : Some reads.0 ≡ Some j = sym reads.1 ∙ tree in
    let is : reads.0 ≡ j = cc same in
    let both : Ok (content d) ≡ Ok (settle_members m ms) = sym reads.2 ∙ ap read_top is ∙ ok in
    cc both
by_tree m ms t j tree ok (Err Memory) reads = refl
by_tree m ms t j tree ok (Err (NotJson n)) reads = no_tree_not (NotJson n ≡ Memory) t j tree reads
by_tree m ms t j tree ok (Err RepeatedKey) reads = refused_not (RepeatedKey ≡ Memory) (settle_members m ms) t j RepeatedKey tree ok reads
by_tree m ms t j tree ok (Err (InvalidObjectId e)) reads = refused_not (InvalidObjectId e ≡ Memory) (settle_members m ms) t j (InvalidObjectId e) tree ok reads
by_tree m ms t j tree ok (Err NumberOutOfRange) reads = refused_not (NumberOutOfRange ≡ Memory) (settle_members m ms) t j NumberOutOfRange tree ok reads
by_tree m ms t j tree ok (Err NotExtendedJson) reads = refused_not (NotExtendedJson ≡ Memory) (settle_members m ms) t j NotExtendedJson tree ok reads

pub comes_back : (m : Mode) (ms : Members) (t : List ℕ) (r : Result Document Error) → IsSound (document ms) → has_reserved ms ≡ false → json_levels (document ms) ≤ 125 → IsTextOf m (document ms) t → ReadsText t r → ComesBack m ms r
comes_back m ms t r s free low text reads =
    let j = text.0 in
    by_tree m ms t j (text.3 (omega (arith, low, deep m (document ms) j text.1))) (top_back m ms j s free text.1) r reads
