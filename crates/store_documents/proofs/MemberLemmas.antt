-- Members and items, one after the other.
use Rattle.std.proofs.Common.{◌≡◌, ℕ, List, [], ◌∷◌, ◌++◌, Bool, false, map, Option, Some, None, Result, Ok, Err, refl, sym, ap, ◌∙◌, ap₂, subst, append_assoc, append-nil}
use Rattle.std.specs.Prelude.{◌||◌, IfOk, unwrap_or, option_map, option_and_then, if◌then◌else◌}
use Rattle.std.specs.Borrow.{Bor}
use Rattle.std.specs.List.{list_any}
use Rattle.std.specs.declared.alloc.Global.{Global}
use Rattle.json.specs.Json as json
use Rattle.json.specs.Json.{Json}
use Rattle.json.specs.Tree.{HasNumbers, ItemsHaveNumbers, MembersHaveNumbers}
use Rattle.json.specs.Value.{value_view, items_view}
use Rattle.json.specs.declared.value.Value.{Value as Tree}
use Rattle.serde_json.specs.Data as sorted
use Rattle.serde_json.specs.Data.{Data, object, member, no_members, put}
use Rattle.serde_json.specs.Read.{of_json, of_items, of_members}
use Rattle.store_documents.specs.Forms.{ShowPairs, pair_forms}
use Rattle.store_documents.specs.Order.{IsPutInOrder}
use Rattle.store_documents.proofs.FormLemmas.{among}
use Rattle.bson_base.specs.Answer.{◌>>=◌}
use Rattle.bson_base.specs.Value as values
use Rattle.bson_base.specs.Value.{Value, document}
use Rattle.bson_pairs.specs.Keyed.{get, put as put_pair}
use Rattle.bson_pairs.proofs.KeyedLemmas.{put-new}
use Rattle.bson_model.specs.JsonKeys.{any_reserved, is_reserved}
use Rattle.bson_model.specs.JsonRead.{read_items, read_members, read_typed}
use Rattle.bson_model.specs.View.{view, items_of, members_of, content, pairs_of}
use Rattle.bson_model.specs.declared.bson.Bson.{Bson}
use Rattle.bson_model.specs.declared.document.Document.{Document}
use Rattle.store_documents.specs.declared.unread.Unread.{Unread}
use Rattle.store_documents.specs.Reads.{AreInOrder, IsTree, ReadsDocument, ReadsItems, ReadsJson, ReadsPairs}

abbrev Pair : Type 0
Pair = Bor (List ℕ) × Bor (Tree Global)

-- ---- pairs of an object, put in order

-- the pairs are the members before those that are left, in order
abbrev pub Taken : json.Members → json.Members → List Pair → Type 0
Taken all left rs = MembersHaveNumbers all → MembersHaveNumbers left × (ps : List (List ℕ × Json)) × ShowPairs IsTree rs ps
    × (of_members all no_members ≡ option_and_then (λ js. of_members left js) (pair_forms of_json ps))

pub taken_none : (all left : json.Members) (rs : List Pair) → left ≡ all → rs ≡ [] → Taken all left rs
taken_none all left rs same none h = (
  subst MembersHaveNumbers (sym same) h,
  [],
  subst (λ ys. ShowPairs IsTree ys []) (sym none) tt,
  ap (λ js. of_members js no_members) (sym same),
)

turn : (o : Option Data) (w : Option sorted.Members) (f : Data → sorted.Members → sorted.Members) (g : sorted.Members → Option sorted.Members)
    → option_and_then (λ js. option_and_then (λ j. g (f j js)) o) w ≡ option_and_then g (option_and_then (λ j. option_map (f j) w) o)
turn (Some j) (Some js) f g = refl
turn (Some j) None f g = refl
turn None (Some js) f g = refl
turn None None f g = refl

pub taken_more : (all left more : json.Members) (k : Bor (List ℕ)) (v : Bor (Tree Global)) (rs new : List Pair) → left ≡ json.member k.now (value_view v.now) more → IsPutInOrder k v rs new → Taken all left rs → Taken all more new
taken_more all left more k v rs new first put taken h =
    let l = taken h in
    let ps = l.1 in
    let numbers = subst MembersHaveNumbers first l.0 in
    let j = value_view v.now in
    let a = among IsTree of_json k v j (refl, numbers.0) put.1 rs ps l.2 put.2 in (
      numbers.1,
      a.0,
      subst (λ ys. ShowPairs IsTree ys a.0) (sym put.3) a.1,
      l.3
          ∙ ap (λ ms. option_and_then (λ js. of_members ms js) (pair_forms of_json ps)) first
          ∙ turn (of_json j) (pair_forms of_json ps) (λ d js. sorted.put k.now d js) (λ js. of_members more js)
          ∙ ap (option_and_then (λ js. of_members more js)) (sym a.2),
    )

all_there : (w : Option sorted.Members) → option_and_then (λ js. Some js) w ≡ w
all_there (Some js) = refl
all_there None = refl

pub taken_all : (all left : json.Members) (rs : List Pair) → left ≡ json.no_members → Taken all left rs → MembersHaveNumbers all → AreInOrder all rs
taken_all all left rs none taken h =
    let l = taken h in
    let forms = pair_forms of_json l.1 in
    (l.1, l.2, l.3 ∙ ap (λ ms. option_and_then (λ js. of_members ms js) forms) none ∙ all_there forms)

-- ---- a document, pair by pair

pub appended : (k l : List ℕ) (v : Value) (ps qs : List (List ℕ × Value)) → l ≡ k → get l ps ≡ None → qs ≡ put_pair l v ps → qs ≡ ps ++ (k, v) ∷ []
appended k l v ps qs same none is = is ∙ put-new l v ps none ∙ ap (λ m. ps ++ (m, v) ∷ []) same

-- if the pairs that are left read as some members, all pairs read as these after the ones that were read
abbrev pub PairsSoFar : List Pair → List Pair → List (List ℕ × Value) → Type 0
PairsSoFar all left done = (vs : List (List ℕ × Value)) → ReadsPairs left vs → ReadsPairs all (done ++ vs)

pub pairs_none : (all : List Pair) (done : List (List ℕ × Value)) → done ≡ [] → PairsSoFar all all done
pairs_none all done none = λ vs h. subst (λ d. ReadsPairs all (d ++ vs)) (sym none) h

pair_first : (r : Pair) (more : List Pair) (v : Value) (vs : List (List ℕ × Value)) → (HasNumbers (value_view r.1.now) → ReadsJson (value_view r.1.now) v) → ReadsPairs more vs → ReadsPairs (r ∷ more) ((r.0.now, v) ∷ vs)
pair_first r more v vs told rest [] shown = absurd shown
pair_first r more v vs told rest (p ∷ ps) shown =
    let tree = shown.0.1 in
    let t = told (subst HasNumbers tree.0 tree.1) in
    let m = rest ps shown.1 in (
      member r.0.now t.0 m.0,
      ap (λ k. option_and_then (λ j. option_map (member k j) (pair_forms of_json ps)) (of_json p.1)) shown.0.0
          ∙ ap (λ o. option_and_then (λ j. option_map (member r.0.now j) (pair_forms of_json ps)) o) (ap of_json tree.0 ∙ t.1)
          ∙ ap (option_map (member r.0.now t.0)) m.1,
      ap (λ x. x >>= λ y. read_members m.0 >>= λ ms. Ok (values.member r.0.now y ms)) t.2 ∙ ap (λ x. x >>= λ ms. Ok (values.member r.0.now v ms)) m.2,
    )

pub pairs_more : (all left more : List Pair) (r : Pair) (v : Value) (done next : List (List ℕ × Value)) → left ≡ r ∷ more → (HasNumbers (value_view r.1.now) → ReadsJson (value_view r.1.now) v)
    → next ≡ done ++ (r.0.now, v) ∷ [] → PairsSoFar all left done → PairsSoFar all more next
pairs_more all left more r v done next first told is so = λ vs h.
    let here = so ((r.0.now, v) ∷ vs) (subst (λ rs. ReadsPairs rs ((r.0.now, v) ∷ vs)) (sym first) (pair_first r more v vs told h)) in
    subst (ReadsPairs all) (sym (ap (λ d. d ++ vs) is ∙ append_assoc done ((r.0.now, v) ∷ []) vs)) here

none_left : ReadsPairs [] []
none_left [] shown = (no_members, refl, refl)
none_left (p ∷ ps) shown = absurd shown

pub pairs_done : (all left : List Pair) (done : List (List ℕ × Value)) → left ≡ [] → PairsSoFar all left done → ReadsPairs all done
pairs_done all left done none so = subst (ReadsPairs all) (append-nil done) (so [] (subst (λ rs. ReadsPairs rs []) (sym none) none_left))

-- ---- an object

keys_same : (rs : List Pair) (ps : List (List ℕ × Json)) (ds : sorted.Members) → ShowPairs IsTree rs ps → pair_forms of_json ps ≡ Some ds → any_reserved ds ≡ list_any (λ r. is_reserved r.0.now) rs
keys_same [] [] ds shown is = ap (λ o. any_reserved (unwrap_or o no_members)) (sym is)
keys_same [] (p ∷ ps) ds shown is = absurd shown
keys_same (r ∷ rs) [] ds shown is = absurd shown
keys_same (r ∷ rs) (p ∷ ps) ds shown is = by (λ js e. keys_same rs ps js shown.1 e) (of_json p.1) (pair_forms of_json ps) refl is
  where
    by : ((js : sorted.Members) → pair_forms of_json ps ≡ Some js → any_reserved js ≡ list_any (λ x. is_reserved x.0.now) rs) → (o : Option Data) (w : Option sorted.Members) → pair_forms of_json ps ≡ w
        → option_and_then (λ j. option_map (member p.0 j) w) o ≡ Some ds → any_reserved ds ≡ (is_reserved r.0.now || list_any (λ x. is_reserved x.0.now) rs)
    by more None w e h = absurd cc
    by more (Some j) None e h = absurd cc
    by more (Some j) (Some js) e h = ap (λ o. any_reserved (unwrap_or o no_members)) (sym h) ∙ ap₂ (λ (k : List ℕ) (b : Bool). is_reserved k || b) shown.0.0 (more js e)

pub object_told : (js : json.Members) (rs : List Pair) (vs : List (List ℕ × Value)) → AreInOrder js rs → list_any (λ r. is_reserved r.0.now) rs ≡ false → ReadsPairs rs vs → ReadsJson (json.object js) (document (members_of vs))
object_told js rs vs order free reads =
    let m = reads order.0 order.1 in (
      object m.0,
      ap (option_map object) (order.2 ∙ m.1),
      ap (λ b. if b then read_typed m.0 else (read_members m.0 >>= λ ms. Ok (document ms))) (keys_same rs order.0 m.0 order.1 m.1 ∙ free) ∙ ap (λ r. r >>= λ ms. Ok (document ms)) m.2,
    )

pub document_told : (j : Json) (js : json.Members) (rs : List Pair) (vs : List (List ℕ × Value)) → j ≡ json.object js → AreInOrder js rs → ReadsPairs rs vs → ReadsDocument (of_json j) (members_of vs)
document_told j js rs vs is order reads =
    let m = reads order.0 order.1 in
    (m.0, ap of_json is ∙ ap (option_map object) (order.2 ∙ m.1), m.2)

-- ---- items

-- if the trees that are left read as some values, all trees read as these after the ones that were read
abbrev pub ItemsSoFar : List (Tree Global) → List (Tree Global) → List Bson → Type 0
ItemsSoFar all left done = ItemsHaveNumbers (items_view all)
    → ItemsHaveNumbers (items_view left) × ((vs : List Value) → ReadsItems (items_view left) (items_of vs) → ReadsItems (items_view all) (items_of (map view done ++ vs)))

pub items_none : (all : List (Tree Global)) (done : List Bson) → done ≡ [] → ItemsSoFar all all done
items_none all done none h = (h, λ vs r. subst (λ d. ReadsItems (items_view all) (items_of (map view d ++ vs))) (sym none) r)

item_first : (t : Tree Global) (more : List (Tree Global)) (v : Value) (vs : List Value) → ReadsJson (value_view t) v → ReadsItems (items_view more) (items_of vs) → ReadsItems (items_view (t ∷ more)) (items_of (v ∷ vs))
item_first t more v vs told rest = (
  sorted.item told.0 rest.0,
  ap (λ o. option_and_then (λ d. option_map (sorted.item d) (of_items (items_view more))) o) told.1 ∙ ap (option_map (sorted.item told.0)) rest.1,
  ap (λ x. x >>= λ y. read_items rest.0 >>= λ ys. Ok (values.item y ys)) told.2 ∙ ap (λ x. x >>= λ ys. Ok (values.item v ys)) rest.2,
)

pub items_more : (all left more : List (Tree Global)) (t : Tree Global) (b : Bson) (done next : List Bson) → left ≡ t ∷ more → (HasNumbers (value_view t) → ReadsJson (value_view t) (view b)) → next ≡ done ++ b ∷ [] → ItemsSoFar all left done
    → ItemsSoFar all more next
items_more all left more t b done next first told is so h =
    let l = so h in
    let numbers = subst (λ ts. ItemsHaveNumbers (items_view ts)) first l.0 in (
      numbers.1,
      λ vs r.
          let here = l.1 (view b ∷ vs) (subst (λ ts. ReadsItems (items_view ts) (items_of (view b ∷ vs))) (sym first) (item_first t more (view b) vs (told numbers.0) r)) in
          subst (λ us. ReadsItems (items_view all) (items_of us)) (sym (ap (λ d. map view d ++ vs) is ∙ seen_more done b vs)) here,
    )
  where
    seen_more : (done : List Bson) (b : Bson) (vs : List Value) → map view (done ++ b ∷ []) ++ vs ≡ map view done ++ (view b ∷ vs)
    seen_more [] b vs = refl
    seen_more (d ∷ done) b vs = ap (λ us. view d ∷ us) (seen_more done b vs)

pub items_done : (all left : List (Tree Global)) (done : List Bson) → left ≡ [] → ItemsSoFar all left done → ItemsHaveNumbers (items_view all) → ReadsItems (items_view all) (items_of (map view done))
items_done all left done none so h =
    subst (λ us. ReadsItems (items_view all) (items_of us)) (append-nil (map view done)) ((so h).1 [] (subst (λ ts. ReadsItems (items_view ts) values.no_items) (sym none) (sorted.no_items, refl, refl)))

-- ---- a tree by its kind

pub null_told : (j : Json) (w : Value) → j ≡ json.null → values.scalar values.null ≡ w → ReadsJson j w
null_told j w is same = (sorted.null, ap of_json is, ap Ok same)

pub boolean_told : (j : Json) (b : Bool) (w : Value) → j ≡ json.boolean b → values.scalar (values.boolean b) ≡ w → ReadsJson j w
boolean_told j b w is same = (sorted.boolean b, ap of_json is, ap Ok same)

pub string_told : (j : Json) (t : List ℕ) (w : Value) → j ≡ json.string t → values.scalar (values.string t) ≡ w → ReadsJson j w
string_told j t w is same = (sorted.string t, ap of_json is, ap Ok same)

pub array_told : (j : Json) (js : json.Items) (vs : values.Items) (w : Value) → j ≡ json.array js → (ItemsHaveNumbers js → ReadsItems js vs) → values.array vs ≡ w → HasNumbers j → ReadsJson j w
array_told j js vs w is told same h =
    let r = told (subst HasNumbers is h) in
    (sorted.array r.0, ap of_json is ∙ ap (option_map sorted.array) r.1, ap (λ x. x >>= λ us. Ok (values.array us)) r.2 ∙ ap Ok same)

pub object_if : (r : Result Bson Unread) (j : Json) (js : json.Members) → j ≡ json.object js → IfOk r (λ b. MembersHaveNumbers js → ReadsJson (json.object js) (view b)) → IfOk r (λ b. HasNumbers j → ReadsJson j (view b))
object_if (Ok b) j js is told = λ h. subst (λ x. ReadsJson x (view b)) (sym is) (told (subst HasNumbers is h))
object_if (Err e) j js is told = tt

pub document_if : (r : Result Document Unread) (j : Json) (js : json.Members) (rs : List Pair) → j ≡ json.object js → (MembersHaveNumbers js → AreInOrder js rs) → IfOk r (λ d. ReadsPairs rs (pairs_of d))
    → IfOk r (λ d. HasNumbers j → ReadsDocument (of_json j) (content d))
document_if (Ok d) j js rs is order reads = λ h. document_told j js rs (pairs_of d) is (order (subst HasNumbers is h)) reads
document_if (Err e) j js rs is order reads = tt
