use Rattle.std.proofs.Common.{◌≡◌, ◌<◌, ◌+◌, ◌∷◌, ◌∙◌, false, length, drop, map, rules, string_bytes, sym, ap, subst, arith}
use Rattle.std.specs.List.{list_any}
use Rattle.std.proofs.lemmas.List.{drop_all, drop_more}
use Rattle.json.specs.Json as json
use Rattle.json.specs.Value.{value_view, items_view, members_view}
use Rattle.json.specs.declared.value.Value.{the_lemmas as tree_lemmas}
use Rattle.bson_model.specs.JsonKeys.{is_reserved}
use Rattle.bson_model.specs.View.{pairs_of, view, items_of}
use Rattle.bson_model.specs.declared.bson.Bson.{the_lemmas}
use Rattle.bson_model.proofs.ViewLemmas.{view-Document}
use Rattle.store_documents.specs.Reads.{ReadsJson, ReadsPairs}
use Rattle.store_documents.proofs.MemberLemmas.{array_told, boolean_told, items_done, items_more, items_none, null_told, object_if, object_told, pairs_done, pairs_more, pairs_none, string_told}
use Rattle.store_documents.proofs.reading.+read.Goals as goal

pub read_items-loop-item-init : goal.read_items-loop-item-init
read_items-loop-item-init t c = items_none c.args.items.now c.new-values.result.items c.new-values.ensures.items

pub read_items-loop-item-preserved : goal.read_items-loop-item-preserved
read_items-loop-item-preserved t c =
    let l = c.loop-item in
    let xs = c.args.items.now in
    let x = c.item-item.result in
    let within : l.item-index < length xs = omega arith in
    let here = drop_more xs l.item-index x within ∙ ap (λ y. y ∷ drop (l.item-index + 1) xs) (sym c.item-item.is) in
    items_more xs (drop l.item-index xs) (drop (l.item-index + 1) xs) x c.in_ok-read.field-0 l.values.items c.push.new.self.items here c.in_ok-read.ensures c.in_ok-push.ensures.items l.invariant

pub read_items-returns : goal.read_items-returns
read_items-returns t c =
    let l = c.loop-item in
    let xs = c.args.items.now in
    items_done xs (drop l.item-index xs) l.values.items (drop_all l.item-index xs c.loop-item-test.false) l.invariant

pub read_pairs-loop-pair-init : goal.read_pairs-loop-pair-init
read_pairs-loop-pair-init t c = pairs_none c.args.pairs.now (pairs_of c.new-document.result) c.new-document.ensures

pub read_pairs-loop-pair-preserved : goal.read_pairs-loop-pair-preserved
read_pairs-loop-pair-preserved t c =
    let l = c.loop-pair in
    let xs = c.args.pairs.now in
    let x = c.pair-item.result in
    let within : l.pair-index < length xs = omega arith in
    let here = drop_more xs l.pair-index x within ∙ ap (λ y. y ∷ drop (l.pair-index + 1) xs) (sym c.pair-item.is) in
    pairs_more xs (drop l.pair-index xs) (drop (l.pair-index + 1) xs) x (view c.in_ok-value.value) (pairs_of l.document) (pairs_of c.add.new.document) here c.in_ok-value.ensures c.in_ok-add.ensures l.invariant

pub read_pairs-returns : goal.read_pairs-returns
read_pairs-returns t c =
    let l = c.loop-pair in
    let xs = c.args.pairs.now in
    pairs_done xs (drop l.pair-index xs) (pairs_of l.document) (drop_all l.pair-index xs c.loop-pair-test.false) l.invariant

pub read-returns-in-Null : goal.read-returns-in-Null
read-returns-in-Null t c = λ _.
    let seen : value_view c.args.value.now ≡ json.null = rw c.in-Null.is (search (rules, tree_lemmas)) in
    null_told (value_view c.args.value.now) _ seen (search (rules, the_lemmas))

pub read-returns-in-Bool : goal.read-returns-in-Bool
read-returns-in-Bool t c = λ _.
    let seen : value_view c.args.value.now ≡ json.boolean c.in-Bool.truth = rw c.in-Bool.is (search (rules, tree_lemmas)) in
    boolean_told (value_view c.args.value.now) c.in-Bool.truth _ seen (search (rules, the_lemmas))

pub read-returns-in_ok-from_str-in-String : goal.read-returns-in_ok-from_str-in-String
read-returns-in_ok-from_str-in-String t c = λ _.
    let text = c.in_ok-from_str-in-String.field-0 in
    let seen : value_view c.args.value.now ≡ json.string c.in-String.text.now = rw c.in-String.is (search (rules, tree_lemmas)) in
    string_told (value_view c.args.value.now) (string_bytes text) _ (seen ∙ ap json.string (sym c.in_ok-from_str-in-String.ensures.ok)) (search (rules, the_lemmas))

pub read-returns-in_ok-read_items-in-Array : goal.read-returns-in_ok-read_items-in-Array
read-returns-in_ok-read_items-in-Array t c =
    let trees = c.as_slice.result.now in
    let seen : value_view c.args.value.now ≡ json.array (items_view trees) = rw (c.in-Array.is, c.as_slice.ensures.value) (search (rules, tree_lemmas)) in
    array_told (value_view c.args.value.now) (items_view trees) (items_of (map view c.in_ok-read_items-in-Array.field-0.items)) _ seen c.in_ok-read_items-in-Array.ensures (search (rules, the_lemmas))

pub read-returns-in-Object : goal.read-returns-in-Object
read-returns-in-Object t c =
    let ms = c.as_slice-in-Object.result.now in
    let seen : value_view c.args.value.now ≡ json.object (members_view ms) = rw (c.in-Object.is, c.as_slice-in-Object.ensures.value) (search (rules, tree_lemmas)) in
    object_if c.read_object.result (value_view c.args.value.now) (members_view ms) seen c.read_object.ensures

pub read_object-returns-2 : goal.read_object-returns-2
read_object-returns-2 t c = λ h.
    let js = members_view c.args.members.now in
    let rs = c.in_ok-pairs.pairs.items in
    let d = c.in_ok-document.document in
    let free : list_any (λ r. is_reserved r.0.now) rs ≡ false = ap (list_any (λ r. is_reserved r.0.now)) (sym c.as_slice.ensures.value) ∙ sym c.has_reserved.ensures ∙ c.if-has_reserved.false in
    let reads = subst (λ xs. ReadsPairs xs (pairs_of d)) c.as_slice-2.ensures.value c.in_ok-document.ensures in
    subst (ReadsJson (json.object js)) (sym (view-Document d)) (object_told js rs (pairs_of d) (c.in_ok-pairs.ensures h) free reads)
