use Rattle.std.proofs.Common.{◌<◌, length, map, arith, subst}
use Rattle.bson_base.specs.Value.{HasDistinctKeys, ItemsHaveDistinctKeys}
use Rattle.bson_model.specs.View.{view, items_of}
use Rattle.bson_model.specs.declared.bson.Bson.{Bson}
use Rattle.std.proofs.Common.{List}
use Rattle.bson_model.proofs.DistinctLemmas.{more_distinct, document_distinct}
use Rattle.bson_model.proofs.laws.+distinct.Goals as goal

pub distinct_keys_of_document-returns : goal.distinct_keys_of_document-returns
distinct_keys_of_document-returns t c =
    let P : List Bson → Type 0 = λ vs. ItemsHaveDistinctKeys (items_of (map view vs)) in
    document_distinct c.args.document.now c.keys-keys.ensures.distinct (subst P c.values.ensures c.distinct_keys_of_items.ensures)

pub distinct_keys_of_items-loop-item-preserved : goal.distinct_keys_of_items-loop-item-preserved
distinct_keys_of_items-loop-item-preserved t c =
    let items = c.args.items.now in
    let i = c.loop-item.item-index in
    let within : i < length items = omega arith in
    let P : Bson → Type 0 = λ v. HasDistinctKeys (view v) in
    more_distinct items i c.item-item.result within c.loop-item.invariant (subst P c.item-item.is c.distinct_keys.ensures)
