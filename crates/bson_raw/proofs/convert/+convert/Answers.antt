use Rattle.std.proofs.Common.{◌≢◌, ◌∙◌, ◌∷◌, [], ap, refl, subst, arith, rules}
use Rattle.std.proofs.lemmas.Result.{err_from_is_err_and}
use Rattle.bson_base.specs.Scalars.{id_bytes, millis_of, decimal_bytes}
use Rattle.bson_base.specs.Value.{double, string, binary, undefined, object_id, boolean, date_time, null, regex, db_pointer, code, symbol, int32, timestamp, int64, decimal, max_key, min_key, scalar, array, document, scoped_code, put}
use Rattle.bson_bytes.specs.Spells.{SpellsItems, SpellsMembers}
use Rattle.bson_frame.specs.View.{element_of}
use Rattle.bson_model.specs.Extend.{put_all}
use Rattle.bson_model.specs.View.{view, members_of, pairs_of}
use Rattle.bson_model.specs.declared.bson.Bson.{the_lemmas}
use Rattle.bson_raw.proofs.ConversionLemmas.{inner_shorter, element_converted}
use Rattle.bson_raw.proofs.ProgressLemmas.{frame_longer, no_frame, faulty_element, untrue, members_start, members_done, members_more, items_done, items_more}
use Rattle.bson_raw.proofs.SettleLemmas.{members_of_put}
use Rattle.bson_raw.proofs.convert.+convert.Goals as goal

pub tree_of-returns-in-Double : goal.tree_of-returns-in-Double
tree_of-returns-in-Double t c = (scalar (double c.in-Double.x.0), rw c.in-Double.is refl, search (rules, the_lemmas))

pub tree_of-returns-in-Boolean : goal.tree_of-returns-in-Boolean
tree_of-returns-in-Boolean t c = (scalar (boolean c.in-Boolean.x), rw c.in-Boolean.is refl, search (rules, the_lemmas))

pub tree_of-returns-in-Null : goal.tree_of-returns-in-Null
tree_of-returns-in-Null t c = (scalar null, rw c.in-Null.is refl, search (rules, the_lemmas))

pub tree_of-returns-in-Int32 : goal.tree_of-returns-in-Int32
tree_of-returns-in-Int32 t c = (scalar (int32 c.in-Int32.x), rw c.in-Int32.is refl, search (rules, the_lemmas))

pub tree_of-returns-in-Int64 : goal.tree_of-returns-in-Int64
tree_of-returns-in-Int64 t c = (scalar (int64 c.in-Int64.x), rw c.in-Int64.is refl, search (rules, the_lemmas))

pub tree_of-returns-in-Timestamp : goal.tree_of-returns-in-Timestamp
tree_of-returns-in-Timestamp t c = (scalar (timestamp c.in-Timestamp.x.time c.in-Timestamp.x.increment), rw c.in-Timestamp.is refl, search (rules, the_lemmas))

pub tree_of-returns-in-ObjectId : goal.tree_of-returns-in-ObjectId
tree_of-returns-in-ObjectId t c = (scalar (object_id (id_bytes c.in-ObjectId.x)), rw c.in-ObjectId.is refl, search (rules, the_lemmas))

pub tree_of-returns-in-DateTime : goal.tree_of-returns-in-DateTime
tree_of-returns-in-DateTime t c = (scalar (date_time (millis_of c.in-DateTime.x)), rw c.in-DateTime.is refl, search (rules, the_lemmas))

pub tree_of-returns-in-Decimal128 : goal.tree_of-returns-in-Decimal128
tree_of-returns-in-Decimal128 t c = (scalar (decimal (decimal_bytes c.in-Decimal128.x)), rw c.in-Decimal128.is refl, search (rules, the_lemmas))

pub tree_of-returns-in-Undefined : goal.tree_of-returns-in-Undefined
tree_of-returns-in-Undefined t c = (scalar undefined, rw c.in-Undefined.is refl, search (rules, the_lemmas))

pub tree_of-returns-in-MaxKey : goal.tree_of-returns-in-MaxKey
tree_of-returns-in-MaxKey t c = (scalar max_key, rw c.in-MaxKey.is refl, search (rules, the_lemmas))

pub tree_of-returns-in-MinKey : goal.tree_of-returns-in-MinKey
tree_of-returns-in-MinKey t c = (scalar min_key, rw c.in-MinKey.is refl, search (rules, the_lemmas))

pub tree_of-returns-in_ok-from_str-in-String : goal.tree_of-returns-in_ok-from_str-in-String
tree_of-returns-in_ok-from_str-in-String t c = (scalar (string c.in-String.text.now), rw c.in-String.is refl, search (rules, the_lemmas, c.in_ok-from_str-in-String.ensures.ok))

pub tree_of-returns-in_ok-from_str-in-JavaScriptCode : goal.tree_of-returns-in_ok-from_str-in-JavaScriptCode
tree_of-returns-in_ok-from_str-in-JavaScriptCode t c = (scalar (code c.in-JavaScriptCode.text.now), rw c.in-JavaScriptCode.is refl, search (rules, the_lemmas, c.in_ok-from_str-in-JavaScriptCode.ensures.ok))

pub tree_of-returns-in_ok-from_str-in-Symbol : goal.tree_of-returns-in_ok-from_str-in-Symbol
tree_of-returns-in_ok-from_str-in-Symbol t c = (scalar (symbol c.in-Symbol.text.now), rw c.in-Symbol.is refl, search (rules, the_lemmas, c.in_ok-from_str-in-Symbol.ensures.ok))

pub tree_of-returns-in_ok-regex_of-in-RegularExpression : goal.tree_of-returns-in_ok-regex_of-in-RegularExpression
tree_of-returns-in_ok-regex_of-in-RegularExpression t c = (scalar (regex c.in-RegularExpression.x.pattern.now c.in-RegularExpression.x.options.now), rw c.in-RegularExpression.is refl, search (rules, the_lemmas, c.in_ok-regex_of-in-RegularExpression.ensures.pattern, c.in_ok-regex_of-in-RegularExpression.ensures.options))

pub tree_of-returns-in_ok-to_binary-in-Binary : goal.tree_of-returns-in_ok-to_binary-in-Binary
tree_of-returns-in_ok-to_binary-in-Binary t c = (scalar (binary c.in-Binary.x.subtype c.in-Binary.x.bytes.now), rw c.in-Binary.is refl, search (rules, the_lemmas, c.in_ok-to_binary-in-Binary.ensures.subtype, c.in_ok-to_binary-in-Binary.ensures.bytes))

pub tree_of-returns-in_ok-pointer_of-in-DbPointer : goal.tree_of-returns-in_ok-pointer_of-in-DbPointer
tree_of-returns-in_ok-pointer_of-in-DbPointer t c = (scalar (db_pointer c.in-DbPointer.x.namespace.now (id_bytes c.in-DbPointer.x.id)), rw c.in-DbPointer.is refl, search (rules, the_lemmas, c.in_ok-pointer_of-in-DbPointer.ensures.namespace, c.in_ok-pointer_of-in-DbPointer.ensures.id))

pub tree_of-returns-in_ok-array_of-in-Array : goal.tree_of-returns-in_ok-array_of-in-Array
tree_of-returns-in_ok-array_of-in-Array t c =
    let r = c.in_ok-array_of-in-Array.ensures in
    (array r.0, rw c.in-Array.is (r.0, subst (λ b. SpellsItems b r.0) c.elements.ensures.value r.1, refl), search (rules, the_lemmas, r.2))

pub tree_of-returns-in_ok-document_of-in-Document : goal.tree_of-returns-in_ok-document_of-in-Document
tree_of-returns-in_ok-document_of-in-Document t c =
    let r = c.in_ok-document_of-in-Document.ensures in
    (document r.0, rw c.in-Document.is (r.0, subst (λ b. SpellsMembers b r.0) c.elements-in-Document.ensures.value r.1, refl), search (rules, the_lemmas, r.2))

pub tree_of-returns-in_ok-scoped_of-in-JavaScriptCodeWithScope : goal.tree_of-returns-in_ok-scoped_of-in-JavaScriptCodeWithScope
tree_of-returns-in_ok-scoped_of-in-JavaScriptCodeWithScope t c =
    let r = c.in_ok-scoped_of-in-JavaScriptCodeWithScope.ensures in
    (scoped_code c.in-JavaScriptCodeWithScope.x.code.now r.1.0, rw c.in-JavaScriptCodeWithScope.is (r.1.0, r.1.1, refl), search (rules, the_lemmas, r.0, r.1.2))

pub element_tree-tree_of-requires : goal.element_tree-tree_of-requires
element_tree-tree_of-requires t c =
    let v = c.in-Ok.ensures c.requires in
    omega (arith, inner_shorter c.args.frame.now.tag c.args.frame.now.payload.now c.in-Ok.value v.holds)

pub element_tree-returns-in-Ok : goal.element_tree-returns-in-Ok
element_tree-returns-in-Ok t c = λ payload. element_converted (element_of c.args.frame.now) c.in-Ok.value c.tree_of.result (c.in-Ok.ensures payload) c.tree_of.ensures

pub array_of-returns-in_err-frame : goal.array_of-returns-in_err-frame
array_of-returns-in_err-frame t c =
    let p = err_from_is_err_and c.from_residual.result c.from_residual.ensures.1 in
    let more : c.loop-rest.rest.now ≢ 0 ∷ [] = λ is. untrue c.is_end.result c.loop-rest-test.true (c.is_end.ensures.1 is) in
    rw (p.1, p.2) (no_frame c.args.elements.now c.loop-rest.rest.now c.in_err-frame.field-0.0 c.loop-rest.invariant.faults more c.in_err-frame.ensures)

pub array_of-element_tree-requires : goal.array_of-element_tree-requires
array_of-element_tree-requires t c =
    let e = element_of c.in_ok-frame.frame in
    let after = c.in_ok-frame.frame.rest.now in
    (omega (arith, frame_longer c.loop-rest.rest.now e after c.in_ok-frame.ensures, c.loop-rest.invariant.shorter), c.payload_by_itself.ensures c.loop-rest.rest.now e after c.in_ok-frame.ensures)

pub array_of-returns-in_err-value : goal.array_of-returns-in_err-value
array_of-returns-in_err-value t c =
    let p = err_from_is_err_and c.from_residual-in_err-value.result c.from_residual-in_err-value.ensures.1 in
    let e = element_of c.in_ok-frame.frame in
    let after = c.in_ok-frame.frame.rest.now in
    let payload = c.payload_by_itself.ensures c.loop-rest.rest.now e after c.in_ok-frame.ensures in
    rw (p.1, p.2) (faulty_element c.args.elements.now c.loop-rest.rest.now e after c.in_err-value.field-0.0 c.loop-rest.invariant.faults c.in_ok-frame.ensures (c.in_err-value.ensures payload))

pub array_of-loop-rest-preserved : goal.array_of-loop-rest-preserved
array_of-loop-rest-preserved t c =
    let e = element_of c.in_ok-frame.frame in
    let after = c.in_ok-frame.frame.rest.now in
    let v = c.in_ok-value.ensures (c.payload_by_itself.ensures c.loop-rest.rest.now e after c.in_ok-frame.ensures) in
    items_more c.args.elements.now c.loop-rest.rest.now c.loop-rest.items.items c.push.new.self.items e after c.in_ok-value.value v.0 c.loop-rest.invariant c.in_ok-frame.ensures v.1 v.2 v.3 c.in_ok-push.ensures.items

pub array_of-returns : goal.array_of-returns
array_of-returns t c = items_done c.args.elements.now c.loop-rest.rest.now c.loop-rest.items.items c.loop-rest.invariant (c.is_end.ensures.0 (search rules))

pub document_of-loop-rest-init : goal.document_of-loop-rest-init
document_of-loop-rest-init t c = record {
  read = rw (c.new-more.ensures.items, c.new-document.ensures) (members_start c.args.elements.now);
  kept = λ h. c.new-more.ensures.items;
}

pub document_of-returns-in_err-frame : goal.document_of-returns-in_err-frame
document_of-returns-in_err-frame t c =
    let p = err_from_is_err_and c.from_residual.result c.from_residual.ensures.1 in
    let more : c.loop-rest.rest.now ≢ 0 ∷ [] = λ is. untrue c.is_end.result c.loop-rest-test.true (c.is_end.ensures.1 is) in
    rw (p.1, p.2) (no_frame c.args.elements.now c.loop-rest.rest.now c.in_err-frame.field-0.0 c.loop-rest.invariant.read.faults more c.in_err-frame.ensures)

pub document_of-element_tree-requires : goal.document_of-element_tree-requires
document_of-element_tree-requires t c =
    let e = element_of c.in_ok-frame.frame in
    let after = c.in_ok-frame.frame.rest.now in
    (omega (arith, frame_longer c.loop-rest.rest.now e after c.in_ok-frame.ensures, c.loop-rest.invariant.read.shorter), c.payload_by_itself.ensures c.loop-rest.rest.now e after c.in_ok-frame.ensures)

pub document_of-returns-in_err-value : goal.document_of-returns-in_err-value
document_of-returns-in_err-value t c =
    let p = err_from_is_err_and c.from_residual-in_err-value.result c.from_residual-in_err-value.ensures.1 in
    let e = element_of c.in_ok-frame.frame in
    let after = c.in_ok-frame.frame.rest.now in
    let payload = c.payload_by_itself.ensures c.loop-rest.rest.now e after c.in_ok-frame.ensures in
    rw (p.1, p.2) (faulty_element c.args.elements.now c.loop-rest.rest.now e after c.in_err-value.field-0.0 c.loop-rest.invariant.read.faults c.in_ok-frame.ensures (c.in_err-value.ensures payload))

pub document_of-loop-rest-preserved : goal.document_of-loop-rest-preserved
document_of-loop-rest-preserved t c =
    let e = element_of c.in_ok-frame.frame in
    let after = c.in_ok-frame.frame.rest.now in
    let v = c.in_ok-value.ensures (c.payload_by_itself.ensures c.loop-rest.rest.now e after c.in_ok-frame.ensures) in
    let ps = put_all c.loop-rest.more.items (pairs_of c.loop-rest.document) in
    let tree = view c.in_ok-value.value in
    record {
      read = members_more c.args.elements.now c.loop-rest.rest.now (members_of ps) (members_of (put_all c.take_pair.new.more.items (pairs_of c.take_pair.new.document))) e after v.0 c.loop-rest.invariant.read c.in_ok-frame.ensures v.1 v.2
          (ap members_of c.in_ok-take_pair.ensures.taken ∙ members_of_put c.in_ok-frame.frame.key.now tree ps ∙ ap (λ u. put c.in_ok-frame.frame.key.now u (members_of ps)) v.3);
      kept = c.in_ok-take_pair.ensures.kept;
    }

pub document_of-take_pair-requires : goal.document_of-take_pair-requires
document_of-take_pair-requires t c = c.loop-rest.invariant.kept

pub document_of-returns : goal.document_of-returns
document_of-returns t c =
    let ps = put_all c.loop-rest.more.items (pairs_of c.loop-rest.document) in
    let done = members_done c.args.elements.now c.loop-rest.rest.now (members_of ps) c.loop-rest.invariant.read (c.is_end.ensures.0 (search rules)) in
    (done.0, done.1, ap members_of c.in_ok-extend.ensures.ok ∙ done.2)
