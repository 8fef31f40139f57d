use Rattle.std.proofs.Common.{◌<◌, ◌≤◌, length, arith, sym, subst}
use Rattle.std.proofs.lemmas.Result.{err_from_is_err_and}
use Rattle.bson_base.specs.Value.{member, no_members}
use Rattle.bson_model.specs.View.{content, view}
use Rattle.store_model.specs.State.{id_key}
use Rattle.store_pipeline.specs.Bodies.{AreLent}
use Rattle.store_pipeline.proofs.FieldLemmas.{all_fields, field_on, fields_begin, no_field}
use Rattle.store_pipeline.proofs.grouping.document_of.Goals as goal
use Rattle.store_pipeline.specs.Grouped.{key_of}

pub loop-field-init : goal.loop-field-init
loop-field-init c = λ ds sound are. fields_begin c.args.fields.now ds (key_of c.args.group.now) (content c.in_ok-document.document) c.in_ok-document.ensures sound

pub returns-in_err-value : goal.returns-in_err-value
returns-in_err-value c =
    let p = err_from_is_err_and c.from_residual-in_err-value.result c.from_residual-in_err-value.ensures.1 in
    let low : c.loop-field.field-index < length c.args.fields.now = omega (arith, c.loop-field-test.true, c.loop-field.auto.field-index-end) in
    λ ds sound are. rw (p.1, p.2)
    (no_field c.args.fields.now ds (member id_key (key_of c.args.group.now) no_members) c.loop-field.field-index c.field-item.result (content c.loop-field.document) low c.field-item.is (c.loop-field.invariant ds sound are).0 c.in_err-value.field-0.0
    (c.in_err-value.ensures ds (subst (λ l. AreLent l ds) (sym c.as_slice.ensures.value) are)))

pub loop-field-preserved : goal.loop-field-preserved
loop-field-preserved c =
    let low : c.loop-field.field-index < length c.args.fields.now = omega (arith, c.loop-field-test.true, c.loop-field.auto.field-index-end) in
    λ ds sound are.
    let before = c.loop-field.invariant ds sound are in
    field_on c.args.fields.now ds (member id_key (key_of c.args.group.now) no_members) c.loop-field.field-index c.field-item.result (content c.loop-field.document) low c.field-item.is before.0 (view c.in_ok-value.value) c.as_str.result.now (content c.put_value.new.document)
    (c.in_ok-value.ensures ds (subst (λ l. AreLent l ds) (sym c.as_slice.ensures.value) are)) c.as_str.ensures.value c.in_ok-put_value.ensures before.1

pub returns : goal.returns
returns c =
    let end : length c.args.fields.now ≤ c.loop-field.field-index = omega (arith, c.loop-field-test.false, c.loop-field.auto.field-index-end) in
    λ ds sound are.
    let before = c.loop-field.invariant ds sound are in
    (all_fields c.args.fields.now ds (member id_key (key_of c.args.group.now) no_members) (content c.loop-field.document) c.loop-field.field-index end before.0, before.1)
