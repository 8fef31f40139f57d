use Rattle.std.proofs.Common.{◌<◌, ◌≤◌, length, arith, sym, subst}
use Rattle.bson_model.specs.View.{content}
use Rattle.store_pipeline.proofs.EachLemmas.{all_at}
use Rattle.store_pipeline.proofs.FieldLemmas.{all_groups, group_on}
use Rattle.store_pipeline.proofs.grouping.documents_of.Goals as goal
use Rattle.store_pipeline.specs.Grouped.{IsGroup, contents, key_of}
use Rattle.store_pipeline.specs.Groups.{of_key}

pub loop-group-preserved : goal.loop-group-preserved
loop-group-preserved c =
    let low : c.loop-group.group-index < length c.args.groups.now = omega (arith, c.loop-group-test.true, c.loop-group.auto.group-index-end) in
    let key = c.args.grouping.now.key in
    λ ds all.
    let before = c.loop-group.invariant ds all in
    let one = subst (IsGroup key ds) (sym c.group-item.is) (all_at (IsGroup key ds) c.loop-group.group-index c.args.groups.now c.group-item.result low all) in
    group_on c.args.grouping.now ds c.args.groups.now c.loop-group.group-index c.group-item.result (contents c.loop-group.documents) low c.group-item.is before.0 c.as_slice.result.now (content c.in_ok-document.document) (contents c.add_document.new.documents)
    c.as_slice.ensures.value (c.in_ok-document.ensures (of_key key (key_of c.group-item.result) ds) one.0 one.1) c.in_ok-add_document.ensures before.1

pub returns : goal.returns
returns c =
    let end : length c.args.groups.now ≤ c.loop-group.group-index = omega (arith, c.loop-group-test.false, c.loop-group.auto.group-index-end) in
    λ ds all.
    let before = c.loop-group.invariant ds all in
    (all_groups c.args.grouping.now ds c.args.groups.now c.loop-group.group-index (contents c.loop-group.documents) end before.0, before.1)
