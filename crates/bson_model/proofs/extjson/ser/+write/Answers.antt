use Rattle.std.proofs.Common.{sym, ◌∙◌, [], arith, rules}
use Rattle.std.proofs.lemmas.List.{nil_from_length}
use Rattle.bson_model.proofs.JsonWriteLemmas.{items_step, items_end}
use Rattle.bson_model.proofs.SizeLemmas.{deeper, last_rest}
use Rattle.bson_model.proofs.extjson.ser.+write.Goals as goal

pub write_items-loop-item-preserved : goal.write_items-loop-item-preserved
write_items-loop-item-preserved t c =
    items_step c.args.mode _ _ _ _ _ c.in-Some.item c.in_ok-write_value.field-0 c.loop-item.invariant c.in-Some.ensures.steps.0 c.in_ok-write_value.ensures c.in_ok-push.ensures.items

pub write_items-returns : goal.write_items-returns
write_items-returns t c =
    let left = c.loop-item.item-iterator.rest in
    items_end c.args.mode _ _ _ c.loop-item.invariant (nil_from_length left.items (sym left.ok.0 ∙ c.in-None.ensures.steps.0))

pub write_members-loop-key-init : goal.write_members-loop-key-init
write_members-loop-key-init t c = record { written = search rules; rest = ([], search rules) }

pub write_members-write_value-requires : goal.write_members-write_value-requires
write_members-write_value-requires t c =
    let d = c.decreases in
    let s = deeper c.args.document _ _ _ c.in-Some.value c.loop-key.invariant.rest c.in-Some.ensures.steps in
    (omega (arith, d, s), tt)

pub write_members-loop-key-preserved : goal.write_members-loop-key-preserved
write_members-loop-key-preserved t c = record {
  written = search rules;
  rest = last_rest c.args.document _ _ _ c.loop-key.invariant.rest c.in-Some.ensures.steps;
}
