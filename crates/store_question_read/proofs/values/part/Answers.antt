use Rattle.std.proofs.Common.{Ok, Err, SFits, w64, rules, sym, subst}
use Rattle.std.proofs.lemmas.Int.{to_z-of_z}
use Rattle.json.specs.Value.{value_view}
use Rattle.bson_order.specs.Wholes.{part_of}
use Rattle.bson_raw.specs.Convert.{SpellsRawValue}
use Rattle.bson_raw.specs.Raw.{RawValue}
use Rattle.store_question_read.proofs.OnwardLemmas.{failed, given, leaves_by, not_given, onward}
use Rattle.store_question_read.specs.Outcome.{Same, Spells}
use Rattle.store_question_read.specs.Query.{some_or_fault, value}
use Rattle.store_question_read.proofs.values.part.Goals as goal

pub returns-in_err-value : goal.returns-in_err-value
returns-in_err-value c =
    leaves_by Same c.from_residual.result c.in_err-value.field-0.0 _ c.from_residual.ensures.1
    (failed c.in_err-value.field-0.0 (value c.args.key.now (value_view c.args.tree.now)) (λ v. some_or_fault c.args.key.now (part_of v)) c.in_err-value.ensures)

pub returns-in-Some : goal.returns-in-Some
returns-in-Some c =
    let fits : SFits w64 c.in-Some.part = search rules in
    simp to_z-of_z
    (onward Spells Same c.in_ok-value.value (Ok c.in-Some.part) (value c.args.key.now (value_view c.args.tree.now)) (λ v. some_or_fault c.args.key.now (part_of v)) c.in_ok-value.ensures
    (λ v s. given c.args.key.now c.in-Some.part (part_of v) (c.in-Some.ensures v (subst (λ (x : RawValue). SpellsRawValue x v) (sym c.as_raw_bson_ref.ensures) s))))

pub returns : goal.returns
returns c =
    onward Spells Same c.in_ok-value.value (Err c.operand.result) (value c.args.key.now (value_view c.args.tree.now)) (λ v. some_or_fault c.args.key.now (part_of v)) c.in_ok-value.ensures
    (λ v s. not_given c.args.key.now c.operand.result (part_of v) (c.in-None.ensures v (subst (λ (x : RawValue). SpellsRawValue x v) (sym c.as_raw_bson_ref.ensures) s)) c.operand.ensures)
