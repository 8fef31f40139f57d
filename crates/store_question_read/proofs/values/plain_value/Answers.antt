use Rattle.std.proofs.Common.{Ok, Err, ap, sym, subst, ◌∙◌}
use Rattle.std.specs.Prelude.{not}
use Rattle.json.specs.Value.{value_view}
use Rattle.bson_raw.specs.Convert.{SpellsRawValue}
use Rattle.bson_raw.specs.Raw.{RawValue}
use Rattle.store_question_read.proofs.OnwardLemmas.{failed, kept_if, leaves_by, onward, refused_if}
use Rattle.store_question_read.specs.Outcome.{Spells}
use Rattle.store_question_read.specs.Query.{only_if, value}
use Rattle.store_question_read.specs.Values.{is_expression}
use Rattle.store_question_read.proofs.values.plain_value.Goals as goal

pub returns-in_err-value : goal.returns-in_err-value
returns-in_err-value c =
    leaves_by Spells c.from_residual.result c.in_err-value.field-0.0 _ c.from_residual.ensures.1
    (failed c.in_err-value.field-0.0 (value c.args.key.now (value_view c.args.tree.now)) (λ v. only_if (not (is_expression v)) c.args.key.now v) c.in_err-value.ensures)

pub returns-then-is_expression : goal.returns-then-is_expression
returns-then-is_expression c =
    onward Spells Spells c.in_ok-value.value (Err c.operand.result) _ (λ v. only_if (not (is_expression v)) c.args.key.now v) c.in_ok-value.ensures
    (λ v s. refused_if c.args.key.now c.operand.result v (not (is_expression v)) (ap not (sym (c.is_expression.ensures v (subst (λ (x : RawValue). SpellsRawValue x v) (sym c.as_raw_bson_ref.ensures) s)) ∙ c.if-is_expression.true)) c.operand.ensures)

pub returns-else-is_expression : goal.returns-else-is_expression
returns-else-is_expression c =
    onward Spells Spells c.in_ok-value.value (Ok c.in_ok-value.value) _ (λ v. only_if (not (is_expression v)) c.args.key.now v) c.in_ok-value.ensures
    (λ v s. kept_if c.args.key.now c.in_ok-value.value v (not (is_expression v)) (ap not (sym (c.is_expression.ensures v (subst (λ (x : RawValue). SpellsRawValue x v) (sym c.as_raw_bson_ref.ensures) s)) ∙ c.if-is_expression.false)) s)
