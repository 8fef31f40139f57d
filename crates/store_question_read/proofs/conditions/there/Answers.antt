use Rattle.std.proofs.Common.{map, Ok, Err, sym, subst}
use Rattle.json.specs.Value.{value_view}
use Rattle.bson_base.specs.Answer.{◌>>=◌}
use Rattle.bson_raw.specs.Convert.{SpellsRawValue}
use Rattle.bson_raw.specs.Raw.{RawValue}
use Rattle.store_question_read.proofs.OnwardLemmas.{names_fails, onward}
use Rattle.store_question_read.specs.Outcome.{Asks, Fails, Gives, Spells}
use Rattle.store_question_read.specs.Query.{no_operand, some_or_fault, there, value}
use Rattle.store_question_read.specs.Values.{truth_of}
use Rattle.store_question_read.proofs.conditions.there.Goals as goal

pub returns-in-Some : goal.returns-in-Some
returns-in-Some c =
    let q = c.in_ok-there-in-Some.field-0 in
    let k = c.args.key.now in
    onward Spells Asks c.in_ok-value.value (Ok q) (value k (value_view c.args.tree.now)) (λ v. some_or_fault k (truth_of v) >>= λ b. Ok (there (map (λ x. x.now) c.args.path.now) b)) c.in_ok-value.ensures
    (λ v s. subst (λ o. Gives Asks (Ok q) (some_or_fault k o >>= λ b. Ok (there (map (λ x. x.now) c.args.path.now) b))) (c.in-Some.ensures v (subst (λ (x : RawValue). SpellsRawValue x v) (sym c.as_raw_bson_ref.ensures) s)) c.in_ok-there-in-Some.ensures)

pub returns : goal.returns
returns c =
    let k = c.args.key.now in
    onward Spells Asks c.in_ok-value.value (Err c.operand.result) (value k (value_view c.args.tree.now)) (λ v. some_or_fault k (truth_of v) >>= λ b. Ok (there (map (λ x. x.now) c.args.path.now) b)) c.in_ok-value.ensures
    (λ v s. subst (λ o. Fails c.operand.result (some_or_fault k o >>= λ b. Ok (there (map (λ x. x.now) c.args.path.now) b))) (c.in-None.ensures v (subst (λ (x : RawValue). SpellsRawValue x v) (sym c.as_raw_bson_ref.ensures) s)) (names_fails _ c.operand.result (no_operand k) c.operand.ensures))
