use Rattle.std.proofs.Common.{◌≡◌, Option, map, Ok, Err, sym, subst}
use Rattle.json.specs.Value.{value_view}
use Rattle.bson_base.specs.Answer.{◌>>=◌}
use Rattle.bson_raw.specs.Convert.{SpellsRawValue}
use Rattle.bson_raw.specs.Raw.{RawValue}
use Rattle.store_question.specs.Asked.{Asked, at}
use Rattle.store_question.specs.declared.question.Question.{Question}
use Rattle.store_question_read.proofs.OnwardLemmas.{names_fails, onward}
use Rattle.store_question_read.specs.Outcome.{Asks, AsksOf, Fails, Gives, Spells}
use Rattle.store_question_read.specs.Patterns.{asked_of}
use Rattle.store_question_read.specs.Query.{no_operand, some_or_fault, value}
use Rattle.store_question_read.proofs.conditions.found.Goals as goal

pub returns-in-Some : goal.returns-in-Some
returns-in-Some c =
    let q = c.in_ok-at-in-Some.field-0 in
    let k = c.args.key.now in
    let path = map (λ x. x.now) c.args.path.now in
    onward Spells Asks c.in_ok-value.value (Ok q) (value k (value_view c.args.tree.now)) (λ v. some_or_fault k (asked_of c.args.options.now v) >>= λ t. Ok (at path t)) c.in_ok-value.ensures
    (λ v s.
    let told = c.in_ok-asked.ensures v (subst (λ (x : RawValue). SpellsRawValue x v) (sym c.as_raw_bson_ref.ensures) s) in
    let some = subst (λ (x : Option Question). AsksOf x (asked_of c.args.options.now v)) c.in-Some.is told in
    subst (λ (o : Option Asked). Gives Asks (Ok q) (some_or_fault k o >>= λ t. Ok (at path t))) (sym some.1) (c.in_ok-at-in-Some.ensures some.0 some.2))

pub returns : goal.returns
returns c =
    let k = c.args.key.now in
    let path = map (λ x. x.now) c.args.path.now in
    onward Spells Asks c.in_ok-value.value (Err c.operand.result) (value k (value_view c.args.tree.now)) (λ v. some_or_fault k (asked_of c.args.options.now v) >>= λ t. Ok (at path t)) c.in_ok-value.ensures
    (λ v s.
    let told = c.in_ok-asked.ensures v (subst (λ (x : RawValue). SpellsRawValue x v) (sym c.as_raw_bson_ref.ensures) s) in
    let none = subst (λ (x : Option Question). AsksOf x (asked_of c.args.options.now v)) c.in-None.is told in
    subst (λ (o : Option Asked). Fails c.operand.result (some_or_fault k o >>= λ t. Ok (at path t))) (sym none) (names_fails _ c.operand.result (no_operand k) c.operand.ensures))
