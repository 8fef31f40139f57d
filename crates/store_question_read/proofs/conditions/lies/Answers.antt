use Rattle.std.proofs.Common.{map, Ok, subst}
use Rattle.json.specs.Value.{value_view}
use Rattle.store_question.specs.Asked.{at, lies}
use Rattle.store_question_read.proofs.OnwardLemmas.{onward}
use Rattle.store_question_read.specs.Outcome.{Asks, Gives, Spells}
use Rattle.store_question_read.specs.Query.{compared_by, plain_value}
use Rattle.store_question_read.proofs.conditions.lies.Goals as goal

pub returns-in_ok-lies-in-None : goal.returns-in_ok-lies-in-None
returns-in_ok-lies-in-None c =
    let q = c.in_ok-lies-in-None.field-0 in
    subst (λ o. Gives Asks (Ok q) (compared_by (map (λ x. x.now) c.args.path.now) c.args.key.now c.args.comparison (value_view c.args.tree.now) o)) c.in-None.ensures
    (onward Spells Asks c.in_ok-value-in-None.value (Ok q) (plain_value c.args.key.now (value_view c.args.tree.now)) (λ v. Ok (at (map (λ x. x.now) c.args.path.now) (lies c.args.comparison v))) c.in_ok-value-in-None.ensures c.in_ok-lies-in-None.ensures)
