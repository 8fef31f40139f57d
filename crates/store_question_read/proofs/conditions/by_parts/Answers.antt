use Rattle.std.proofs.Common.{◌≡◌, ℤ, map, Ok, Err, SFits, w64, rules, subst}
use Rattle.std.proofs.lemmas.Int.{to_z-of_z}
use Rattle.json.specs.Value.{value_view}
use Rattle.bson_base.specs.Answer.{◌>>=◌}
use Rattle.store_question.specs.Asked.{at, leaves}
use Rattle.store_question_read.proofs.OnwardLemmas.{failed, leaves_by, onward}
use Rattle.store_question_read.specs.Outcome.{Asks, Same}
use Rattle.store_question_read.specs.Query.{divisor, part}
use Rattle.store_question_read.proofs.conditions.by_parts.Goals as goal

pub returns-in_err-rest : goal.returns-in_err-rest
returns-in_err-rest c =
    let error = c.in_err-rest.field-0.0 in
    let k = c.args.key.now in
    let second = part k (value_view c.args.rest.now) in
    leaves_by Asks c.from_residual-in_err-rest.result error _ c.from_residual-in_err-rest.ensures.1
    (onward Same Asks c.in_ok-divisor.divisor (Err error) (divisor k (value_view c.args.divisor.now)) (λ d. second >>= λ r. Ok (at (map (λ x. x.now) c.args.path.now) (leaves d r))) c.in_ok-divisor.ensures
    (λ d e. failed error second (λ r. Ok (at (map (λ x. x.now) c.args.path.now) (leaves d r))) c.in_err-rest.ensures))

pub returns : goal.returns
returns c =
    let k = c.args.key.now in
    let q = c.in_ok-leaves.field-0 in
    let second = part k (value_view c.args.rest.now) in
    let first : SFits w64 c.in_ok-divisor.divisor = search rules in
    let other : SFits w64 c.in_ok-rest.rest = search rules in
    let told = simp to_z-of_z at c.in_ok-leaves.ensures in
    onward Same Asks c.in_ok-divisor.divisor (Ok q) (divisor k (value_view c.args.divisor.now)) (λ d. second >>= λ r. Ok (at (map (λ x. x.now) c.args.path.now) (leaves d r))) c.in_ok-divisor.ensures
    (λ d e. onward Same Asks c.in_ok-rest.rest (Ok q) second (λ r. Ok (at (map (λ x. x.now) c.args.path.now) (leaves d r))) c.in_ok-rest.ensures
    (λ r f. subst (λ (y : ℤ). Asks q (at (map (λ x. x.now) c.args.path.now) (leaves y r))) e (subst (λ (z : ℤ). Asks q (at (map (λ x. x.now) c.args.path.now) (leaves c.in_ok-divisor.divisor z))) f told)))
