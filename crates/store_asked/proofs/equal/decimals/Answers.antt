use Rattle.std.proofs.Common.{◌≡◌, Some, ap, sym, ◌∙◌}
use Rattle.bson_base.specs.Scalars.{decimal_bytes}
use Rattle.bson_base.specs.Value.{decimal, scalar}
use Rattle.bson_order.specs.Line.{decimal_place}
use Rattle.bson_order.specs.Wholes.{whole_at}
use Rattle.store_question.specs.Filters.{filter_of, path_of}
use Rattle.store_question.specs.Asked.{lies}
use Rattle.store_question.specs.declared.question.Comparison.TheVariants.{Equal}
use Rattle.store_asked.proofs.AnswerFrontLemmas.{all_meet}
use Rattle.store_asked.proofs.ArmLemmas.{whole_found}
use Rattle.store_asked.proofs.equal.decimals.Goals as goal

pub returns-in-Some : goal.returns-in-Some
returns-in-Some c =
    let path = path_of c.args.path.now in
    let v = scalar (decimal (decimal_bytes c.args.number.now)) in
    let place = decimal_place (decimal_bytes c.args.number.now) in
    let is : whole_at place ≡ Some c.in-Some.whole = sym (c.whole_at.ensures ∙ ap whole_at c.decimal.ensures.place) ∙ c.in-Some.is in
    whole_found path v place c.in-Some.whole c.wholes.result is is c.wholes.ensures.reached

pub returns-in-None : goal.returns-in-None
returns-in-None c = all_meet (path_of c.args.path.now) (lies Equal (scalar (decimal (decimal_bytes c.args.number.now)))) (filter_of c.everything.result) c.everything.ensures
