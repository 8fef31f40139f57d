use Rattle.std.proofs.Common.{◌≡◌, None, Some, ap, sym, ◌∙◌}
use Rattle.bson_base.specs.Value.{double, scalar}
use Rattle.bson_order.specs.Line.{double_place}
use Rattle.bson_order.specs.Wholes.{whole_at, whole_of}
use Rattle.store_question.specs.Filters.{filter_of, path_of}
use Rattle.store_question.specs.declared.filter.Filter.{Filter}
use Rattle.store_asked.specs.Front.{Reaches}
use Rattle.store_asked.proofs.AnswerFrontLemmas.{weaker}
use Rattle.store_asked.proofs.ArmLemmas.{whole_found}
use Rattle.store_asked.proofs.equal.doubles.Goals as goal

pub returns-in-Some : goal.returns-in-Some
returns-in-Some c =
    let path = path_of c.args.path.now in
    let v = scalar (double c.args.double.0) in
    let place = double_place c.args.double.0 in
    let is : whole_at place ≡ Some c.in-Some.whole = sym (c.whole_at.ensures ∙ ap whole_at c.double.ensures.place) ∙ c.in-Some.is in
    whole_found path v place c.in-Some.whole c.wholes.result is is c.wholes.ensures.reached

pub returns-in-None : goal.returns-in-None
returns-in-None c =
    let path = path_of c.args.path.now in
    let v = scalar (double c.args.double.0) in
    weaker (λ (f : Filter). whole_of v ≡ None → Reaches path v (filter_of f)) (λ (f : Filter). Reaches path v (filter_of f)) c.fractions.result
    (λ f h. h (sym (c.whole_at.ensures ∙ ap whole_at c.double.ensures.place) ∙ c.in-None.is)) c.fractions.ensures
