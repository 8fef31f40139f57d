use Rattle.std.proofs.Common.{◌≡◌, None, sym, ◌∙◌}
use Rattle.bson_base.specs.Value.{double, scalar}
use Rattle.bson_order.specs.Wholes.{whole_of}
use Rattle.store_question.specs.Filters.{filter_of, path_of}
use Rattle.store_question.specs.declared.filter.Filter.{Filter}
use Rattle.store_question.specs.Asked.{lies}
use Rattle.store_question.specs.declared.question.Comparison.TheVariants.{Equal}
use Rattle.store_asked.specs.Front.{Reaches, either}
use Rattle.store_asked.proofs.AnswerFrontLemmas.{all_meet, weaker}
use Rattle.store_asked.proofs.ArmLemmas.{fraction_reached}
use Rattle.store_asked.proofs.equal.fractions.Goals as goal

pub returns-then-is_nan : goal.returns-then-is_nan
returns-then-is_nan c = λ none. all_meet (path_of c.args.path.now) (lies Equal (scalar (double c.args.double.0))) (filter_of c.everything.result) c.everything.ensures

pub returns-in-Ok : goal.returns-in-Ok
returns-in-Ok c =
    let path = path_of c.args.path.now in
    let d = c.args.double in
    let nearest = filter_of c.in_ok-nearest.nearest in
    let decimals = filter_of c.in-Ok.decimals in
    weaker (λ (f : Filter). filter_of f ≡ either nearest decimals) (λ (f : Filter). whole_of (scalar (double d.0)) ≡ None → Reaches path (scalar (double d.0)) (filter_of f)) c.either.result
    (λ f is. fraction_reached path d nearest decimals (filter_of f) c.in_ok-nearest.ensures.sound (sym c.is_nan.ensures ∙ c.if-is_nan.false) c.in_ok-nearest.ensures.told c.in-Ok.ensures is) c.either.ensures
