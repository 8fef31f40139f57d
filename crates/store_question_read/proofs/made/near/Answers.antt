use Rattle.std.proofs.Common.{refl}
use Rattle.std.specs.Prelude.{option_map}
use Rattle.bson_base.specs.Scalars.{decimal_bytes}
use Rattle.bson_base.specs.Value.{double, scalar}
use Rattle.bson_base.specs.declared.spec.ElementType.TheVariants.{Double}
use Rattle.store_question.specs.Asked.{is_of, lies, no}
use Rattle.store_question_read.specs.Query.{both, lies_near, others_lie}
use Rattle.store_question_read.proofs.made.near.Goals as goal

pub returns : goal.returns
returns c =
    let comparison = c.args.comparison in
    let n = c.args.double.0 in
    let exact = option_map decimal_bytes c.args.decimal in
    let nearest = lies comparison (scalar (double n)) in
    let others = others_lie comparison n exact in
    let doubles = c.in_ok-doubles.ensures (is_of Double) nearest c.of.ensures (c.compared-nearest.ensures (scalar (double n)) refl) in
    let rest = c.in_ok-rest.ensures (no (is_of Double)) others (c.in_ok-no_double.ensures (is_of Double) c.of-2.ensures) c.others.ensures in
    c.at.ensures (lies_near comparison n exact) (c.in_ok-question.ensures (both (is_of Double) nearest) (both (no (is_of Double)) others) doubles rest)
