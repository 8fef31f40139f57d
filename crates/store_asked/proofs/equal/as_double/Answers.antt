use Rattle.std.proofs.Common.{ap, ◌∙◌}
use Rattle.std.proofs.lemmas.Int.{to_z-of_z}
use Rattle.std.specs.Int.{w64}
use Rattle.bson_order.specs.Line.{whole_place}
use Rattle.store_question.specs.Filters.{path_of}
use Rattle.store_asked.proofs.ArmLemmas.{double_told}
use Rattle.store_asked.proofs.equal.as_double.Goals as goal

pub returns-in-Some : goal.returns-in-Some
returns-in-Some c = double_told (path_of c.args.path.now) c.args.whole c.in-Some.double c.same.result c.same.ensures.sound (c.in-Some.ensures ∙ ap whole_place (to_z-of_z w64 c.args.whole c.ranges.whole)) c.same.ensures.told
