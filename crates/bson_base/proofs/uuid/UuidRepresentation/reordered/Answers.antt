use Rattle.std.proofs.Common.{◌≡◌, length, sym, ap, ◌∙◌, arith}
use Rattle.bson_base.specs.Uuids.{uuid_form}
use Rattle.bson_base.proofs.UuidLemmas.{halves}
use Rattle.bson_base.proofs.uuid.UuidRepresentation.reordered.Goals as goal

pub returns-in-JavaLegacy : goal.returns-in-JavaLegacy
returns-in-JavaLegacy c =
    let long : length c.args.bytes ≡ 16 = omega arith in
    halves c.args.bytes c.reverse-in-JavaLegacy.new.self c.reverse-in-JavaLegacy-2.new.self long c.reverse-in-JavaLegacy.ensures.after c.reverse-in-JavaLegacy-2.ensures.after
    ∙ ap (λ r. uuid_form r c.args.bytes) (sym c.in-JavaLegacy.is)
