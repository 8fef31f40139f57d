use Rattle.std.proofs.Common.{◌≡◌, length, sym, ap, ◌∙◌, rules}
use Rattle.bson_base.specs.Uuids.{uuid_form, uuid_subtype}
use Rattle.bson_base.proofs.UuidLemmas.{uuid_form-twice}
use Rattle.bson_base.proofs.binary.Binary.to_uuid_with_representation.Goals as goal

pub returns-in-Ok : goal.returns-in-Ok
returns-in-Ok c =
    let r = c.args.representation in
    let read = c.in-Ok.bytes in
    let same : c.args.self.now.subtype ≡ uuid_subtype r = search rules in
    let here : read ≡ c.args.self.now.bytes.items = search rules in
    let long : length read ≡ 16 = search rules in
    (same, sym here ∙ sym (uuid_form-twice r read long) ∙ ap (uuid_form r) (sym (c.from_bytes.ensures ∙ c.reordered.ensures)))
