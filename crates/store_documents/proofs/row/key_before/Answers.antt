use Rattle.std.proofs.Common.{Err, sym, ap, ◌∙◌}
use Rattle.bson_model.specs.View.{view, pairs_of, members_of}
use Rattle.bson_model.proofs.EqualLemmas.{look_up-members_of}
use Rattle.store_model.specs.State.{id_key}
use Rattle.store_documents.proofs.RowLemmas.{kept_means, no_id_there, its_key, its_had_key, not_too_long}
use Rattle.store_documents.proofs.row.key_before.Goals as goal

pub document_of-requires : goal.document_of-requires
document_of-requires c = (c.requires.0, kept_means c.requires.0 c.args.body.now c.requires.1 c.requires.2)

pub unreachable-requires : goal.unreachable-requires
unreachable-requires c =
    let ps = pairs_of c.in-Ok.document in
    no_id_there c.requires.0 (members_of ps) c.args.body.now c.requires.1 c.requires.2 c.in-Ok.ensures (look_up-members_of id_key ps ∙ sym c.in_default-get.ensures)

pub returns-in-Ok-meaning_key_before_of_element : goal.returns-in-Ok-meaning_key_before_of_element
returns-in-Ok-meaning_key_before_of_element c d kept is =
    let ps = pairs_of c.in-Ok.document in
    its_key d (members_of ps) c.args.body.now (view c.in-Some.id.now) c.in-Ok-meaning_key_before_of_element.key.items kept is c.in-Ok.ensures (look_up-members_of id_key ps ∙ sym c.in-Some.ensures) c.in-Ok-meaning_key_before_of_element.ensures.key.bytes

pub unreachable-requires-in-Err-NotPlain : goal.unreachable-requires-in-Err-NotPlain
unreachable-requires-in-Err-NotPlain c =
    let ps = pairs_of c.in-Ok.document in
    let had = its_had_key c.requires.0 (members_of ps) c.args.body.now (view c.in-Some.id.now) c.requires.1 c.requires.2 c.in-Ok.ensures (look_up-members_of id_key ps ∙ sym c.in-Some.ensures) in
    (c.meaning_key_before_of_element.ensures.key.not_plain.0 (c.in-Err-NotPlain.is ∙ ap Err c.in-Err-NotPlain.field-0-is)) had.0

pub unreachable-requires-in-Err-TooLong : goal.unreachable-requires-in-Err-TooLong
unreachable-requires-in-Err-TooLong c =
    let ps = pairs_of c.in-Ok.document in
    let had = its_had_key c.requires.0 (members_of ps) c.args.body.now (view c.in-Some.id.now) c.requires.1 c.requires.2 c.in-Ok.ensures (look_up-members_of id_key ps ∙ sym c.in-Some.ensures) in
    not_too_long _ had.1 (c.meaning_key_before_of_element.ensures.key.too_long.0 (c.in-Err-TooLong.is ∙ ap Err c.in-Err-TooLong.field-0-is)).1
