use Rattle.std.proofs.Common.{Err, ap, ◌∙◌}
use Rattle.bson_frame.specs.View.{element_of}
use Rattle.bson_model.specs.View.{members_of, pairs_of}
use Rattle.store_model.specs.Table.{only_id}
use Rattle.store_documents.proofs.StoredLemmas.{alone_itself, alone_key, alone_means, alone_refused, alone_short}
use Rattle.store_documents.proofs.stored.key_of_element.Goals as goal

pub alone-requires : goal.alone-requires
alone-requires c = alone_short c.requires.0 (element_of c.args.id.now) c.requires.1 c.requires.2

pub returns-then-means_itself : goal.returns-then-means_itself
returns-then-means_itself c d kept w = alone_itself d (element_of c.args.id.now) kept w c.in-Ok.bytes.items c.in-Ok.ensures (c.means_itself.ensures c.if-means_itself.true)

pub document_of-requires : goal.document_of-requires
document_of-requires c =
    (only_id c.requires.2.0, alone_means c.requires.0 (element_of c.args.id.now) c.requires.1 c.requires.2 c.as_slice.result.now (c.as_slice.ensures.value ∙ c.in-Ok.ensures))

pub returns-in-Ok-meaning_key : goal.returns-in-Ok-meaning_key
returns-in-Ok-meaning_key c d kept w =
    c.in-Ok-meaning_key.ensures.bytes
    ∙ alone_key d (element_of c.args.id.now) kept w c.as_slice.result.now (members_of (pairs_of c.in_ok-document.document)) (c.as_slice.ensures.value ∙ c.in-Ok.ensures) c.in_ok-document.ensures

pub returns : goal.returns
returns c d kept w =
    alone_refused d (element_of c.args.id.now) kept w c.as_slice.result.now (members_of (pairs_of c.in_ok-document.document)) c.in-Err.error c.key_refusal.result (c.as_slice.ensures.value ∙ c.in-Ok.ensures)
    c.in_ok-document.ensures c.key_refusal.ensures (λ e. c.in-Err.ensures.not_plain.0 (ap Err e)) (λ e. (c.in-Err.ensures.too_long.0 (ap Err e)).1)
