use Rattle.std.proofs.Common.{string_bytes}
use Rattle.bson_json.proofs.TextLemmas.{at_unseen}
use Rattle.store_documents.proofs.PrintedLemmas.{enveloped, has_text, told}
use Rattle.store_documents.proofs.TreeLemmas.{spelled}
use Rattle.store_documents.proofs.text.text_of_body.Goals as goal

pub returns-in-Ok-clause-text : goal.returns-in-Ok-clause-text
returns-in-Ok-clause-text c = λ d kept is. told d (string_bytes c.write_raw.new.text) (c.in-Ok.ensures.text d (spelled c.args.body.now d kept is))

pub returns-in-Err-Unseen-clause-text : goal.returns-in-Err-Unseen-clause-text
returns-in-Err-Unseen-clause-text c = λ d kept is.
    let body = c.args.body.now in
    c.fault_of.ensures.why d kept is
    (λ tree. at_unseen c.in-Err-Unseen.field-0 c.in-Err-Unseen.field-0-is c.in-Err-Unseen.ensures.seen (enveloped d body kept is) d (spelled body d kept is) (has_text d body kept is tree))
