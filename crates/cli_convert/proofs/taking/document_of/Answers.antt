use Rattle.std.proofs.Common.{List, ℕ, Ok, subst}
use Rattle.bson_json_read.specs.Reading.{ReadsText}
use Rattle.cli_convert.proofs.TakeLemmas.{text_read}
use Rattle.cli_convert.proofs.taking.document_of.Goals as goal

pub returns-in-Ok-document_of_text : goal.returns-in-Ok-document_of_text
returns-in-Ok-document_of_text c =
    let d = c.in-Ok-document_of_text.document in
    let read = subst (λ (t : List ℕ). ReadsText t (Ok d)) c.in-Ok.ensures.cases.0 c.in-Ok-document_of_text.ensures in
    text_read c.args.line.now d c.requires c.in-Ok.ensures.cases.1 read
