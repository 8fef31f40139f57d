use Rattle.std.proofs.Common.{rules}
use Rattle.bson_message.proofs.PartLemmas.{no_list, no_list_name}
use Rattle.bson_message.proofs.section.sequence_in.Goals as goal

pub returns-in_err-name : goal.returns-in_err-name
returns-in_err-name c = rw c.from_residual.ensures (no_list_name c.args.bytes.now _ c.split_at.ensures.back c.in_err-name.ensures)

pub returns-then-not-are_documents : goal.returns-then-not-are_documents
returns-then-not-are_documents c = no_list c.args.bytes.now _ c.in_ok-name.name.now c.in_ok-name.documents.now c.split_at.ensures.back c.in_ok-name.ensures.0 c.in_ok-name.ensures.1 (search (rules, c.are_documents.ensures, c.if-not-are_documents.ensures))
