use Rattle.std.proofs.Common.{inl}
use Rattle.bson_bytes.specs.Spells.{settle}
use Rattle.store_documents.proofs.ByteLemmas.{converted, converted_read}
use Rattle.store_documents.proofs.StoredLemmas.{meant}
use Rattle.store_documents.proofs.read.document_of_bytes.Goals as goal
use Rattle.bson_bytes.proofs.MeaningLemmas.{are_bytes}

pub returns-in-Err-clause-answer : goal.returns-in-Err-clause-answer
returns-in-Err-clause-answer c = inl (c.in-Err.error, c.in-Err.ensures, c.gate_refusal.ensures)

pub document_of-requires : goal.document_of-requires
document_of-requires c = (settle c.in_default.ensures.2.0, meant c.args.bytes.now c.in_default.ensures)

pub returns-clause-answer : goal.returns-clause-answer
returns-clause-answer c = converted c.args.bytes.now c.document_of.result c.in_default.ensures c.document_of.ensures

pub returns-clause-read : goal.returns-clause-read
returns-clause-read c = converted_read c.args.bytes.now c.document_of.result (are_bytes c.args.bytes.now c.type_inv.bytes) c.in_default.ensures c.document_of.ensures
