use Rattle.bson_raw.specs.Raw.{ref_value}
use Rattle.bson_raw.proofs.AppendLemmas.{envelope_kept}
use Rattle.bson_raw.proofs.document_buf.RawDocumentBuf.append_ref.Goals as goal

pub invariant_of-self : goal.invariant_of-self
invariant_of-self c = record { envelope = envelope_kept c.args.self.now.bytes.items c.append_to.new.bytes.items c.args.key.now (ref_value c.args.value) c.append_to.result c.args.self.now.envelope c.append_to.ensures.bytes }
