use Rattle.std.proofs.Common.{map}
use Rattle.std.specs.Vec.Iter.{into_iter_items}
use Rattle.bson_raw.specs.Buffer.{buffer_bytes}
use Rattle.bson_raw.specs.Pairs.{raw_pair}
use Rattle.bson_raw.proofs.BuildLemmas.{OnTheWay}
use Rattle.bson_raw.proofs.document_buf.RawDocumentBuf.from_iter.Given as goal

abbrev pub invariant-loop-key : goal.invariant-loop-key
invariant-loop-key l = OnTheWay (map raw_pair l.fn.pairs.items) (map raw_pair (into_iter_items l.key-iterator)) (buffer_bytes l.document)
