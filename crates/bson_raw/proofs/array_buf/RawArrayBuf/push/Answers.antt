use Rattle.std.proofs.Common.{arith}
use Rattle.bson_raw.specs.Buffer.{buffer_bytes}
use Rattle.bson_raw.specs.Raw.{own_value}
use Rattle.bson_raw.proofs.AppendLemmas.{grown}
use Rattle.bson_raw.proofs.array_buf.RawArrayBuf.push.Goals as goal

pub invariant_of-self : goal.invariant_of-self
invariant_of-self c =
    let old = c.args.self.now.document in
    let new = c.append.new.self in
    record { few = omega (arith, c.args.self.now.few, old.bytes.ok.0, new.bytes.ok.0, grown (buffer_bytes old) (buffer_bytes new) c.deref.result.now (own_value c.args.value) old.envelope (c.in-Ok.ensures).bytes) }
