use Rattle.std.proofs.Common.{◌≡◌, length}
use Rattle.bson_message.specs.Checksum.{left_by}
use Rattle.bson_message.proofs.checksum.crc32c.Given as goal

abbrev pub invariant-loop-byte : goal.invariant-loop-byte
invariant-loop-byte l = record {
  left : left_by l.left l.rest ≡ left_by 4294967295 l.bytes;
}

abbrev pub decreases-loop-byte : goal.decreases-loop-byte
decreases-loop-byte l = length l.rest
