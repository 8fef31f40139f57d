use Rattle.std.proofs.Common.{◌≡◌, map, take}
use Rattle.std.specs.Int.{w8, cast_unsigned}
use Rattle.bson_base.proofs.binary.vector.signed_bytes.Given as goal

abbrev pub invariant-loop-byte : goal.invariant-loop-byte
invariant-loop-byte l = map (cast_unsigned w8) l.numbers.items ≡ take l.byte-index l.bytes
