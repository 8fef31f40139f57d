use Rattle.std.proofs.Common.{◌≡◌, ◌++◌, map, take}
use Rattle.std.specs.Int.{w8, cast_unsigned}
use Rattle.bson_base.proofs.binary.vector.put_signed_bytes.Given as goal

abbrev pub invariant-loop-number : goal.invariant-loop-number
invariant-loop-number l = l.bytes.items ≡ l.fn.bytes.items ++ map (cast_unsigned w8) (take l.number-index l.numbers)
