use Rattle.std.proofs.Common.{◌<◌, ℕ, slice_index}
use Rattle.bson_frame.proofs.extent.ascii_end_by_bytes.Given as goal

abbrev pub invariant-loop-i : goal.invariant-loop-i
invariant-loop-i l = (k : ℕ) → k < l.i → (slice_index l.bytes k < 128) × (0 < slice_index l.bytes k)
