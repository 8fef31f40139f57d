use Rattle.std.proofs.Common.{◌≡◌, drop}
use Rattle.std.specs.List.{list_any}
use Rattle.fallowtime_requests.specs.Along.{is_dot}
use Rattle.fallowtime_requests.proofs.along.has_dot.Given as goal

abbrev pub invariant-loop-byte : goal.invariant-loop-byte
invariant-loop-byte l = list_any is_dot (drop l.byte-index l.bytes) ≡ list_any is_dot l.bytes
