use Rattle.std.proofs.Common.{◌-◌}
use Rattle.bson_pairs.specs.Keyed.{key_bytes}
use Rattle.bson_pairs.proofs.SearchLemmas.{Searching}
use Rattle.bson_pairs.proofs.keys.search.Given as goal

abbrev pub invariant-loop-low : goal.invariant-loop-low
invariant-loop-low l = Searching (key_bytes l.texts) l.key l.low l.high l.compared

abbrev pub decreases-loop-low : goal.decreases-loop-low
decreases-loop-low l = l.high - l.low
