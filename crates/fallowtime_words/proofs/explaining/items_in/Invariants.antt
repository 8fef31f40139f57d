use Rattle.std.proofs.Common.{◌≡◌, drop}
use Rattle.fallowtime_words.specs.Explaining.{items_of}
use Rattle.fallowtime_words.proofs.explaining.items_in.Given as goal

abbrev pub invariant-loop-kind : goal.invariant-loop-kind
invariant-loop-kind l = items_of (drop l.kind-index l.kinds) l.name ≡ items_of l.kinds l.name
