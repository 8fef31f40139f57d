use Rattle.store_asked.proofs.PathLemmas.{SoFar}
use Rattle.store_asked.proofs.equal.arrays.Given as goal

abbrev pub invariant-loop-keys : goal.invariant-loop-keys
invariant-loop-keys l = SoFar l.path l.filters.items l.keys
