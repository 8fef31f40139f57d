use Rattle.store_asked.proofs.RangeLemmas.{AddsEach}
use Rattle.store_asked.proofs.ranges.+ranges.Given as goal

abbrev pub invariant-add_each-loop-question : goal.invariant-add_each-loop-question
invariant-add_each-loop-question l = AddsEach l.list l.initial.ranges.items l.ranges.items
