use Rattle.std.proofs.Common.{◌+◌, ◌*◌, length}
use Rattle.bson_meaning.proofs.ProgressLemmas.{Progress}
use Rattle.bson_meaning.proofs.gating.+elements.Given as goal

abbrev pub decreases-test_elements : goal.decreases-test_elements
decreases-test_elements l = 2 * l.inner + 1

abbrev pub decreases-test_payload : goal.decreases-test_payload
decreases-test_payload l = 2 * l.inner

abbrev pub invariant-test_elements-loop-rest : goal.invariant-test_elements-loop-rest
invariant-test_elements-loop-rest l = Progress l.elements l.rest l.inner

abbrev pub decreases-test_elements-loop-rest : goal.decreases-test_elements-loop-rest
decreases-test_elements-loop-rest l = length l.rest
