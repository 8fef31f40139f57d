use Rattle.std.proofs.Common.{◌≡◌}
use Rattle.bson_model.specs.Rest.{iter_rest}
use Rattle.bson_model.specs.View.{members_of, pairs_of}
use Rattle.fallowtime_statements.specs.Indexing.{are_numbers}
use Rattle.fallowtime_statements.proofs.plans.indexing.are_numbers.Given as goal

abbrev pub invariant-loop-value : goal.invariant-loop-value
invariant-loop-value l = (are_numbers (members_of (pairs_of l.document)) ≡ are_numbers (members_of (iter_rest l.value-iterator)))
    × goal.iterator-loop-value.can_next l.value-iterator
    × goal.iterator-loop-value.is_finite l.value-iterator
