use Rattle.std.proofs.Common.{◌≡◌}
use Rattle.bson_meaning.specs.JsonReserved.{some_reserved}
use Rattle.bson_model.specs.Rest.{iter_rest}
use Rattle.bson_model.specs.View.{pairs_of, members_of}
use Rattle.bson_meaning.proofs.reserved.has_reserved_key.Given as goal

abbrev pub invariant-loop-key : goal.invariant-loop-key
invariant-loop-key l =
    (some_reserved (members_of (pairs_of l.document)) ≡ some_reserved (members_of (iter_rest l.key-iterator)))
    × (goal.iterator-loop-key).can_next l.key-iterator
    × (goal.iterator-loop-key).is_finite l.key-iterator
