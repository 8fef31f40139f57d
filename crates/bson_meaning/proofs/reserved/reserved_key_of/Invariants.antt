use Rattle.std.proofs.Common.{◌≡◌}
use Rattle.bson_meaning.specs.JsonReserved.{first_reserved}
use Rattle.bson_model.specs.Rest.{iter_rest}
use Rattle.bson_model.specs.View.{pairs_of, members_of}
use Rattle.bson_meaning.proofs.reserved.reserved_key_of.Given as goal

abbrev pub invariant-loop-key : goal.invariant-loop-key
invariant-loop-key l =
    (first_reserved (members_of (pairs_of l.document)) ≡ first_reserved (members_of (iter_rest l.key-iterator)))
    × (goal.iterator-loop-key).can_next l.key-iterator
    × (goal.iterator-loop-key).is_finite l.key-iterator
