use Rattle.std.proofs.Common.{◌≡◌}
use Rattle.bson_model.specs.Rest.{iter_rest}
use Rattle.bson_model.specs.View.{members_of, pairs_of}
use Rattle.fallowtime_statements.specs.Fields.{forbidden}
use Rattle.fallowtime_statements.proofs.fields.forbidden.Given as goal

abbrev pub invariant-loop-key : goal.invariant-loop-key
invariant-loop-key l = (forbidden l.name (members_of (pairs_of l.command)) ≡ forbidden l.name (members_of (iter_rest l.key-iterator)))
    × goal.iterator-loop-key.can_next l.key-iterator
    × goal.iterator-loop-key.is_finite l.key-iterator
