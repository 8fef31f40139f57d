use Rattle.std.proofs.Common.{◌≡◌, None, drop}
use Rattle.json.specs.Tree.{MembersHaveNumbers}
use Rattle.json.specs.Value.{members_view}
use Rattle.fallowtime_commands.specs.Objects.{IsWritable, id_tree}
use Rattle.fallowtime_commands.specs.Questions.{id_after}
use Rattle.fallowtime_commands.proofs.session.turns.id_among.Given as goal

abbrev pub invariant-loop-key : goal.invariant-loop-key
invariant-loop-key l =
    (id_after (id_tree l.found) (members_view (drop l.key-index l.members)) ≡ id_after None (members_view l.members))
    × IsWritable l.found × MembersHaveNumbers (members_view (drop l.key-index l.members))
