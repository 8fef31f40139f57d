use Rattle.std.proofs.Common.{codes, refl}
use Rattle.bson_model.specs.View.{content}
use Rattle.fallowtime_statements.specs.Changes.{IsRemovalOf}
use Rattle.fallowtime_statements.proofs.WriteLemmas.{asks_writes}
use Rattle.fallowtime_statements.proofs.plans.planning.delete.Goals as goal

pub returns : goal.returns
returns c = (
  asks_writes IsRemovalOf c.args.database.now (codes "delete") (codes "deletes") (content c.args.command.now) c.args.lists.now c.in_ok-name.name.now c.in_ok-items.items.items c.in_ok-statements.statements.items c.in_ok-ordered.ordered
      c.in_ok-name.ensures c.in_ok-items.ensures (rw c.as_slice.ensures.value at c.in_ok-statements.ensures) c.in_ok-ordered.ensures,
  refl,
)
