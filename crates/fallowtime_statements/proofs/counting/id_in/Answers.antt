use Rattle.std.proofs.Common.{sym, ◌∙◌}
use Rattle.bson_model.specs.View.{content, view}
use Rattle.fallowtime_statements.proofs.CountLemmas.{group_id}
use Rattle.fallowtime_statements.proofs.counting.id_in.Goals as goal

pub returns-in-Some : goal.returns-in-Some
returns-in-Some c =
    group_id (content c.args.group.now) (view c.in-Some.id.now) c.constant_of.result (sym c.size_of.ensures ∙ c.if-size_of-ne2.false) c.in_ok-count_in.ensures (rw c.in-Some.is at c.value_in.ensures) c.constant_of.ensures
