use Rattle.std.proofs.Common.{codes, false, subst}
use Rattle.bson_base.specs.Value.{look_up}
use Rattle.bson_model.specs.View.{content}
use Rattle.fallowtime_statements.specs.Lines.{IsTruth}
use Rattle.fallowtime_statements.proofs.plans.planning.find_and_modify.Goals as goal

pub returns : goal.returns
returns c =
    let puts = subst (λ b. IsTruth false (look_up (codes "upsert") (content c.args.command.now)) b) c.if-upserts.false c.in_ok-upserts.ensures in
    (c.in_ok-name.name.now, c.in_ok-name.ensures, c.in_ok-removes.ensures, puts, c.in_ok-statement.ensures)
