use Rattle.std.proofs.Common.{refl, string_bytes}
use Rattle.bson_model.specs.View.{content, view}
use Rattle.fallowtime_statements.specs.Lines.{line_of_two}
use Rattle.fallowtime_statements.proofs.WriteLemmas.{asks_group}
use Rattle.fallowtime_statements.proofs.plans.planning.count_by_pipeline.Goals as goal

pub returns : goal.returns
returns c =
    let k = c.in_ok-counting.counting in
    asks_group c.args.database.now c.in_ok-name.name.now (string_bytes c.in_ok-space.space) (content c.args.command.now) (content k.query) (line_of_two c.in_ok-name.name.now (content k.query)) c.in_ok-statement.statement (view k.id) k.skip k.most
    c.in_ok-name.ensures c.in_ok-counting.ensures refl c.in_ok-statement.ensures c.in_ok-space.ensures
