use Rattle.std.proofs.Common.{Ok, map, subst}
use Rattle.std.proofs.lemmas.Result.{err_from_is_err_and}
use Rattle.bson_base.specs.Value.{Members}
use Rattle.bson_model.specs.View.{content}
use Rattle.store_update.specs.Plan.{plan_of}
use Rattle.fallowtime_commands.specs.Changing.{IsUnrenewedAt, Updates}
use Rattle.fallowtime_commands.proofs.ChangeLemmas.{no_memory, renewed}
use Rattle.fallowtime_commands.proofs.changing.update_of_body.Goals as goal

pub returns : goal.returns
returns c d kept is =
    let plans = map plan_of c.args.steps.now in
    let e = content c.in_ok-document.document in
    renewed (Updates plans d) c.args.at c.args.name.now d e c.exchange.result (subst (λ (x : Members). Updates plans x (Ok e)) (c.in_ok-stored.ensures d kept is) c.in_ok-document.ensures) (c.exchange.ensures d is)

pub returns-in_err-stored : goal.returns-in_err-stored
returns-in_err-stored c =
    let p = err_from_is_err_and c.from_residual.result c.from_residual.ensures.1 in
    rw (p.1, p.2) (λ d kept is. no_memory (Updates (map plan_of c.args.steps.now) d) c.args.at c.in_err-stored.field-0.0 (c.in_err-stored.ensures d kept is))

pub returns-in_err-document : goal.returns-in_err-document
returns-in_err-document c =
    let p = err_from_is_err_and c.from_residual-in_err-document.result c.from_residual-in_err-document.ensures.1 in
    rw (p.1, p.2) (λ d kept is. subst (λ (x : Members). IsUnrenewedAt (Updates (map plan_of c.args.steps.now) x) c.args.at c.in_err-document.field-0.0) (c.in_ok-stored.ensures d kept is) c.in_err-document.ensures)
