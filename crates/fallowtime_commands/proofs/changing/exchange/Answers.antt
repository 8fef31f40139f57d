use Rattle.std.proofs.Common.{sym, ◌∙◌, true≢false}
use Rattle.bson_model.specs.View.{content}
use Rattle.fallowtime_commands.proofs.ChangeLemmas.{exchanged}
use Rattle.fallowtime_commands.proofs.changing.exchange.Goals as goal

pub returns-in-Ok : goal.returns-in-Ok
returns-in-Ok c d is =
    let e = content c.args.document.now in (
      c.in_ok-bytes.ensures.1,
      exchanged c.args.name.now d e c.as_slice.result.now c.args.body.now c.in-Ok.edit (c.as_slice.ensures.value ∙ c.in_ok-bytes.ensures.0) is
          (λ same. true≢false (sym (c.are_same.ensures.1 same) ∙ c.if-are_same.false)) (c.in-Ok.ensures e c.in_ok-bytes.ensures.0),
    )
