use Rattle.std.proofs.Common.{refl, sym, ◌∙◌, true≢false}
use Rattle.bson_model.specs.View.{view}
use Rattle.fallowtime_commands.proofs.changing.placed_at.Goals as goal

pub returns-then-has_other_id : goal.returns-then-has_other_id
returns-then-has_other_id c d own = (refl, ((view c.args.id, own, c.has_other_id.ensures.0 c.if-has_other_id.true), refl))

pub returns-in-Ok : goal.returns-in-Ok
returns-in-Ok c d own = (view c.args.id, own, (λ other. true≢false (sym (c.has_other_id.ensures.1 other) ∙ c.if-has_other_id.false)), c.in-Ok.ensures)
