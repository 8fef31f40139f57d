use Rattle.std.proofs.Common.{◌∙◌}
use Rattle.bson_model.specs.View.{content}
use Rattle.store_model.specs.State.{in_bytes}
use Rattle.store_model.specs.State as model
use Rattle.fallowtime_front.proofs.WayLemmas.{stored_leaves, stored_turns}
use Rattle.fallowtime_front.proofs.changing.insert.Goals as goal

pub returns-clause-turns : goal.returns-clause-turns
returns-clause-turns g c =
    stored_turns c.args.name.now c.as_slice.result.now (content c.args.document.now) (c.as_slice.ensures.value ∙ c.in-Ok.ensures.0) c.args.writer.now c.insert_raw.new.writer (model.insert in_bytes) c.in-Ok.ensures.1 c.insert_raw.result c.insert_raw.ensures.turns

pub returns-clause-crash : goal.returns-clause-crash
returns-clause-crash g c =
    stored_leaves c.args.name.now c.as_slice.result.now (content c.args.document.now) (c.as_slice.ensures.value ∙ c.in-Ok.ensures.0) c.args.writer.now c.insert_raw.new.writer (model.insert in_bytes) c.insert_raw.result c.insert_raw.ensures.crash
