use Rattle.std.proofs.Common.{sym, ◌∙◌}
use Rattle.bson_model.specs.View.{pairs_of}
use Rattle.bson_model.proofs.EqualLemmas.{look_up-members_of}
use Rattle.store_model.specs.State.{id_key}
use Rattle.fallowtime_commands.proofs.changing.taken_id.Goals as goal

pub returns : goal.returns
returns c = c.remove.ensures.value ∙ sym (look_up-members_of id_key (pairs_of c.args.document.now))
