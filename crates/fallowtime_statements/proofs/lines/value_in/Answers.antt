use Rattle.std.proofs.Common.{sym, ◌∙◌}
use Rattle.bson_model.proofs.EqualLemmas.{look_up-members_of}
use Rattle.bson_model.specs.View.{pairs_of}
use Rattle.fallowtime_statements.proofs.lines.value_in.Goals as goal

pub returns : goal.returns
returns c = c.get.ensures ∙ sym (look_up-members_of c.args.key.now (pairs_of c.args.document.now))
