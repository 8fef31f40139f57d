use Rattle.std.proofs.Common.{ap, sym, ◌∙◌}
use Rattle.store_question_read.specs.Query.{has_operators}
use Rattle.store_question_read.proofs.OnwardLemmas.{object_seen}
use Rattle.store_question_read.proofs.words.has_operators.Goals as goal

pub returns-in-Object : goal.returns-in-Object
returns-in-Object c = c.are_operators.ensures ∙ ap has_operators (sym (object_seen c.args.tree.now c.in-Object.members c.as_slice.result.now c.in-Object.is c.as_slice.ensures.value))
