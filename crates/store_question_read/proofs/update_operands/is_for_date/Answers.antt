use Rattle.std.proofs.Common.{sym, ap, ◌∙◌}
use Rattle.store_question_read.specs.Read.{is_for_date}
use Rattle.store_question_read.proofs.ReadLemmas.{object_seen}
use Rattle.store_question_read.proofs.update_operands.is_for_date.Goals as goal

pub returns-in-Object : goal.returns-in-Object
returns-in-Object c =
    let seen = object_seen c.args.tree.now c.in-Object.members c.as_slice.result.now c.in-Object.is c.as_slice.ensures.value in
    c.asks_date.ensures ∙ ap is_for_date (sym seen)
