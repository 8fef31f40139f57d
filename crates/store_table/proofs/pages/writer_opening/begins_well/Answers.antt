use Rattle.std.proofs.Common.{sym, ◌∙◌, eqb-true}
use Rattle.store_table.proofs.pages.writer_opening.begins_well.Goals as goal

pub returns-in-Ok-clause-begins : goal.returns-in-Ok-clause-begins
returns-in-Ok-clause-begins g c letter clean pages first found is len = sym (c.in-Ok.ensures.value clean pages first found is len).0 ∙ eqb-true _ _ letter
