use Rattle.std.proofs.Common.{◌≡◌, ◌∙◌}
use Rattle.fallowtime_statements.proofs.FieldLemmas.{among_told}
use Rattle.fallowtime_statements.proofs.fields.is_among.Goals as goal

pub returns : goal.returns
returns c = c.contains.ensures.value ∙ among_told c.args.keys.now c.args.key.now
