use Rattle.std.proofs.Common.{rules, sym, ◌∙◌}
use Rattle.bson_store.proofs.CodeLemmas.{least_part, middle, most_part, numeric_levels}
use Rattle.bson_store.proofs.indexed.parts.number_part.Goals as goal

pub returns-in-Less : goal.returns-in-Less
returns-in-Less c v spells numeric = least_part v numeric (sym (c.in-None.ensures v spells)) (sym (c.in-Less.ensures v middle spells (search rules) (numeric_levels v numeric)))

pub returns-in_default : goal.returns-in_default
returns-in_default c v spells numeric =
    most_part v numeric (sym (c.in-None.ensures v spells)) (λ e. c.in_default.not-Less (c.compare.ensures v middle spells (search rules) (numeric_levels v numeric) ∙ e))
