use Rattle.std.proofs.Common.{◌∙◌, arith, sym}
use Rattle.fallowtime_requests.proofs.ChooseLemmas.{four_others, four_values, no_four}
use Rattle.fallowtime_requests.proofs.choosing.change_of_line.Goals as goal
use Rattle.fallowtime_requests.proofs.choosing.change_of_line.Goals.{in_default-via-then-items-lt4, in_default-via-else-items-lt4+else-items-lt5}

pub returns-then-names_upsert-clause-asked : goal.returns-then-names_upsert-clause-asked
returns-then-names_upsert-clause-asked c =
    four_values c.args.several c.args.maker.now c.change_by_options.new.maker c.args.command c.args.items.now c.query-item.result c.options-item.result c.change_by_options.result
    (omega (arith, c.in-len4.len_at_least, c.in-len4.len_below)) c.query-item.is c.options-item.is (sym c.if-names_upsert.true ∙ c.names_upsert.ensures) c.change_by_options.ensures.asked

pub returns-else-names_upsert-clause-asked : goal.returns-else-names_upsert-clause-asked
returns-else-names_upsert-clause-asked c =
    four_others c.args.several c.args.maker.now c.question_of_items.new.maker c.args.command c.args.items.now c.options-item.result c.question_of_items.result
    (omega (arith, c.in-len4.len_at_least, c.in-len4.len_below)) c.options-item.is (sym c.if-names_upsert.false ∙ c.names_upsert.ensures) c.question_of_items.ensures.asked

pub returns-in_default-clause-asked : goal.returns-in_default-clause-asked
returns-in_default-clause-asked c =
    no_four c.args.several c.args.maker.now c.question_of_items-in_default.new.maker c.args.command c.args.items.now c.question_of_items-in_default.result
    (λ e. elim c.in_default.branch [ in_default-via-then-items-lt4 w ↦ grind arith | in_default-via-else-items-lt4+else-items-lt5 w ↦ grind arith ]) c.question_of_items-in_default.ensures.asked
