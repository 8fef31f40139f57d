use Rattle.std.proofs.Common.{arith}
use Rattle.json.specs.Value.{value_view}
use Rattle.fallowtime_words.specs.declared.command.Command.TheVariants as command
use Rattle.fallowtime_requests.specs.Arranging.{ReadsLine}
use Rattle.fallowtime_requests.proofs.AskLemmas.{stays}
use Rattle.fallowtime_requests.proofs.LineLemmas.{line_of_drops, line_of_rename, three_there}
use Rattle.fallowtime_requests.proofs.transferring.rename_of_line.Goals as goal
use Rattle.fallowtime_requests.proofs.transferring.rename_of_line.Goals.{in_default-via-then-items-lt3, in_default-via-else-items-lt3+else-items-lt4}

pub returns-in-len3-clause-asked : goal.returns-in-len3-clause-asked
returns-in-len3-clause-asked c =
    three_there (λ js. ReadsLine c.args.maker.now c.args.maker.now command.Rename js c.rename_by_options.result) c.args.items.now c.name-item.result c.new-item.result c.options-item.result (omega (arith, c.in-len3.len_at_least, c.in-len3.len_below)) c.name-item.is c.new-item.is c.options-item.is
    (line_of_drops c.args.maker.now c.args.maker.now (value_view c.name-item.result) (value_view c.new-item.result) (value_view c.options-item.result) c.rename_by_options.result (c.rename_by_options.ensures c.args.maker.now))

pub returns-in_default-clause-asked : goal.returns-in_default-clause-asked
returns-in_default-clause-asked c =
    line_of_rename c.args.maker.now c.question_of_items.new.maker c.args.items.now c.question_of_items.result
    (λ e. elim c.in_default.branch [ in_default-via-then-items-lt3 w ↦ grind arith | in_default-via-else-items-lt3+else-items-lt4 w ↦ grind arith ]) c.question_of_items.ensures.asked

pub returns-in-len3-clause-maker : goal.returns-in-len3-clause-maker
returns-in-len3-clause-maker c = stays c.args.maker.now c.rename_by_options.result
