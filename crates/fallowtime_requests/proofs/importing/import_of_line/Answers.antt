use Rattle.std.proofs.Common.{arith}
use Rattle.json.specs.Value.{value_view}
use Rattle.fallowtime_words.specs.declared.command.Command.TheVariants as command
use Rattle.fallowtime_requests.specs.Arranging.{ReadsLine}
use Rattle.fallowtime_requests.proofs.LineLemmas.{line_of_existing, three_there}
use Rattle.fallowtime_requests.proofs.importing.import_of_line.Goals as goal

pub returns-in-len3 : goal.returns-in-len3
returns-in-len3 c =
    three_there (λ js. ReadsLine c.args.maker.now c.import_by_options.new.maker command.Import js c.import_by_options.result) c.args.items.now c.name-item.result c.documents-item.result c.options-item.result (omega (arith, c.in-len3.len_at_least, c.in-len3.len_below)) c.name-item.is c.documents-item.is c.options-item.is
    (line_of_existing c.args.maker.now c.import_by_options.new.maker (value_view c.name-item.result) (value_view c.documents-item.result) (value_view c.options-item.result) c.import_by_options.result c.import_by_options.ensures)
