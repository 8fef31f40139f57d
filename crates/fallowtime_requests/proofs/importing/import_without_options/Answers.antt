use Rattle.fallowtime_requests.proofs.LineLemmas.{line_of_import}
use Rattle.fallowtime_requests.proofs.importing.import_without_options.Goals as goal

pub returns : goal.returns
returns c = line_of_import c.args.maker.now c.question_of_items.new.maker c.args.items.now c.question_of_items.result c.requires c.question_of_items.ensures.asked
