use Rattle.json.specs.Value.{items_view}
use Rattle.fallowtime_words.specs.declared.command.Command.TheVariants as command
use Rattle.fallowtime_requests.proofs.LineLemmas.{by_change, by_exchange, line_of, line_of_find, line_of_found_replacement, line_of_found_update, line_of_other, line_of_removal, line_of_replacement, line_of_update}
use Rattle.fallowtime_requests.proofs.arranging.question_of_line.Goals as goal

pub returns-in-Find-clause-asked : goal.returns-in-Find-clause-asked
returns-in-Find-clause-asked c = line_of_find c.args.maker.now c.find_of_two.new.maker c.args.command (items_view c.args.items.now) c.find_of_two.result c.in-Find.is c.find_of_two.ensures.asked

pub returns-in-FindAndUpdate-clause-asked : goal.returns-in-FindAndUpdate-clause-asked
returns-in-FindAndUpdate-clause-asked c = line_of_found_update c.args.maker.now c.find_of_three.new.maker c.args.command (items_view c.args.items.now) c.find_of_three.result c.in-FindAndUpdate.is c.find_of_three.ensures.asked

pub returns-in-FindAndReplace-clause-asked : goal.returns-in-FindAndReplace-clause-asked
returns-in-FindAndReplace-clause-asked c = line_of_found_replacement c.args.maker.now c.find_of_three-in-FindAndReplace.new.maker c.args.command (items_view c.args.items.now) c.find_of_three-in-FindAndReplace.result c.in-FindAndReplace.is c.find_of_three-in-FindAndReplace.ensures.asked

pub returns-in-FindAndDelete-clause-asked : goal.returns-in-FindAndDelete-clause-asked
returns-in-FindAndDelete-clause-asked c = line_of_removal c.args.maker.now c.find_of_two-in-FindAndDelete.new.maker c.args.command (items_view c.args.items.now) c.find_of_two-in-FindAndDelete.result c.in-FindAndDelete.is c.find_of_two-in-FindAndDelete.ensures.asked

pub returns-in-Update-clause-asked : goal.returns-in-Update-clause-asked
returns-in-Update-clause-asked c = line_of_update c.args.maker.now c.change_of_line.new.maker c.args.command (items_view c.args.items.now) c.change_of_line.result c.in-Update.is c.change_of_line.ensures.asked

pub returns-in-ReplaceOne-clause-asked : goal.returns-in-ReplaceOne-clause-asked
returns-in-ReplaceOne-clause-asked c = line_of_replacement c.args.maker.now c.change_of_line-in-ReplaceOne.new.maker c.args.command (items_view c.args.items.now) c.change_of_line-in-ReplaceOne.result c.in-ReplaceOne.is c.change_of_line-in-ReplaceOne.ensures.asked

pub returns-in-Distinct-clause-asked : goal.returns-in-Distinct-clause-asked
returns-in-Distinct-clause-asked c = line_of c.args.maker.now c.distinct_of_line.new.maker c.args.command (items_view c.args.items.now) command.Distinct c.distinct_of_line.result c.in-Distinct.is c.distinct_of_line.ensures.asked

pub returns-in-Set-clause-asked : goal.returns-in-Set-clause-asked
returns-in-Set-clause-asked c = line_of c.args.maker.now c.set_of_line.new.maker c.args.command (items_view c.args.items.now) command.Set c.set_of_line.result c.in-Set.is c.set_of_line.ensures.asked

pub returns-in-Unset-clause-asked : goal.returns-in-Unset-clause-asked
returns-in-Unset-clause-asked c = line_of c.args.maker.now c.unset_of_line.new.maker c.args.command (items_view c.args.items.now) command.Unset c.unset_of_line.result c.in-Unset.is c.unset_of_line.ensures.asked

pub returns-in-Count-clause-asked : goal.returns-in-Count-clause-asked
returns-in-Count-clause-asked c = line_of c.args.maker.now c.count_of_line.new.maker c.args.command (items_view c.args.items.now) command.Count c.count_of_line.result c.in-Count.is c.count_of_line.ensures.asked

pub returns-in-Rename-clause-asked : goal.returns-in-Rename-clause-asked
returns-in-Rename-clause-asked c = line_of c.args.maker.now c.rename_of_line.new.maker c.args.command (items_view c.args.items.now) command.Rename c.rename_of_line.result c.in-Rename.is c.rename_of_line.ensures.asked

pub returns-in-Import-clause-asked : goal.returns-in-Import-clause-asked
returns-in-Import-clause-asked c = line_of c.args.maker.now c.import_of_line.new.maker c.args.command (items_view c.args.items.now) command.Import c.import_of_line.result c.in-Import.is c.import_of_line.ensures

pub returns-in_default-clause-asked : goal.returns-in_default-clause-asked
returns-in_default-clause-asked c =
    line_of_other c.args.maker.now c.question_of_items.new.maker (items_view c.args.items.now) c.args.command c.question_of_items.result
    c.in_default.not-Find c.in_default.not-FindAndUpdate c.in_default.not-FindAndReplace c.in_default.not-FindAndDelete c.in_default.not-Update c.in_default.not-ReplaceOne c.in_default.not-Distinct c.in_default.not-Set c.in_default.not-Unset c.in_default.not-Count c.in_default.not-Rename c.in_default.not-Import
    c.question_of_items.ensures.asked

pub change_of_line-requires-clause-takes : goal.change_of_line-requires-clause-takes
change_of_line-requires-clause-takes c = by_change

pub change_of_line-requires-in-ReplaceOne-clause-takes : goal.change_of_line-requires-in-ReplaceOne-clause-takes
change_of_line-requires-in-ReplaceOne-clause-takes c = by_exchange
