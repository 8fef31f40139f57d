use Rattle.std.proofs.Common.{map}
use Rattle.fallowtime_words.specs.declared.command.Command.TheVariants as command
use Rattle.fallowtime_requests.specs.Inputs.{seen}
use Rattle.fallowtime_requests.proofs.AskLemmas.{by_command, by_maker, stays}
use Rattle.fallowtime_requests.proofs.reading.question_of.Goals as goal

pub returns-in-Insert-clause-asked : goal.returns-in-Insert-clause-asked
returns-in-Insert-clause-asked c = by_maker c.args.maker.now c.insert.new.maker c.args.command command.Insert (map seen c.args.arguments.now) c.insert.result c.in-Insert.is c.insert.ensures.asked

pub returns-in-Import-clause-asked : goal.returns-in-Import-clause-asked
returns-in-Import-clause-asked c = by_maker c.args.maker.now c.import.new.maker c.args.command command.Import (map seen c.args.arguments.now) c.import.result c.in-Import.is c.import.ensures

pub returns-in-Import-clause-maker : goal.returns-in-Import-clause-maker
returns-in-Import-clause-maker c = λ other. absurd (other c.in-Import.is)

pub returns-in-Put-clause-asked : goal.returns-in-Put-clause-asked
returns-in-Put-clause-asked c = by_command c.args.maker.now c.args.command command.Put (map seen c.args.arguments.now) c.put.result c.in-Put.is c.put.ensures

pub returns-in-Put-clause-maker : goal.returns-in-Put-clause-maker
returns-in-Put-clause-maker c = λ other. stays c.args.maker.now c.put.result

pub returns-in-Replace-clause-asked : goal.returns-in-Replace-clause-asked
returns-in-Replace-clause-asked c = by_command c.args.maker.now c.args.command command.Replace (map seen c.args.arguments.now) c.replace.result c.in-Replace.is c.replace.ensures

pub returns-in-Replace-clause-maker : goal.returns-in-Replace-clause-maker
returns-in-Replace-clause-maker c = λ other. stays c.args.maker.now c.replace.result

pub returns-in-Get-clause-asked : goal.returns-in-Get-clause-asked
returns-in-Get-clause-asked c = by_command c.args.maker.now c.args.command command.Get (map seen c.args.arguments.now) c.get.result c.in-Get.is c.get.ensures

pub returns-in-Get-clause-maker : goal.returns-in-Get-clause-maker
returns-in-Get-clause-maker c = λ other. stays c.args.maker.now c.get.result

pub returns-in-Set-clause-asked : goal.returns-in-Set-clause-asked
returns-in-Set-clause-asked c = by_command c.args.maker.now c.args.command command.Set (map seen c.args.arguments.now) c.set.result c.in-Set.is c.set.ensures

pub returns-in-Set-clause-maker : goal.returns-in-Set-clause-maker
returns-in-Set-clause-maker c = λ other. stays c.args.maker.now c.set.result

pub returns-in-Unset-clause-asked : goal.returns-in-Unset-clause-asked
returns-in-Unset-clause-asked c = by_command c.args.maker.now c.args.command command.Unset (map seen c.args.arguments.now) c.unset.result c.in-Unset.is c.unset.ensures

pub returns-in-Unset-clause-maker : goal.returns-in-Unset-clause-maker
returns-in-Unset-clause-maker c = λ other. stays c.args.maker.now c.unset.result

pub returns-in-Update-clause-asked : goal.returns-in-Update-clause-asked
returns-in-Update-clause-asked c = by_maker c.args.maker.now c.args.maker.now c.args.command command.Update (map seen c.args.arguments.now) c.update.result c.in-Update.is c.update.ensures

pub returns-in-Update-clause-maker : goal.returns-in-Update-clause-maker
returns-in-Update-clause-maker c = λ other. stays c.args.maker.now c.update.result

pub returns-in-ReplaceOne-clause-asked : goal.returns-in-ReplaceOne-clause-asked
returns-in-ReplaceOne-clause-asked c = by_command c.args.maker.now c.args.command command.ReplaceOne (map seen c.args.arguments.now) c.replace_one.result c.in-ReplaceOne.is c.replace_one.ensures

pub returns-in-ReplaceOne-clause-maker : goal.returns-in-ReplaceOne-clause-maker
returns-in-ReplaceOne-clause-maker c = λ other. stays c.args.maker.now c.replace_one.result

pub returns-in-Delete-clause-asked : goal.returns-in-Delete-clause-asked
returns-in-Delete-clause-asked c = by_command c.args.maker.now c.args.command command.Delete (map seen c.args.arguments.now) c.delete.result c.in-Delete.is c.delete.ensures

pub returns-in-Delete-clause-maker : goal.returns-in-Delete-clause-maker
returns-in-Delete-clause-maker c = λ other. stays c.args.maker.now c.delete.result

pub returns-in-FindAndUpdate-clause-asked : goal.returns-in-FindAndUpdate-clause-asked
returns-in-FindAndUpdate-clause-asked c = by_maker c.args.maker.now c.args.maker.now c.args.command command.FindAndUpdate (map seen c.args.arguments.now) c.find_and_update.result c.in-FindAndUpdate.is c.find_and_update.ensures

pub returns-in-FindAndUpdate-clause-maker : goal.returns-in-FindAndUpdate-clause-maker
returns-in-FindAndUpdate-clause-maker c = λ other. stays c.args.maker.now c.find_and_update.result

pub returns-in-FindAndReplace-clause-asked : goal.returns-in-FindAndReplace-clause-asked
returns-in-FindAndReplace-clause-asked c = by_command c.args.maker.now c.args.command command.FindAndReplace (map seen c.args.arguments.now) c.find_and_replace.result c.in-FindAndReplace.is c.find_and_replace.ensures

pub returns-in-FindAndReplace-clause-maker : goal.returns-in-FindAndReplace-clause-maker
returns-in-FindAndReplace-clause-maker c = λ other. stays c.args.maker.now c.find_and_replace.result

pub returns-in-FindAndDelete-clause-asked : goal.returns-in-FindAndDelete-clause-asked
returns-in-FindAndDelete-clause-asked c = by_command c.args.maker.now c.args.command command.FindAndDelete (map seen c.args.arguments.now) c.find_and_delete.result c.in-FindAndDelete.is c.find_and_delete.ensures

pub returns-in-FindAndDelete-clause-maker : goal.returns-in-FindAndDelete-clause-maker
returns-in-FindAndDelete-clause-maker c = λ other. stays c.args.maker.now c.find_and_delete.result

pub returns-in-Remove-clause-asked : goal.returns-in-Remove-clause-asked
returns-in-Remove-clause-asked c = by_command c.args.maker.now c.args.command command.Remove (map seen c.args.arguments.now) c.remove.result c.in-Remove.is c.remove.ensures

pub returns-in-Remove-clause-maker : goal.returns-in-Remove-clause-maker
returns-in-Remove-clause-maker c = λ other. stays c.args.maker.now c.remove.result

pub returns-in-Find-clause-asked : goal.returns-in-Find-clause-asked
returns-in-Find-clause-asked c = by_command c.args.maker.now c.args.command command.Find (map seen c.args.arguments.now) c.find.result c.in-Find.is c.find.ensures

pub returns-in-Find-clause-maker : goal.returns-in-Find-clause-maker
returns-in-Find-clause-maker c = λ other. stays c.args.maker.now c.find.result

pub returns-in-Count-clause-asked : goal.returns-in-Count-clause-asked
returns-in-Count-clause-asked c = by_command c.args.maker.now c.args.command command.Count (map seen c.args.arguments.now) c.count.result c.in-Count.is c.count.ensures

pub returns-in-Count-clause-maker : goal.returns-in-Count-clause-maker
returns-in-Count-clause-maker c = λ other. stays c.args.maker.now c.count.result

pub returns-in-Distinct-clause-asked : goal.returns-in-Distinct-clause-asked
returns-in-Distinct-clause-asked c = by_command c.args.maker.now c.args.command command.Distinct (map seen c.args.arguments.now) c.distinct.result c.in-Distinct.is c.distinct.ensures

pub returns-in-Distinct-clause-maker : goal.returns-in-Distinct-clause-maker
returns-in-Distinct-clause-maker c = λ other. stays c.args.maker.now c.distinct.result

pub returns-in-Aggregate-clause-asked : goal.returns-in-Aggregate-clause-asked
returns-in-Aggregate-clause-asked c = by_command c.args.maker.now c.args.command command.Aggregate (map seen c.args.arguments.now) c.aggregate.result c.in-Aggregate.is c.aggregate.ensures

pub returns-in-Aggregate-clause-maker : goal.returns-in-Aggregate-clause-maker
returns-in-Aggregate-clause-maker c = λ other. stays c.args.maker.now c.aggregate.result

pub returns-in-Export-clause-asked : goal.returns-in-Export-clause-asked
returns-in-Export-clause-asked c = by_command c.args.maker.now c.args.command command.Export (map seen c.args.arguments.now) c.export.result c.in-Export.is c.export.ensures

pub returns-in-Export-clause-maker : goal.returns-in-Export-clause-maker
returns-in-Export-clause-maker c = λ other. stays c.args.maker.now c.export.result

pub returns-in-Index-clause-asked : goal.returns-in-Index-clause-asked
returns-in-Index-clause-asked c = by_command c.args.maker.now c.args.command command.Index (map seen c.args.arguments.now) c.index.result c.in-Index.is c.index.ensures

pub returns-in-Index-clause-maker : goal.returns-in-Index-clause-maker
returns-in-Index-clause-maker c = λ other. stays c.args.maker.now c.index.result

pub returns-in-DropIndex-clause-asked : goal.returns-in-DropIndex-clause-asked
returns-in-DropIndex-clause-asked c = by_command c.args.maker.now c.args.command command.DropIndex (map seen c.args.arguments.now) c.drop_index.result c.in-DropIndex.is c.drop_index.ensures

pub returns-in-DropIndex-clause-maker : goal.returns-in-DropIndex-clause-maker
returns-in-DropIndex-clause-maker c = λ other. stays c.args.maker.now c.drop_index.result

pub returns-in-Collections-clause-asked : goal.returns-in-Collections-clause-asked
returns-in-Collections-clause-asked c = by_command c.args.maker.now c.args.command command.Collections (map seen c.args.arguments.now) c.collections.result c.in-Collections.is c.collections.ensures

pub returns-in-Collections-clause-maker : goal.returns-in-Collections-clause-maker
returns-in-Collections-clause-maker c = λ other. stays c.args.maker.now c.collections.result

pub returns-in-Check-clause-asked : goal.returns-in-Check-clause-asked
returns-in-Check-clause-asked c = by_command c.args.maker.now c.args.command command.Check (map seen c.args.arguments.now) c.check.result c.in-Check.is c.check.ensures

pub returns-in-Check-clause-maker : goal.returns-in-Check-clause-maker
returns-in-Check-clause-maker c = λ other. stays c.args.maker.now c.check.result

pub returns-in-Drop-clause-asked : goal.returns-in-Drop-clause-asked
returns-in-Drop-clause-asked c = by_command c.args.maker.now c.args.command command.Drop (map seen c.args.arguments.now) c.drop_collection.result c.in-Drop.is c.drop_collection.ensures

pub returns-in-Drop-clause-maker : goal.returns-in-Drop-clause-maker
returns-in-Drop-clause-maker c = λ other. stays c.args.maker.now c.drop_collection.result

pub returns-in-Rename-clause-asked : goal.returns-in-Rename-clause-asked
returns-in-Rename-clause-asked c = by_command c.args.maker.now c.args.command command.Rename (map seen c.args.arguments.now) c.rename.result c.in-Rename.is c.rename.ensures

pub returns-in-Rename-clause-maker : goal.returns-in-Rename-clause-maker
returns-in-Rename-clause-maker c = λ other. stays c.args.maker.now c.rename.result

pub returns-in-Copy-clause-asked : goal.returns-in-Copy-clause-asked
returns-in-Copy-clause-asked c = by_command c.args.maker.now c.args.command command.Copy (map seen c.args.arguments.now) c.copy.result c.in-Copy.is c.copy.ensures

pub returns-in-Copy-clause-maker : goal.returns-in-Copy-clause-maker
returns-in-Copy-clause-maker c = λ other. stays c.args.maker.now c.copy.result
