use Rattle.std.proofs.Common.{false, map, refl}
use Rattle.fallowtime_words.specs.declared.command.Command.TheVariants as command
use Rattle.fallowtime_requests.specs.Inputs.{seen}
use Rattle.fallowtime_requests.specs.declared.request.Request.TheVariants as request
use Rattle.fallowtime_requests.specs.declared.request.Transfer.TheVariants as transfer
use Rattle.fallowtime_requests.proofs.AskLemmas.{asks}
use Rattle.fallowtime_requests.proofs.transferring.rename.Goals as goal

pub returns : goal.returns
returns c = λ m. asks m m command.Rename (map seen c.args.arguments.now) c.plain.result c.in_ok-collection.collection (request.Transfer (transfer.Rename c.in_ok-collection.new false)) c.plain.ensures (c.in_ok-collection.ensures m, refl, refl, refl)
