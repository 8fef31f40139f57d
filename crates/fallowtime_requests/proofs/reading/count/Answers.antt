use Rattle.std.proofs.Common.{map, refl}
use Rattle.fallowtime_words.specs.declared.command.Command.TheVariants as command
use Rattle.fallowtime_requests.specs.Inputs.{seen}
use Rattle.fallowtime_requests.specs.Requests.{whole_part}
use Rattle.fallowtime_requests.specs.declared.request.Request.TheVariants as request
use Rattle.fallowtime_requests.proofs.AskLemmas.{asks}
use Rattle.fallowtime_requests.proofs.reading.count.Goals as goal

pub returns : goal.returns
returns c = λ m. asks m m command.Count (map seen c.args.arguments.now) c.plain.result c.in_ok-collection.collection (request.Count c.in_ok-collection.query whole_part) c.plain.ensures (c.in_ok-collection.ensures m, refl, refl, refl)
