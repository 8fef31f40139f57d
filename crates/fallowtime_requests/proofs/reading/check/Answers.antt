use Rattle.std.proofs.Common.{arith, inl, refl}
use Rattle.fallowtime_words.specs.declared.command.Command.TheVariants as command
use Rattle.fallowtime_requests.specs.Inputs.{seen}
use Rattle.fallowtime_requests.specs.declared.request.Request.TheVariants as request
use Rattle.fallowtime_requests.proofs.AskLemmas.{no_argument}
use Rattle.fallowtime_requests.proofs.CountLemmas.{not_none}
use Rattle.fallowtime_requests.proofs.reading.check.Goals as goal

pub returns-in-empty : goal.returns-in-empty
returns-in-empty c = λ m. no_argument seen m command.Check request.Check c.args.arguments.now c.plain.result _ (omega (arith, c.in-empty.len_below)) (refl, refl, refl, refl) c.plain.ensures

pub returns-in_default : goal.returns-in_default
returns-in_default c = λ m. inl (not_none seen c.args.arguments.now (λ e. omega (arith, e, c.in_default.len_at_least)), refl)
