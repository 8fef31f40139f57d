use Rattle.fallowtime_requests.proofs.OptionLemmas.{several}
use Rattle.fallowtime_requests.proofs.options.flag_among.Goals as goal

pub returns-in_default : goal.returns-in_default
returns-in_default c = several c.args.name.now c.args.members.now c.in_default.len_at_least
