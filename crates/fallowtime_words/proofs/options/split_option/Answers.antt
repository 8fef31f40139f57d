use Rattle.fallowtime_words.proofs.OptionLemmas.{none_is}
use Rattle.fallowtime_words.proofs.options.split_option.Goals as goal

pub returns-in_err-name-clause-lead : goal.returns-in_err-name-clause-lead
returns-in_err-name-clause-lead c = none_is _ _ _ c.from_residual.ensures (λ g behind (rest, named, value). c.in_err-name.ensures.named g.name rest named)
