use Rattle.std.proofs.Common.{refl}
use Rattle.fallowtime_words.proofs.OptionLemmas.{none_is}
use Rattle.fallowtime_words.proofs.NoTaskLemmas.{no_options, more_options}
use Rattle.fallowtime_words.proofs.words.read_session.Goals as goal

pub returns-in_err-options : goal.returns-in_err-options
returns-in_err-options c = none_is _ _ _ c.from_residual.ensures (no_options _ c.in_err-options.ensures)

pub returns-then-not-are_of_session : goal.returns-then-not-are_of_session
returns-then-not-are_of_session c = more_options _ c.in_ok-options.options c.in_ok-options.ensures (λ h. let on = c.if-not-are_of_session.ensures.1 h in cc)

pub returns : goal.returns
returns c = (c.in_ok-options.options, (c.in_ok-options.ensures c.in_ok-options.options).1 refl, c.if-not-are_of_session.ensures.0 refl, refl, refl)
