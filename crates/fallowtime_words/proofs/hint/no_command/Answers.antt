use Rattle.std.proofs.Common.{inl, inr, sym, ◌∙◌}
use Rattle.fallowtime_words.proofs.TopicLemmas.{not_both}
use Rattle.fallowtime_words.proofs.WordLemmas.{told_so}
use Rattle.fallowtime_words.proofs.hint.no_command.Goals as goal

pub returns-then-is_option : goal.returns-then-is_option
returns-then-is_option c = told_so c.from_str.result _ _ (λ t e. inl (c.is_option.ensures.0 c.if-is_option.true, e)) c.from_str.ensures.ok

pub returns : goal.returns
returns c = told_so c.unknown.result _ _ (λ t h. inr (λ b. not_both (sym c.if-is_option.false ∙ c.is_option.ensures.1 b), h)) c.unknown.ensures
