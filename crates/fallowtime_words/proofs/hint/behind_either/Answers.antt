use Rattle.std.proofs.Common.{is_some, sym, ◌∙◌, ap}
use Rattle.fallowtime_words.proofs.TopicLemmas.{not_both}
use Rattle.fallowtime_words.proofs.hint.behind_either.Goals as goal

pub returns-then-is_none : goal.returns-then-is_none
returns-then-is_none c = λ n. absurd (not_both (sym (ap is_some (c.from_word.ensures.is ∙ n)) ∙ (sym c.is_some.ensures ∙ c.if-is_some.true)))

pub returns : goal.returns
returns c = λ n. c.behind_file.ensures
