use Rattle.std.proofs.Common.{refl, sym, ◌∙◌}
use Rattle.fallowtime_words.proofs.TopicLemmas.{not_both}
use Rattle.fallowtime_words.proofs.advice.advice_on_id.Goals as goal

pub returns-then-has_object_id : goal.returns-then-has_object_id
returns-then-has_object_id c = λ h. refl

pub returns : goal.returns
returns c = λ h. absurd (not_both (sym c.if-has_object_id.false ∙ c.has_object_id.ensures.1 h))
