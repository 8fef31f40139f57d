use Rattle.std.proofs.Common.{◌∷◌, [], refl, sym, ◌∙◌, ap}
use Rattle.fallowtime_words.proofs.TopicLemmas.{no_topic_of_one, not_both}
use Rattle.fallowtime_words.proofs.topic.topic_of_one.Goals as goal

pub returns-in-text : goal.returns-in-text
returns-in-text c = ap (λ w. w ∷ []) c.in-text.is

pub returns-in-version : goal.returns-in-version
returns-in-version c = ap (λ w. w ∷ []) c.in-version.is

pub returns-in_default : goal.returns-in_default
returns-in_default c = (c.args.word.now, refl, c.is_for_help.ensures.0 c.if-is_for_help.true)

pub returns-in_default-2 : goal.returns-in_default-2
returns-in_default-2 c =
    no_topic_of_one c.args.word.now c.in_default.not-text c.in_default.not-version (λ h. not_both (sym c.if-is_for_help.false ∙ c.is_for_help.ensures.1 h))
