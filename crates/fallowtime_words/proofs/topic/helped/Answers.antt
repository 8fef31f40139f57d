use Rattle.fallowtime_words.proofs.TopicLemmas.{not_helped}
use Rattle.fallowtime_words.proofs.topic.helped.Goals as goal

pub returns-then-not-is_for_help : goal.returns-then-not-is_for_help
returns-then-not-is_for_help c = not_helped c.args.asking.now c.args.name.now c.is_for_help.result c.if-not-is_for_help.true c.is_for_help.ensures

pub returns : goal.returns
returns c = λ command. (
  λ e. (c.is_for_help.ensures.0 c.if-not-is_for_help.false, (c.from_word.ensures.named command).1 e),
  λ p. (c.from_word.ensures.named command).0 p.1,
)
