use Rattle.fallowtime_words.proofs.PadLemmas.{all_is_front}
use Rattle.fallowtime_words.proofs.hint.front_of.Goals as goal

pub returns-in-None : goal.returns-in-None
returns-in-None c = all_is_front c.as_bytes-bytes.result.now c.args.word.now c.as_bytes-bytes.ensures.value c.in-None.ensures.lookup.0
