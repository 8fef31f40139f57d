use Rattle.fallowtime_words.proofs.CountLemmas.{one_more}
use Rattle.fallowtime_words.proofs.arguments.+word_count.Goals as goal

pub returns-in-len1-up-words-clause-only : goal.returns-in-len1-up-words-clause-only
returns-in-len1-up-words-clause-only t c =
    one_more c.args.arguments.now c.args.words.now c.word_count.result c.in-len1-up.len_at_least c.in-len1-up-words.len_at_least c.word_count.ensures.only
