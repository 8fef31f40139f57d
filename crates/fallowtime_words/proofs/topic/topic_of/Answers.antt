use Rattle.fallowtime_words.proofs.TopicLemmas.{told_of_one, told_of_two, told_of_three, no_word, many_words}
use Rattle.fallowtime_words.proofs.topic.topic_of.Goals as goal

pub returns-in-len1 : goal.returns-in-len1
returns-in-len1 c = told_of_one c.args.words.now c.word-item.result c.as_str.result.now c.topic_of_one.result
    c.in-len1.len_at_least c.in-len1.len_below c.word-item.is c.as_str.ensures.value c.topic_of_one.ensures

pub returns-in-len2 : goal.returns-in-len2
returns-in-len2 c = told_of_two c.args.words.now c.first-item.result c.second-item.result c.as_str-in-len2.result.now c.as_str-in-len2-2.result.now c.topic_of_two.result
    c.in-len2.len_at_least c.in-len2.len_below c.first-item.is c.second-item.is c.as_str-in-len2.ensures.value c.as_str-in-len2-2.ensures.value c.topic_of_two.ensures

pub returns-in-len3 : goal.returns-in-len3
returns-in-len3 c = told_of_three c.args.words.now c.first-item-then-words-lt4.result c.kind-item.result c.as_str-in-len3.result.now c.as_str-in-len3-2.result.now
    c.topic_of_three.result c.in-len3.len_at_least c.in-len3.len_below c.first-item-then-words-lt4.is c.kind-item.is c.as_str-in-len3.ensures.value
    c.as_str-in-len3-2.ensures.value c.topic_of_three.ensures

pub returns-in-empty : goal.returns-in-empty
returns-in-empty c = no_word c.args.words.now c.in-empty.len_below

pub returns-in-len4-up : goal.returns-in-len4-up
returns-in-len4-up c = many_words c.args.words.now c.in-len4-up.len_at_least
