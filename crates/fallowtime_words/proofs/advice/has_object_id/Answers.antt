use Rattle.fallowtime_words.proofs.WordLemmas.{no_second, second_is}
use Rattle.fallowtime_words.proofs.advice.has_object_id.Goals as goal

pub returns-in_default : goal.returns-in_default
returns-in_default c = no_second c.args.words.now c.in_default.len_below

pub returns-in-len2-up : goal.returns-in-len2-up
returns-in-len2-up c = second_is c.args.words.now c.id-item.result c.as_str.result.now c.is_object_id.result c.in-len2-up.len_at_least c.id-item.is
    c.as_str.ensures.value c.is_object_id.ensures
