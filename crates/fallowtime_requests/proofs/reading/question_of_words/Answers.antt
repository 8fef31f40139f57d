use Rattle.std.proofs.Common.{arith, sym}
use Rattle.fallowtime_requests.proofs.InputLemmas.{four_asked, none_asked, of_text, one_asked, three_asked, too_many_texts, two_asked}
use Rattle.fallowtime_requests.proofs.reading.question_of_words.Goals as goal

pub returns-in-empty-clause-asked : goal.returns-in-empty-clause-asked
returns-in-empty-clause-asked c =
    none_asked of_text c.args.maker.now c.ask_none.new.maker c.args.command c.ask_none.result c.args.words.now (omega (arith, c.in-empty.len_below)) c.ask_none.ensures.asked

pub returns-in-len1-clause-asked : goal.returns-in-len1-clause-asked
returns-in-len1-clause-asked c =
    one_asked of_text c.args.maker.now c.ask_one.new.maker c.args.command c.ask_one.result c.args.words.now c.a-item.result c.of_word.result (omega (arith, c.in-len1.len_at_least, c.in-len1.len_below)) (sym c.a-item.is) c.of_word.ensures c.ask_one.ensures.asked

pub returns-in-len2-clause-asked : goal.returns-in-len2-clause-asked
returns-in-len2-clause-asked c =
    two_asked of_text c.args.maker.now c.ask_two.new.maker c.args.command c.ask_two.result c.args.words.now c.a-item-then-words-lt3.result c.b-item.result c.of_word-in-len2.result c.of_word-in-len2-2.result (omega (arith, c.in-len2.len_at_least, c.in-len2.len_below)) (sym c.a-item-then-words-lt3.is) (sym c.b-item.is) c.of_word-in-len2.ensures c.of_word-in-len2-2.ensures c.ask_two.ensures.asked

pub returns-in-len3-clause-asked : goal.returns-in-len3-clause-asked
returns-in-len3-clause-asked c =
    three_asked of_text c.args.maker.now c.ask_three.new.maker c.args.command c.ask_three.result c.args.words.now c.a-item-then-words-lt4.result c.b-item-then-words-lt4.result c.c-item.result c.of_word-in-len3.result c.of_word-in-len3-2.result c.of_word-in-len3-3.result (omega (arith, c.in-len3.len_at_least, c.in-len3.len_below)) (sym c.a-item-then-words-lt4.is) (sym c.b-item-then-words-lt4.is) (sym c.c-item.is) c.of_word-in-len3.ensures c.of_word-in-len3-2.ensures c.of_word-in-len3-3.ensures c.ask_three.ensures.asked

pub returns-in-len4-clause-asked : goal.returns-in-len4-clause-asked
returns-in-len4-clause-asked c =
    four_asked of_text c.args.maker.now c.ask_four.new.maker c.args.command c.ask_four.result c.args.words.now c.a-item-then-words-lt5.result c.b-item-then-words-lt5.result c.c-item-then-words-lt5.result c.d-item.result c.of_word-in-len4.result c.of_word-in-len4-2.result c.of_word-in-len4-3.result c.of_word-in-len4-4.result (omega (arith, c.in-len4.len_at_least, c.in-len4.len_below)) (sym c.a-item-then-words-lt5.is) (sym c.b-item-then-words-lt5.is) (sym c.c-item-then-words-lt5.is) (sym c.d-item.is) c.of_word-in-len4.ensures c.of_word-in-len4-2.ensures c.of_word-in-len4-3.ensures c.of_word-in-len4-4.ensures c.ask_four.ensures.asked

pub returns-in_default-clause-asked : goal.returns-in_default-clause-asked
returns-in_default-clause-asked c = rw c.beyond.ensures (too_many_texts c.args.maker.now c.args.command c.args.words.now (omega (arith, c.in_default.len_at_least)))
