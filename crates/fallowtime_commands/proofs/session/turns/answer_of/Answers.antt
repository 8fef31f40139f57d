use Rattle.std.proofs.Common.{◌≡◌, ◌∙◌, None, subst}
use Rattle.bson_store.specs.Calls.{store_state}
use Rattle.fallowtime_commands.specs.Acts.{DoesOne}
use Rattle.fallowtime_commands.specs.Turns.{Comes, IsOfText, made_line}
use Rattle.fallowtime_commands.proofs.AnswerLemmas.{kept_whole, long_is, overlong, unkept, whole_is}
use Rattle.fallowtime_commands.proofs.session.turns.answer_of.Goals as goal

pub returns-in-Whole : goal.returns-in-Whole
returns-in-Whole g c = λ text keeps.
    let s = store_state g.S.Store c.args.store.now in
    let t = store_state g.S.Store c.answer_bytes.new.store in
    let kept = whole_is c.args.line.now text keeps c.in-Whole.is in
    let same : c.as_slice.result.now ≡ text = c.as_slice.ensures.value ∙ kept.0 in
    let line = made_line None c.answer_bytes.result in
    kept_whole s t c.args.maker.now c.answer_bytes.new.maker text line kept.1 (subst (λ bytes. DoesOne (Comes (IsOfText c.args.maker.now c.answer_bytes.new.maker bytes) line) s t) same c.answer_bytes.ensures)

pub returns-in-TooLong : goal.returns-in-TooLong
returns-in-TooLong g c = λ text keeps.
    overlong (store_state g.S.Store c.args.store.now) c.args.maker.now text (long_is c.args.line.now text keeps c.in-TooLong.is) c.words_line.result c.words_line.ensures

pub returns-in-Memory : goal.returns-in-Memory
returns-in-Memory g c = λ text keeps. unkept (store_state g.S.Store c.args.store.now) c.args.maker.now text
