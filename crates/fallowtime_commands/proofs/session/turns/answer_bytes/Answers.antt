use Rattle.std.proofs.Common.{None, subst, sym}
use Rattle.std.specs.Str.{IsValidUpTo}
use Rattle.bson_store.specs.Calls.{store_state}
use Rattle.fallowtime_commands.specs.Acts.{DoesOne}
use Rattle.fallowtime_commands.specs.Turns.{Comes, IsOfText, made_line}
use Rattle.fallowtime_commands.proofs.AnswerLemmas.{no_text}
use Rattle.fallowtime_commands.proofs.session.turns.answer_bytes.Goals as goal

pub returns-in-Ok : goal.returns-in-Ok
returns-in-Ok g c =
    let s = store_state g.S.Store c.args.store.now in
    let t = store_state g.S.Store c.answer_text.new.store in
    subst (λ bytes. DoesOne (Comes (IsOfText c.args.maker.now c.answer_text.new.maker bytes) (made_line None c.answer_text.result)) s t) c.in-Ok.ensures.cases.0 c.answer_text.ensures

pub returns-in-Err : goal.returns-in-Err
returns-in-Err g c =
    no_text (store_state g.S.Store c.args.store.now) c.args.maker.now c.args.bytes.now c.valid_up_to.result (subst (IsValidUpTo c.args.bytes.now) (sym c.valid_up_to.ensures) c.in-Err.ensures.cases.1) c.words_line.result c.words_line.ensures
