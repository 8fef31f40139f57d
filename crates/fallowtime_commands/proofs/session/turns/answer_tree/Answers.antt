use Rattle.std.proofs.Common.{◌∙◌, None, ap, subst, sym}
use Rattle.std.proofs.lemmas.Result.{err_from_is_err_and}
use Rattle.json.specs.Value.{value_view}
use Rattle.bson_store.specs.Calls.{store_state}
use Rattle.fallowtime_commands.specs.Acts.{DoesOne}
use Rattle.fallowtime_commands.specs.Objects.{id_tree}
use Rattle.fallowtime_commands.specs.Questions.{command_in, id_of}
use Rattle.fallowtime_commands.specs.Turns.{Comes, IsOfTree, made_line}
use Rattle.fallowtime_commands.proofs.AnswerLemmas.{answered, nothing_read}
use Rattle.fallowtime_commands.proofs.session.turns.answer_tree.Goals as goal

pub returns-in_err-spare : goal.returns-in_err-spare
returns-in_err-spare g c =
    let p = err_from_is_err_and c.from_residual.result c.from_residual.ensures.1 in
    let s = store_state g.S.Store c.args.store.now in
    let m = c.args.maker.now in
    let tree = value_view c.args.tree.now in
    subst (λ r. DoesOne (Comes (IsOfTree m m (id_of tree) (command_in tree)) (made_line None r)) s s) (sym p.1) (nothing_read s m (id_of tree) (command_in tree))

pub returns-in-Ok : goal.returns-in-Ok
returns-in-Ok g c =
    let id = id_tree c.id_in-id.result in
    answered (store_state g.S.Store c.args.store.now) (store_state g.S.Store c.answer_command.new.store) c.args.maker.now c.answer_command.new.maker id (value_view c.command_of.result.now) (value_view c.args.tree.now) (made_line id c.answer_command.result) c.in-Ok.line.items
    c.id_in-id.ensures.id c.command_of.ensures (ap (made_line id) c.in-Ok.is) c.answer_command.ensures

pub returns-in-Err : goal.returns-in-Err
returns-in-Err g c =
    let id = id_tree c.id_in-id.result in
    answered (store_state g.S.Store c.args.store.now) (store_state g.S.Store c.answer_command.new.store) c.args.maker.now c.answer_command.new.maker id (value_view c.command_of.result.now) (value_view c.args.tree.now) (made_line id c.answer_command.result) c.in_ok-spare.spare.items
    c.id_in-id.ensures.id c.command_of.ensures (ap (made_line id) c.in-Err.is ∙ sym c.in_ok-spare.ensures) c.answer_command.ensures
