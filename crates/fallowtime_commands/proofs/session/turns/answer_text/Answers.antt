use Rattle.std.proofs.Common.{rules, ◌≡◌, None, IsUtf8}
use Rattle.json.specs.Json.{document as tree_of}
use Rattle.json.specs.Value.{value_view}
use Rattle.bson_store.specs.Calls.{store_state}
use Rattle.fallowtime_commands.specs.Turns.{HasTree, made_line}
use Rattle.fallowtime_commands.proofs.AnswerLemmas.{no_json, no_room, of_text, repeated}
use Rattle.fallowtime_commands.proofs.session.turns.answer_text.Goals as goal

pub returns-in-Ok : goal.returns-in-Ok
returns-in-Ok g c =
    let text = c.args.text.now in
    let tree : HasTree text (value_view c.in-Ok.tree) = search rules in
    of_text (store_state g.S.Store c.args.store.now) (store_state g.S.Store c.answer_tree.new.store) c.args.maker.now c.answer_tree.new.maker text (made_line None c.answer_tree.result) (value_view c.in-Ok.tree) tree c.answer_tree.ensures

pub returns-in-OutOfMemory : goal.returns-in-OutOfMemory
returns-in-OutOfMemory g c = no_room (store_state g.S.Store c.args.store.now) c.args.maker.now c.args.text.now

pub returns-in-DuplicateKey : goal.returns-in-DuplicateKey
returns-in-DuplicateKey g c = repeated (store_state g.S.Store c.args.store.now) c.args.maker.now c.args.text.now c.repeated_line.result c.repeated_line.ensures

pub returns-in_default : goal.returns-in_default
returns-in_default g c =
    let is : IsUtf8 c.args.text.now = search rules in
    let none : tree_of c.args.text.now ≡ None = search rules in
    no_json (store_state g.S.Store c.args.store.now) c.args.maker.now c.args.text.now c.no_json_line.result is none c.no_json_line.ensures
