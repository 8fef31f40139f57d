use Rattle.std.proofs.Common.{map, refl, string_bytes}
use Rattle.serde_json.specs.View.{view as data_of}
use Rattle.bson_model.specs.View.{view}
use Rattle.store_model.specs.Reading.{ReadsTrees, read_value}
use Rattle.store_model.specs.State as model
use Rattle.bson_store.specs.Calls.{store_state}
use Rattle.bson_store.specs.declared.command.Command.TheVariants as commands
use Rattle.bson_store.specs.Refusals.{reply_by, as_done, as_number}
use Rattle.bson_store.proofs.RunLemmas.{leaves_many, leaves_one, leaves_tree, obeys, obeys_many, obeys_tree, reply_open}
use Rattle.bson_store.proofs.batch.execute.Goals as goal

pub returns-in-InsertJson-clause-moves : goal.returns-in-InsertJson-clause-moves
returns-in-InsertJson-clause-moves g c =
    rw c.in-InsertJson.is (obeys_tree (store_state g.S.Store c.args.store.now) (store_state g.S.Store c.insert_json.new.self) (commands.InsertJson c.in-InsertJson.name c.in-InsertJson.json) (string_bytes c.in-InsertJson.name) (data_of c.in-InsertJson.json) (model.insert model.in_json) c.done.result (reply_by as_done c.insert_json.result) (λ a h. (a, h, refl)) c.done.ensures (rw c.as_str.ensures.value at c.insert_json.ensures.moves))

pub returns-in-ReplaceJson-clause-moves : goal.returns-in-ReplaceJson-clause-moves
returns-in-ReplaceJson-clause-moves g c =
    rw c.in-ReplaceJson.is (obeys_tree (store_state g.S.Store c.args.store.now) (store_state g.S.Store c.replace_json.new.self) (commands.ReplaceJson c.in-ReplaceJson.name c.in-ReplaceJson.json) (string_bytes c.in-ReplaceJson.name) (data_of c.in-ReplaceJson.json) (model.replace model.in_json) c.done-in-ReplaceJson.result (reply_by as_done c.replace_json.result) (λ a h. (a, h, refl)) c.done-in-ReplaceJson.ensures (rw c.as_str-in-ReplaceJson.ensures.value at c.replace_json.ensures.moves))

pub returns-in-Set-clause-moves : goal.returns-in-Set-clause-moves
returns-in-Set-clause-moves g c =
    rw c.in-Set.is (obeys (store_state g.S.Store c.args.store.now) (store_state g.S.Store c.set.new.self) (commands.Set c.in-Set.name c.in-Set.id c.in-Set.key c.in-Set.value) (model.on (string_bytes c.in-Set.name) (model.set (view c.in-Set.id) (string_bytes c.in-Set.key) (read_value (data_of c.in-Set.value)))) c.done-in-Set.result (reply_by as_done c.set.result) refl c.done-in-Set.ensures (rw (c.as_str-in-Set-2.ensures.value, c.as_str-in-Set.ensures.value) at c.set.ensures.moves))

pub returns-in-LoadJson-clause-moves : goal.returns-in-LoadJson-clause-moves
returns-in-LoadJson-clause-moves g c =
    rw c.in-LoadJson.is (obeys_many (store_state g.S.Store c.args.store.now) (store_state g.S.Store c.load_json.new.self) (commands.LoadJson c.in-LoadJson.name c.in-LoadJson.trees) (string_bytes c.in-LoadJson.name) (ReadsTrees (map data_of c.in-LoadJson.trees.items)) c.counted.result (reply_by as_number c.load_json.result) (λ ds stop h. (ds, stop, h, refl)) c.counted.ensures (rw c.as_str-in-LoadJson.ensures.value at c.load_json.ensures.moves))

pub returns-in-InsertJson-clause-crash : goal.returns-in-InsertJson-clause-crash
returns-in-InsertJson-clause-crash g c =
    rw c.in-InsertJson.is (leaves_tree (store_state g.S.Store c.args.store.now) (store_state g.S.Store c.insert_json.new.self) (commands.InsertJson c.in-InsertJson.name c.in-InsertJson.json) (string_bytes c.in-InsertJson.name) (data_of c.in-InsertJson.json) (model.insert model.in_json) c.done.result (reply_by as_done c.insert_json.result) (λ d h. h) c.done.ensures (rw c.as_str.ensures.value at c.insert_json.ensures.crash))

pub returns-in-LoadJson-clause-crash : goal.returns-in-LoadJson-clause-crash
returns-in-LoadJson-clause-crash g c =
    rw c.in-LoadJson.is (leaves_many (store_state g.S.Store c.args.store.now) (store_state g.S.Store c.load_json.new.self) (commands.LoadJson c.in-LoadJson.name c.in-LoadJson.trees) (string_bytes c.in-LoadJson.name) (ReadsTrees (map data_of c.in-LoadJson.trees.items)) c.counted.result (reply_by as_number c.load_json.result) (λ d h. h) c.counted.ensures (rw c.as_str-in-LoadJson.ensures.value at c.load_json.ensures.crash))

pub returns-in-ReplaceJson-clause-crash : goal.returns-in-ReplaceJson-clause-crash
returns-in-ReplaceJson-clause-crash g c =
    rw c.in-ReplaceJson.is (leaves_tree (store_state g.S.Store c.args.store.now) (store_state g.S.Store c.replace_json.new.self) (commands.ReplaceJson c.in-ReplaceJson.name c.in-ReplaceJson.json) (string_bytes c.in-ReplaceJson.name) (data_of c.in-ReplaceJson.json) (model.replace model.in_json) c.done-in-ReplaceJson.result (reply_by as_done c.replace_json.result) (λ d h. h) c.done-in-ReplaceJson.ensures (rw c.as_str-in-ReplaceJson.ensures.value at c.replace_json.ensures.crash))

pub returns-in-Set-clause-crash : goal.returns-in-Set-clause-crash
returns-in-Set-clause-crash g c =
    rw c.in-Set.is (leaves_one (store_state g.S.Store c.args.store.now) (store_state g.S.Store c.set.new.self) (commands.Set c.in-Set.name c.in-Set.id c.in-Set.key c.in-Set.value) (model.on (string_bytes c.in-Set.name) (model.set (view c.in-Set.id) (string_bytes c.in-Set.key) (read_value (data_of c.in-Set.value)))) c.done-in-Set.result (reply_by as_done c.set.result) (λ d h. h) c.done-in-Set.ensures (rw (c.as_str-in-Set-2.ensures.value, c.as_str-in-Set.ensures.value) at c.set.ensures.crash))

pub returns-in-InsertJson-clause-open : goal.returns-in-InsertJson-clause-open
returns-in-InsertJson-clause-open g c = reply_open (store_state g.S.Store c.args.store.now) (store_state g.S.Store c.insert_json.new.self) as_done c.insert_json.result c.done.result c.done.ensures c.insert_json.ensures.open

pub returns-in-ReplaceJson-clause-open : goal.returns-in-ReplaceJson-clause-open
returns-in-ReplaceJson-clause-open g c = reply_open (store_state g.S.Store c.args.store.now) (store_state g.S.Store c.replace_json.new.self) as_done c.replace_json.result c.done-in-ReplaceJson.result c.done-in-ReplaceJson.ensures c.replace_json.ensures.open

pub returns-in-Set-clause-open : goal.returns-in-Set-clause-open
returns-in-Set-clause-open g c = reply_open (store_state g.S.Store c.args.store.now) (store_state g.S.Store c.set.new.self) as_done c.set.result c.done-in-Set.result c.done-in-Set.ensures c.set.ensures.open

pub returns-in-LoadJson-clause-open : goal.returns-in-LoadJson-clause-open
returns-in-LoadJson-clause-open g c = reply_open (store_state g.S.Store c.args.store.now) (store_state g.S.Store c.load_json.new.self) as_number c.load_json.result c.counted.result c.counted.ensures c.load_json.ensures.open
