use Rattle.std.proofs.Common.{refl, string_bytes}
use Rattle.store_question.specs.Filters.{filter_of, path_of}
use Rattle.bson_model.specs.View.{view}
use Rattle.store_model.specs.Reading.{ReadsStream}
use Rattle.store_model.specs.State as model
use Rattle.bson_store.specs.Calls.{store_state, store_connection}
use Rattle.bson_store.specs.declared.command.Command.TheVariants as commands
use Rattle.bson_store.specs.Questions.{as_list, as_names}
use Rattle.bson_store.specs.Refusals.{reply_by, as_done, as_flag, as_bytes, as_json, as_json_list, as_number}
use Rattle.bson_store.specs.Runs.{reply_of}
use Rattle.bson_store.proofs.CrashLemmas.{result_leaves}
use Rattle.bson_store.proofs.RunLemmas.{leaves_bytes, leaves_many, leaves_one, obeys, obeys_bytes, obeys_many, reply_open}
use Rattle.bson_store.proofs.batch.execute_lent.Goals as goal

pub returns-in-InsertRaw-clause-moves : goal.returns-in-InsertRaw-clause-moves
returns-in-InsertRaw-clause-moves g c =
    rw c.in-InsertRaw.is (obeys_bytes (store_state g.S.Store c.args.store.now) (store_state g.S.Store c.insert_raw.new.self) (commands.InsertRaw c.in-InsertRaw.name c.in-InsertRaw.bytes) (string_bytes c.in-InsertRaw.name) c.in-InsertRaw.bytes.items (model.insert model.in_bytes) c.done.result (reply_by as_done c.insert_raw.result) (λ a h. (a, h, refl)) c.done.ensures (rw (c.as_str.ensures.value, c.as_slice.ensures.value) at c.insert_raw.ensures.moves))

pub returns-in-ReplaceRaw-clause-moves : goal.returns-in-ReplaceRaw-clause-moves
returns-in-ReplaceRaw-clause-moves g c =
    rw c.in-ReplaceRaw.is (obeys_bytes (store_state g.S.Store c.args.store.now) (store_state g.S.Store c.replace_raw.new.self) (commands.ReplaceRaw c.in-ReplaceRaw.name c.in-ReplaceRaw.bytes) (string_bytes c.in-ReplaceRaw.name) c.in-ReplaceRaw.bytes.items (model.replace model.in_bytes) c.done-in-ReplaceRaw.result (reply_by as_done c.replace_raw.result) (λ a h. (a, h, refl)) c.done-in-ReplaceRaw.ensures (rw (c.as_str-in-ReplaceRaw.ensures.value, c.as_slice-in-ReplaceRaw.ensures.value) at c.replace_raw.ensures.moves))

pub returns-in-Unset-clause-moves : goal.returns-in-Unset-clause-moves
returns-in-Unset-clause-moves g c =
    rw c.in-Unset.is (obeys (store_state g.S.Store c.args.store.now) (store_state g.S.Store c.unset.new.self) (commands.Unset c.in-Unset.name c.in-Unset.id c.in-Unset.key) (model.on (string_bytes c.in-Unset.name) (model.unset (view c.in-Unset.id) (string_bytes c.in-Unset.key))) c.flag.result (reply_by as_flag c.unset.result) refl c.flag.ensures (rw (c.as_str-in-Unset-2.ensures.value, c.as_str-in-Unset.ensures.value) at c.unset.ensures.moves))

pub returns-in-Remove-clause-moves : goal.returns-in-Remove-clause-moves
returns-in-Remove-clause-moves g c =
    rw c.in-Remove.is (obeys (store_state g.S.Store c.args.store.now) (store_state g.S.Store c.remove.new.self) (commands.Remove c.in-Remove.name c.in-Remove.id) (model.on (string_bytes c.in-Remove.name) (model.remove (view c.in-Remove.id))) c.done-in-Remove.result (reply_by as_done c.remove.result) refl c.done-in-Remove.ensures (rw (c.as_str-in-Remove.ensures.value) at c.remove.ensures.moves))

pub returns-in-GetRaw-clause-moves : goal.returns-in-GetRaw-clause-moves
returns-in-GetRaw-clause-moves g c =
    rw c.in-GetRaw.is (obeys (store_state g.S.Store c.args.store.now) (store_state g.S.Store c.get_raw.new.self) (commands.GetRaw c.in-GetRaw.name c.in-GetRaw.id) (model.on (string_bytes c.in-GetRaw.name) (model.get_raw (view c.in-GetRaw.id))) c.bytes_reply.result (reply_by as_bytes c.get_raw.result) refl c.bytes_reply.ensures (rw (c.as_str-in-GetRaw.ensures.value) at c.get_raw.ensures.moves))

pub returns-in-GetJson-clause-moves : goal.returns-in-GetJson-clause-moves
returns-in-GetJson-clause-moves g c =
    rw c.in-GetJson.is (obeys (store_state g.S.Store c.args.store.now) (store_state g.S.Store c.get_json.new.self) (commands.GetJson c.in-GetJson.name c.in-GetJson.id c.in-GetJson.mode) (model.on (string_bytes c.in-GetJson.name) (model.get_json c.in-GetJson.mode (view c.in-GetJson.id))) c.json.result (reply_by as_json c.get_json.result) refl c.json.ensures (rw (c.as_str-in-GetJson.ensures.value) at c.get_json.ensures.moves))

pub returns-in-Export-clause-moves : goal.returns-in-Export-clause-moves
returns-in-Export-clause-moves g c =
    rw c.in-Export.is (obeys (store_state g.S.Store c.args.store.now) (store_state g.S.Store c.exported.new.store) (commands.Export c.in-Export.name) (model.on (string_bytes c.in-Export.name) model.export) c.exported.result (reply_of c.exported.result) refl refl (rw c.as_str-in-Export.ensures.value at c.exported.ensures.moves))

pub returns-in-Collections-clause-moves : goal.returns-in-Collections-clause-moves
returns-in-Collections-clause-moves g c =
    rw c.in-Collections.is (obeys (store_state g.S.Store c.args.store.now) (store_state g.S.Store c.collections.new.self) commands.Collections model.collections c.names.result (reply_by as_names c.collections.result) refl c.names.ensures c.collections.ensures.moves)

pub returns-in-Find-clause-moves : goal.returns-in-Find-clause-moves
returns-in-Find-clause-moves g c =
    rw c.in-Find.is (obeys (store_state g.S.Store c.args.store.now) (store_state g.S.Store c.find.new.self) (commands.Find c.in-Find.name c.in-Find.filter) (model.on (string_bytes c.in-Find.name) (model.find (filter_of c.in-Find.filter))) c.list.result (reply_by as_list c.find.result) refl c.list.ensures (rw c.as_str-in-Find.ensures.value at c.find.ensures.moves))

pub returns-in-Count-clause-moves : goal.returns-in-Count-clause-moves
returns-in-Count-clause-moves g c =
    rw c.in-Count.is (obeys (store_state g.S.Store c.args.store.now) (store_state g.S.Store c.count.new.self) (commands.Count c.in-Count.name c.in-Count.filter) (model.on (string_bytes c.in-Count.name) (model.count (filter_of c.in-Count.filter))) c.counted.result (reply_by as_number c.count.result) refl c.counted.ensures (rw c.as_str-in-Count.ensures.value at c.count.ensures.moves))

pub returns-in-Project-clause-moves : goal.returns-in-Project-clause-moves
returns-in-Project-clause-moves g c =
    rw c.in-Project.is (obeys (store_state g.S.Store c.args.store.now) (store_state g.S.Store c.project.new.self) (commands.Project c.in-Project.name c.in-Project.filter c.in-Project.keys) (model.on (string_bytes c.in-Project.name) (model.project (filter_of c.in-Project.filter) (path_of c.in-Project.keys.items))) c.list-in-Project.result (reply_by as_list c.project.result) refl c.list-in-Project.ensures (rw (c.as_slice-in-Project.ensures.value, c.as_str-in-Project.ensures.value) at c.project.ensures.moves))

pub returns-in-Import-clause-moves : goal.returns-in-Import-clause-moves
returns-in-Import-clause-moves g c =
    rw c.in-Import.is (obeys_many (store_state g.S.Store c.args.store.now) (store_state g.S.Store c.imported.new.store) (commands.Import c.in-Import.name c.in-Import.bytes) (string_bytes c.in-Import.name) (ReadsStream c.in-Import.bytes.items) c.imported.result (reply_of c.imported.result) (λ ds stop h. (ds, stop, h, refl)) refl (rw (c.as_str-in-Import.ensures.value, c.as_slice-in-Import.ensures.value) at c.imported.ensures.moves))

pub returns-in-DumpJson-clause-moves : goal.returns-in-DumpJson-clause-moves
returns-in-DumpJson-clause-moves g c =
    rw c.in-DumpJson.is (obeys (store_state g.S.Store c.args.store.now) (store_state g.S.Store c.dump_json.new.self) (commands.DumpJson c.in-DumpJson.name) (model.on (string_bytes c.in-DumpJson.name) model.dump) c.json_list.result (reply_by as_json_list c.dump_json.result) refl c.json_list.ensures (rw c.as_str-in-DumpJson.ensures.value at c.dump_json.ensures.moves))

pub returns-in-InsertRaw-clause-crash : goal.returns-in-InsertRaw-clause-crash
returns-in-InsertRaw-clause-crash g c =
    rw c.in-InsertRaw.is (leaves_bytes (store_state g.S.Store c.args.store.now) (store_state g.S.Store c.insert_raw.new.self) (commands.InsertRaw c.in-InsertRaw.name c.in-InsertRaw.bytes) (string_bytes c.in-InsertRaw.name) c.in-InsertRaw.bytes.items (model.insert model.in_bytes) c.done.result (reply_by as_done c.insert_raw.result) (λ d h. h) c.done.ensures (rw (c.as_str.ensures.value, c.as_slice.ensures.value) at c.insert_raw.ensures.crash))

pub returns-in-Import-clause-crash : goal.returns-in-Import-clause-crash
returns-in-Import-clause-crash g c =
    rw c.in-Import.is (leaves_many (store_state g.S.Store c.args.store.now) (store_state g.S.Store c.imported.new.store) (commands.Import c.in-Import.name c.in-Import.bytes) (string_bytes c.in-Import.name) (ReadsStream c.in-Import.bytes.items) c.imported.result (reply_of c.imported.result) (λ d h. h) refl (rw (c.as_str-in-Import.ensures.value, c.as_slice-in-Import.ensures.value) at c.imported.ensures.crash))

pub returns-in-ReplaceRaw-clause-crash : goal.returns-in-ReplaceRaw-clause-crash
returns-in-ReplaceRaw-clause-crash g c =
    rw c.in-ReplaceRaw.is (leaves_bytes (store_state g.S.Store c.args.store.now) (store_state g.S.Store c.replace_raw.new.self) (commands.ReplaceRaw c.in-ReplaceRaw.name c.in-ReplaceRaw.bytes) (string_bytes c.in-ReplaceRaw.name) c.in-ReplaceRaw.bytes.items (model.replace model.in_bytes) c.done-in-ReplaceRaw.result (reply_by as_done c.replace_raw.result) (λ d h. h) c.done-in-ReplaceRaw.ensures (rw (c.as_str-in-ReplaceRaw.ensures.value, c.as_slice-in-ReplaceRaw.ensures.value) at c.replace_raw.ensures.crash))

pub returns-in-Unset-clause-crash : goal.returns-in-Unset-clause-crash
returns-in-Unset-clause-crash g c =
    rw c.in-Unset.is (leaves_one (store_state g.S.Store c.args.store.now) (store_state g.S.Store c.unset.new.self) (commands.Unset c.in-Unset.name c.in-Unset.id c.in-Unset.key) (model.on (string_bytes c.in-Unset.name) (model.unset (view c.in-Unset.id) (string_bytes c.in-Unset.key))) c.flag.result (reply_by as_flag c.unset.result) (λ d h. h) c.flag.ensures (rw (c.as_str-in-Unset-2.ensures.value, c.as_str-in-Unset.ensures.value) at c.unset.ensures.crash))

pub returns-in-Remove-clause-crash : goal.returns-in-Remove-clause-crash
returns-in-Remove-clause-crash g c =
    rw c.in-Remove.is (leaves_one (store_state g.S.Store c.args.store.now) (store_state g.S.Store c.remove.new.self) (commands.Remove c.in-Remove.name c.in-Remove.id) (model.on (string_bytes c.in-Remove.name) (model.remove (view c.in-Remove.id))) c.done-in-Remove.result (reply_by as_done c.remove.result) (λ d h. h) c.done-in-Remove.ensures (rw (c.as_str-in-Remove.ensures.value) at c.remove.ensures.crash))

pub returns-in-Export-clause-crash : goal.returns-in-Export-clause-crash
returns-in-Export-clause-crash g c =
    rw c.in-Export.is (leaves_one (store_state g.S.Store c.args.store.now) (store_state g.S.Store c.exported.new.store) (commands.Export c.in-Export.name) (model.on (string_bytes c.in-Export.name) model.export) c.exported.result (reply_of c.exported.result) (λ d h. h) refl (rw c.as_str-in-Export.ensures.value at c.exported.ensures.crash))

pub returns-in-GetRaw-clause-crash : goal.returns-in-GetRaw-clause-crash
returns-in-GetRaw-clause-crash g c =
    rw c.in-GetRaw.is (leaves_one (store_state g.S.Store c.args.store.now) (store_state g.S.Store c.get_raw.new.self) (commands.GetRaw c.in-GetRaw.name c.in-GetRaw.id) (model.on (string_bytes c.in-GetRaw.name) (model.get_raw (view c.in-GetRaw.id))) c.bytes_reply.result (reply_by as_bytes c.get_raw.result) (λ d h. h) c.bytes_reply.ensures (result_leaves (store_state g.S.Store c.args.store.now) (store_state g.S.Store c.get_raw.new.self) (model.on (string_bytes c.in-GetRaw.name) (model.get_raw (view c.in-GetRaw.id))) c.get_raw.ensures.crash (λ db up may. g.met.S.Store.settled (store_connection c.get_raw.new.self).store db up may) as_bytes c.get_raw.result c.get_raw.ensures.open (rw (c.as_str-in-GetRaw.ensures.value) at c.get_raw.ensures.moves)))

pub returns-in-GetJson-clause-crash : goal.returns-in-GetJson-clause-crash
returns-in-GetJson-clause-crash g c =
    rw c.in-GetJson.is (leaves_one (store_state g.S.Store c.args.store.now) (store_state g.S.Store c.get_json.new.self) (commands.GetJson c.in-GetJson.name c.in-GetJson.id c.in-GetJson.mode) (model.on (string_bytes c.in-GetJson.name) (model.get_json c.in-GetJson.mode (view c.in-GetJson.id))) c.json.result (reply_by as_json c.get_json.result) (λ d h. h) c.json.ensures (result_leaves (store_state g.S.Store c.args.store.now) (store_state g.S.Store c.get_json.new.self) (model.on (string_bytes c.in-GetJson.name) (model.get_json c.in-GetJson.mode (view c.in-GetJson.id))) c.get_json.ensures.crash (λ db up may. g.met.S.Store.settled (store_connection c.get_json.new.self).store db up may) as_json c.get_json.result c.get_json.ensures.open (rw (c.as_str-in-GetJson.ensures.value) at c.get_json.ensures.moves)))

pub returns-in-Collections-clause-crash : goal.returns-in-Collections-clause-crash
returns-in-Collections-clause-crash g c =
    rw c.in-Collections.is (leaves_one (store_state g.S.Store c.args.store.now) (store_state g.S.Store c.collections.new.self) commands.Collections model.collections c.names.result (reply_by as_names c.collections.result) (λ d h. h) c.names.ensures (result_leaves (store_state g.S.Store c.args.store.now) (store_state g.S.Store c.collections.new.self) model.collections c.collections.ensures.crash (λ db up may. g.met.S.Store.settled (store_connection c.collections.new.self).store db up may) as_names c.collections.result c.collections.ensures.open c.collections.ensures.moves))

pub returns-in-Find-clause-crash : goal.returns-in-Find-clause-crash
returns-in-Find-clause-crash g c =
    rw c.in-Find.is (leaves_one (store_state g.S.Store c.args.store.now) (store_state g.S.Store c.find.new.self) (commands.Find c.in-Find.name c.in-Find.filter) (model.on (string_bytes c.in-Find.name) (model.find (filter_of c.in-Find.filter))) c.list.result (reply_by as_list c.find.result) (λ d h. h) c.list.ensures (result_leaves (store_state g.S.Store c.args.store.now) (store_state g.S.Store c.find.new.self) (model.on (string_bytes c.in-Find.name) (model.find (filter_of c.in-Find.filter))) c.find.ensures.crash (λ db up may. g.met.S.Store.settled (store_connection c.find.new.self).store db up may) as_list c.find.result c.find.ensures.open (rw c.as_str-in-Find.ensures.value at c.find.ensures.moves)))

pub returns-in-Count-clause-crash : goal.returns-in-Count-clause-crash
returns-in-Count-clause-crash g c =
    rw c.in-Count.is (leaves_one (store_state g.S.Store c.args.store.now) (store_state g.S.Store c.count.new.self) (commands.Count c.in-Count.name c.in-Count.filter) (model.on (string_bytes c.in-Count.name) (model.count (filter_of c.in-Count.filter))) c.counted.result (reply_by as_number c.count.result) (λ d h. h) c.counted.ensures (result_leaves (store_state g.S.Store c.args.store.now) (store_state g.S.Store c.count.new.self) (model.on (string_bytes c.in-Count.name) (model.count (filter_of c.in-Count.filter))) c.count.ensures.crash (λ db up may. g.met.S.Store.settled (store_connection c.count.new.self).store db up may) as_number c.count.result c.count.ensures.open (rw c.as_str-in-Count.ensures.value at c.count.ensures.moves)))

pub returns-in-Project-clause-crash : goal.returns-in-Project-clause-crash
returns-in-Project-clause-crash g c =
    rw c.in-Project.is (leaves_one (store_state g.S.Store c.args.store.now) (store_state g.S.Store c.project.new.self) (commands.Project c.in-Project.name c.in-Project.filter c.in-Project.keys) (model.on (string_bytes c.in-Project.name) (model.project (filter_of c.in-Project.filter) (path_of c.in-Project.keys.items))) c.list-in-Project.result (reply_by as_list c.project.result) (λ d h. h) c.list-in-Project.ensures (result_leaves (store_state g.S.Store c.args.store.now) (store_state g.S.Store c.project.new.self) (model.on (string_bytes c.in-Project.name) (model.project (filter_of c.in-Project.filter) (path_of c.in-Project.keys.items))) c.project.ensures.crash (λ db up may. g.met.S.Store.settled (store_connection c.project.new.self).store db up may) as_list c.project.result c.project.ensures.open (rw (c.as_slice-in-Project.ensures.value, c.as_str-in-Project.ensures.value) at c.project.ensures.moves)))

pub returns-in-DumpJson-clause-crash : goal.returns-in-DumpJson-clause-crash
returns-in-DumpJson-clause-crash g c =
    rw c.in-DumpJson.is (leaves_one (store_state g.S.Store c.args.store.now) (store_state g.S.Store c.dump_json.new.self) (commands.DumpJson c.in-DumpJson.name) (model.on (string_bytes c.in-DumpJson.name) model.dump) c.json_list.result (reply_by as_json_list c.dump_json.result) (λ d h. h) c.json_list.ensures (result_leaves (store_state g.S.Store c.args.store.now) (store_state g.S.Store c.dump_json.new.self) (model.on (string_bytes c.in-DumpJson.name) model.dump) c.dump_json.ensures.crash (λ db up may. g.met.S.Store.settled (store_connection c.dump_json.new.self).store db up may) as_json_list c.dump_json.result c.dump_json.ensures.open (rw c.as_str-in-DumpJson.ensures.value at c.dump_json.ensures.moves)))

pub returns-in-InsertRaw-clause-open : goal.returns-in-InsertRaw-clause-open
returns-in-InsertRaw-clause-open g c = reply_open (store_state g.S.Store c.args.store.now) (store_state g.S.Store c.insert_raw.new.self) as_done c.insert_raw.result c.done.result c.done.ensures c.insert_raw.ensures.open

pub returns-in-ReplaceRaw-clause-open : goal.returns-in-ReplaceRaw-clause-open
returns-in-ReplaceRaw-clause-open g c = reply_open (store_state g.S.Store c.args.store.now) (store_state g.S.Store c.replace_raw.new.self) as_done c.replace_raw.result c.done-in-ReplaceRaw.result c.done-in-ReplaceRaw.ensures c.replace_raw.ensures.open

pub returns-in-Unset-clause-open : goal.returns-in-Unset-clause-open
returns-in-Unset-clause-open g c = reply_open (store_state g.S.Store c.args.store.now) (store_state g.S.Store c.unset.new.self) as_flag c.unset.result c.flag.result c.flag.ensures c.unset.ensures.open

pub returns-in-Remove-clause-open : goal.returns-in-Remove-clause-open
returns-in-Remove-clause-open g c = reply_open (store_state g.S.Store c.args.store.now) (store_state g.S.Store c.remove.new.self) as_done c.remove.result c.done-in-Remove.result c.done-in-Remove.ensures c.remove.ensures.open

pub returns-in-GetRaw-clause-open : goal.returns-in-GetRaw-clause-open
returns-in-GetRaw-clause-open g c = reply_open (store_state g.S.Store c.args.store.now) (store_state g.S.Store c.get_raw.new.self) as_bytes c.get_raw.result c.bytes_reply.result c.bytes_reply.ensures c.get_raw.ensures.open

pub returns-in-GetJson-clause-open : goal.returns-in-GetJson-clause-open
returns-in-GetJson-clause-open g c = reply_open (store_state g.S.Store c.args.store.now) (store_state g.S.Store c.get_json.new.self) as_json c.get_json.result c.json.result c.json.ensures c.get_json.ensures.open

pub returns-in-Export-clause-open : goal.returns-in-Export-clause-open
returns-in-Export-clause-open g c = c.exported.ensures.open

pub returns-in-Collections-clause-open : goal.returns-in-Collections-clause-open
returns-in-Collections-clause-open g c = reply_open (store_state g.S.Store c.args.store.now) (store_state g.S.Store c.collections.new.self) as_names c.collections.result c.names.result c.names.ensures c.collections.ensures.open

pub returns-in-Find-clause-open : goal.returns-in-Find-clause-open
returns-in-Find-clause-open g c = reply_open (store_state g.S.Store c.args.store.now) (store_state g.S.Store c.find.new.self) as_list c.find.result c.list.result c.list.ensures c.find.ensures.open

pub returns-in-Count-clause-open : goal.returns-in-Count-clause-open
returns-in-Count-clause-open g c = reply_open (store_state g.S.Store c.args.store.now) (store_state g.S.Store c.count.new.self) as_number c.count.result c.counted.result c.counted.ensures c.count.ensures.open

pub returns-in-Project-clause-open : goal.returns-in-Project-clause-open
returns-in-Project-clause-open g c = reply_open (store_state g.S.Store c.args.store.now) (store_state g.S.Store c.project.new.self) as_list c.project.result c.list-in-Project.result c.list-in-Project.ensures c.project.ensures.open

pub returns-in-Import-clause-open : goal.returns-in-Import-clause-open
returns-in-Import-clause-open g c = c.imported.ensures.open

pub returns-in-DumpJson-clause-open : goal.returns-in-DumpJson-clause-open
returns-in-DumpJson-clause-open g c = reply_open (store_state g.S.Store c.args.store.now) (store_state g.S.Store c.dump_json.new.self) as_json_list c.dump_json.result c.json_list.result c.json_list.ensures c.dump_json.ensures.open
