use Rattle.std.proofs.Common.{◌≡◌, [], inl, map, string_bytes, refl, sym, subst}
use Rattle.serde_json.specs.View.{view as data_of}
use Rattle.bson_base.specs.Device.{Feed, Tally}
use Rattle.bson_model.specs.View.{view}
use Rattle.bson_store.specs.Calls.{store_state}
use Rattle.bson_store.specs.Questions.{as_list, as_names}
use Rattle.bson_store.specs.Refusals as store
use Rattle.store_question.specs.Filters.{filter_of}
use Rattle.store_model.specs.Reading as model_reading
use Rattle.store_model.specs.State as model
use Rattle.store_model.specs.declared.error.ErrorKind.TheVariants.{Reader, Writer}
use Rattle.cli_commands.specs.Words.{Takes}
use Rattle.cli_commands.specs.declared.call.Call.TheVariants as words
use Rattle.cli_commands.specs.Answers as answers
use Rattle.cli_commands.specs.Commands.{AsksFor, IsCommandOf, IsIdText, IsOfStream}
use Rattle.cli_commands.specs.Execute.{IsFailure}
use Rattle.cli_commands.specs.Requests.{IsRequestOf, IsTreeText, text_at}
use Rattle.cli_commands.proofs.EndLemmas.{as_asked, failed_write, got_prints, imported_asked, loaded_asked, number_unprinted, plain, planted}
use Rattle.cli_commands.proofs.DeviceLemmas.{dump_reports, export_reports, import_reports, reports, still}
use Rattle.cli_commands.proofs.CrashLemmas.{LeavesLine, answered_open, call_leaves, of_change, printed, printed_open, stream_leaves, tree_leaves, with_line}
use Rattle.cli_commands.proofs.InputLemmas.{spares_import, spares_load, spares_same}
use Rattle.cli_commands.proofs.TakeLemmas.{import_performs}
use Rattle.cli_commands.proofs.WordLemmas.{of_filter, of_tree, of_id, of_get, of_set, of_unset, some_texts}
use Rattle.cli_commands.proofs.program.perform.Goals as goal

pub returns-in-Insert-clause-step : goal.returns-in-Insert-clause-step
returns-in-Insert-clause-step g c =
    let w = c.args.words.now in
    let n = w.coll.now in
    let texts = map string_bytes w.rest.now in
    let fed : Feed = g.I.Source.feed c.args.input.now in
    let old : Tally = g.O.Sink.tally c.args.output.now in
    let new : Tally = g.O.Sink.tally c.print_outcome.new.output in
    let asked = subst (IsRequestOf w) c.in-Insert.is c.requires.request in
    let takes = subst (λ x. Takes x texts) asked.0 asked.1 in
    planted (store_state g.S.Store c.args.store.now) (store_state g.S.Store c.insert.new.store) words.Insert w.call n texts fed old new (model.insert model.in_json) (data_of c.take.result) store.as_done answers.as_nothing c.insert.result c.nothing-outcome.result c.print_outcome.result
    asked.0 takes (λ x h. h) (λ y e a b done why. inl why) (λ a. tt) (of_tree (model.insert model.in_json) n texts c.take.result takes (subst (IsTreeText (text_at texts 0)) (sym c.take.ensures.taken) asked.2)) (λ x no. no) (λ x. refl) c.nothing-outcome.ensures c.print_outcome.ensures.told c.print_outcome.ensures.printed c.insert.ensures.moves

pub returns-in-Replace-clause-step : goal.returns-in-Replace-clause-step
returns-in-Replace-clause-step g c =
    let w = c.args.words.now in
    let n = w.coll.now in
    let texts = map string_bytes w.rest.now in
    let fed : Feed = g.I.Source.feed c.args.input.now in
    let old : Tally = g.O.Sink.tally c.args.output.now in
    let new : Tally = g.O.Sink.tally c.print_outcome-in-Replace.new.output in
    let asked = subst (IsRequestOf w) c.in-Replace.is c.requires.request in
    let takes = subst (λ x. Takes x texts) asked.0 asked.1 in
    planted (store_state g.S.Store c.args.store.now) (store_state g.S.Store c.replace_json.new.self) words.Replace w.call n texts fed old new (model.replace model.in_json) (data_of c.take-in-Replace.result) store.as_done answers.as_nothing c.replace_json.result c.nothing-outcome-in-Replace.result c.print_outcome-in-Replace.result
    asked.0 takes (λ x h. h) (λ y e a b done why. inl why) (λ a. tt) (of_tree (model.replace model.in_json) n texts c.take-in-Replace.result takes (subst (IsTreeText (text_at texts 0)) (sym c.take-in-Replace.ensures.taken) asked.2)) (λ x no. no) (λ x. refl) c.nothing-outcome-in-Replace.ensures c.print_outcome-in-Replace.ensures.told c.print_outcome-in-Replace.ensures.printed c.replace_json.ensures.moves

pub returns-in-Get-clause-step : goal.returns-in-Get-clause-step
returns-in-Get-clause-step g c =
    let w = c.args.words.now in
    let n = w.coll.now in
    let texts = map string_bytes w.rest.now in
    let fed : Feed = g.I.Source.feed c.args.input.now in
    let old : Tally = g.O.Sink.tally c.args.output.now in
    let new : Tally = g.O.Sink.tally c.print_outcome-in-Get.new.output in
    let asked = subst (IsRequestOf w) c.in-Get.is c.requires.request in
    let takes = subst (λ x. Takes x texts) asked.0 asked.1 in
    plain (store_state g.S.Store c.args.store.now) (store_state g.S.Store c.get_json.new.self) words.Get w.call n texts fed old new (model.on n (model.get_json c.in-Get.mode (view c.in-Get.id))) store.as_json answers.as_tree c.get_json.result c.tree.result c.print_outcome-in-Get.result
    asked.0 takes (λ x h. h) (λ y e a b done why. got_prints n texts old.failures new.failures e a b done why) (λ a. tt) (of_get n texts (view c.in-Get.id) c.in-Get.mode takes asked.2) (λ x no. no) (λ x. refl) c.tree.ensures c.print_outcome-in-Get.ensures.told c.print_outcome-in-Get.ensures.printed c.get_json.ensures.moves

pub returns-in-Set-clause-step : goal.returns-in-Set-clause-step
returns-in-Set-clause-step g c =
    let w = c.args.words.now in
    let n = w.coll.now in
    let texts = map string_bytes w.rest.now in
    let fed : Feed = g.I.Source.feed c.args.input.now in
    let old : Tally = g.O.Sink.tally c.args.output.now in
    let new : Tally = g.O.Sink.tally c.print_outcome-in-Set.new.output in
    let asked = subst (IsRequestOf w) c.in-Set.is c.requires.request in
    let takes = subst (λ x. Takes x texts) asked.0 asked.1 in
    let read = subst (λ j. IsIdText (text_at texts 0) (view c.in-Set.id) × (c.in-Set.key.now ≡ text_at texts 1) × IsTreeText (text_at texts 2) j) (sym c.take-in-Set.ensures.taken) asked.2 in
    plain (store_state g.S.Store c.args.store.now) (store_state g.S.Store c.set.new.self) words.Set w.call n texts fed old new (model.on n (model.set (view c.in-Set.id) c.in-Set.key.now (model_reading.read_value (data_of c.take-in-Set.result)))) store.as_done answers.as_nothing c.set.result c.nothing-outcome-in-Set.result c.print_outcome-in-Set.result
    asked.0 takes (λ x h. h) (λ y e a b done why. inl why) (λ a. tt) (of_set n texts (view c.in-Set.id) c.in-Set.key.now c.take-in-Set.result takes read) (λ x no. no) (λ x. refl) c.nothing-outcome-in-Set.ensures c.print_outcome-in-Set.ensures.told c.print_outcome-in-Set.ensures.printed c.set.ensures.moves

pub returns-in-Unset-clause-step : goal.returns-in-Unset-clause-step
returns-in-Unset-clause-step g c =
    let w = c.args.words.now in
    let n = w.coll.now in
    let texts = map string_bytes w.rest.now in
    let fed : Feed = g.I.Source.feed c.args.input.now in
    let old : Tally = g.O.Sink.tally c.args.output.now in
    let new : Tally = g.O.Sink.tally c.print_outcome-in-Unset.new.output in
    let asked = subst (IsRequestOf w) c.in-Unset.is c.requires.request in
    let takes = subst (λ x. Takes x texts) asked.0 asked.1 in
    plain (store_state g.S.Store c.args.store.now) (store_state g.S.Store c.unset.new.self) words.Unset w.call n texts fed old new (model.on n (model.unset (view c.in-Unset.id) c.in-Unset.key.now)) store.as_flag answers.flag_answer c.unset.result c.flag.result c.print_outcome-in-Unset.result
    asked.0 takes (λ x h. h) (λ y e a b done why. inl why) (λ a. tt) (of_unset n texts (view c.in-Unset.id) c.in-Unset.key.now takes asked.2) (λ x no. no) (λ x. refl) c.flag.ensures c.print_outcome-in-Unset.ensures.told c.print_outcome-in-Unset.ensures.printed c.unset.ensures.moves

pub returns-in-Remove-clause-step : goal.returns-in-Remove-clause-step
returns-in-Remove-clause-step g c =
    let w = c.args.words.now in
    let n = w.coll.now in
    let texts = map string_bytes w.rest.now in
    let fed : Feed = g.I.Source.feed c.args.input.now in
    let old : Tally = g.O.Sink.tally c.args.output.now in
    let new : Tally = g.O.Sink.tally c.print_outcome-in-Remove.new.output in
    let asked = subst (IsRequestOf w) c.in-Remove.is c.requires.request in
    let takes = subst (λ x. Takes x texts) asked.0 asked.1 in
    plain (store_state g.S.Store c.args.store.now) (store_state g.S.Store c.remove.new.self) words.Remove w.call n texts fed old new (model.on n (model.remove (view c.in-Remove.id))) store.as_done answers.as_nothing c.remove.result c.nothing.result c.print_outcome-in-Remove.result
    asked.0 takes (λ x h. h) (λ y e a b done why. inl why) (λ a. tt) (of_id (λ id more. model.remove id) n texts (view c.in-Remove.id) (some_texts 0 texts takes) asked.2) (λ x no. no) (λ x. refl) c.nothing.ensures c.print_outcome-in-Remove.ensures.told c.print_outcome-in-Remove.ensures.printed c.remove.ensures.moves

pub returns-in-Find-clause-step : goal.returns-in-Find-clause-step
returns-in-Find-clause-step g c =
    let w = c.args.words.now in
    let n = w.coll.now in
    let texts = map string_bytes w.rest.now in
    let fed : Feed = g.I.Source.feed c.args.input.now in
    let old : Tally = g.O.Sink.tally c.args.output.now in
    let new : Tally = g.O.Sink.tally c.print_outcome-in-Find.new.output in
    let asked = subst (IsRequestOf w) c.in-Find.is c.requires.request in
    let takes = subst (λ x. Takes x texts) asked.0 asked.1 in
    plain (store_state g.S.Store c.args.store.now) (store_state g.S.Store c.find.new.self) words.Find w.call n texts fed old new (model.on n (model.find (filter_of c.in-Find.filter))) as_list answers.as_documents c.find.result c.documents.result c.print_outcome-in-Find.result
    asked.0 takes (λ x h. h) (λ y e a b done why. inl why) (λ a. tt) (of_filter model.find n texts (filter_of c.in-Find.filter) takes asked.2) (λ x no. no) (λ x. refl) c.documents.ensures c.print_outcome-in-Find.ensures.told c.print_outcome-in-Find.ensures.printed c.find.ensures.moves

pub returns-in-Count-clause-step : goal.returns-in-Count-clause-step
returns-in-Count-clause-step g c =
    let w = c.args.words.now in
    let n = w.coll.now in
    let texts = map string_bytes w.rest.now in
    let fed : Feed = g.I.Source.feed c.args.input.now in
    let old : Tally = g.O.Sink.tally c.args.output.now in
    let new : Tally = g.O.Sink.tally c.print_outcome-in-Count.new.output in
    let asked = subst (IsRequestOf w) c.in-Count.is c.requires.request in
    let takes = subst (λ x. Takes x texts) asked.0 asked.1 in
    plain (store_state g.S.Store c.args.store.now) (store_state g.S.Store c.count.new.self) words.Count w.call n texts fed old new (model.on n (model.count (filter_of c.in-Count.filter))) store.as_number answers.number_answer c.count.result c.number.result c.print_outcome-in-Count.result
    asked.0 takes (λ x h. h) (λ y e a b done why. inl why) (λ a. tt) (of_filter model.count n texts (filter_of c.in-Count.filter) takes asked.2) (λ x no. no) (λ x. refl) c.number.ensures c.print_outcome-in-Count.ensures.told c.print_outcome-in-Count.ensures.printed c.count.ensures.moves

pub returns-in-Collections-clause-step : goal.returns-in-Collections-clause-step
returns-in-Collections-clause-step g c =
    let w = c.args.words.now in
    let n = w.coll.now in
    let texts = map string_bytes w.rest.now in
    let fed : Feed = g.I.Source.feed c.args.input.now in
    let old : Tally = g.O.Sink.tally c.args.output.now in
    let new : Tally = g.O.Sink.tally c.print_outcome-in-Collections.new.output in
    let asked = subst (IsRequestOf w) c.in-Collections.is c.requires.request in
    let takes = subst (λ x. Takes x texts) asked.0 asked.1 in
    plain (store_state g.S.Store c.args.store.now) (store_state g.S.Store c.collections.new.self) words.Collections w.call n texts fed old new model.collections as_names answers.names_answer c.collections.result c.names.result c.print_outcome-in-Collections.result
    asked.0 takes (λ x h. h) (λ y e a b done why. inl why) (λ a. tt) (refl) (λ x no. no) (λ x. refl) c.names.ensures c.print_outcome-in-Collections.ensures.told c.print_outcome-in-Collections.ensures.printed c.collections.ensures.moves

pub returns-in-Export-clause-step : goal.returns-in-Export-clause-step
returns-in-Export-clause-step g c =
    let w = c.args.words.now in
    let texts = map string_bytes w.rest.now in
    let fed : Feed = g.I.Source.feed c.args.input.now in
    let old : Tally = g.O.Sink.tally c.args.output.now in
    let new : Tally = g.O.Sink.tally c.export.new.output in
    let asked = subst (IsRequestOf w) c.in-Export.is c.requires.request in
    as_asked (store_state g.S.Store c.args.store.now) (store_state g.S.Store c.export.new.store) words.Export w.call w.coll.now texts fed old new c.export.result asked.0 (subst (λ x. Takes x texts) asked.0 asked.1) (c.export.ensures.step fed)

pub returns-in-Dump-clause-step : goal.returns-in-Dump-clause-step
returns-in-Dump-clause-step g c =
    let w = c.args.words.now in
    let texts = map string_bytes w.rest.now in
    let fed : Feed = g.I.Source.feed c.args.input.now in
    let old : Tally = g.O.Sink.tally c.args.output.now in
    let new : Tally = g.O.Sink.tally c.dump.new.output in
    let asked = subst (IsRequestOf w) c.in-Dump.is c.requires.request in
    as_asked (store_state g.S.Store c.args.store.now) (store_state g.S.Store c.dump.new.store) words.Dump w.call w.coll.now texts fed old new c.dump.result asked.0 (subst (λ x. Takes x texts) asked.0 asked.1) (c.dump.ensures.step fed)

pub returns-in-Import-clause-step : goal.returns-in-Import-clause-step
returns-in-Import-clause-step g c =
    let w = c.args.words.now in
    let n = w.coll.now in
    let texts = map string_bytes w.rest.now in
    let fed : Feed = g.I.Source.feed c.args.input.now in
    let old : Tally = g.O.Sink.tally c.args.output.now in
    let left : Feed = g.I.Source.feed c.import.new.reader in
    let new : Tally = g.O.Sink.tally c.print_outcome-in-Import.new.output in
    let asked = subst (IsRequestOf w) c.in-Import.is c.requires.request in
    let s = store_state g.S.Store c.args.store.now in
    let t = store_state g.S.Store c.import.new.self in
    imported_asked s t w.call n texts fed left old new c.import.result c.number-in-Import.result c.print_outcome-in-Import.result asked.0 (subst (λ x. Takes x texts) asked.0 asked.1) c.number-in-Import.ensures c.print_outcome-in-Import.ensures.told c.print_outcome-in-Import.ensures.printed
    (import_performs s t n fed left c.import.result c.number-in-Import.result c.number-in-Import.ensures c.import.ensures.moves)

pub returns-in-Load-clause-step : goal.returns-in-Load-clause-step
returns-in-Load-clause-step g c =
    let w = c.args.words.now in
    let n = w.coll.now in
    let texts = map string_bytes w.rest.now in
    let fed : Feed = g.I.Source.feed c.args.input.now in
    let old : Tally = g.O.Sink.tally c.args.output.now in
    let left : Feed = g.I.Source.feed c.load.new.input in
    let new : Tally = g.O.Sink.tally c.print_outcome-in-Load.new.output in
    let asked = subst (IsRequestOf w) c.in-Load.is c.requires.request in
    loaded_asked (store_state g.S.Store c.args.store.now) (store_state g.S.Store c.load.new.store) w.call n texts fed left old new c.load.result c.print_outcome-in-Load.result asked.0 (subst (λ x. Takes x texts) asked.0 asked.1)
    c.load.ensures.number c.print_outcome-in-Load.ensures.told c.print_outcome-in-Load.ensures.printed c.load.ensures.moves

pub returns-in-Insert-clause-crash : goal.returns-in-Insert-clause-crash
returns-in-Insert-clause-crash g c =
    let w = c.args.words.now in
    let n = w.coll.now in
    let texts = map string_bytes w.rest.now in
    let fed : Feed = g.I.Source.feed c.args.input.now in
    let old : Tally = g.O.Sink.tally c.args.output.now in
    let s = store_state g.S.Store c.args.store.now in
    let t = store_state g.S.Store c.insert.new.store in
    let new : Tally = g.O.Sink.tally c.print_outcome.new.output in
    let asked = subst (IsRequestOf w) c.in-Insert.is c.requires.request in
    let takes = subst (λ x. Takes x texts) asked.0 asked.1 in
    of_change s t words.Insert w.call n texts fed fed old new c.print_outcome.result asked.0
    (with_line s t (IsCommandOf words.Insert n texts) (AsksFor words.Insert n texts fed fed) (IsFailure Writer old.failures new.failures) c.print_outcome.result (λ x meant. (takes, meant))
    (printed s t (IsCommandOf words.Insert n texts) old.failures new.failures c.nothing-outcome.result c.print_outcome.result (failed_write old.failures new.failures answers.as_nothing c.insert.result c.nothing-outcome.result c.nothing-outcome.ensures (λ y e why. why)) c.print_outcome.ensures.told
    (tree_leaves s t (IsCommandOf words.Insert n texts) n (model.insert model.in_json) (data_of c.take.result) store.as_done answers.as_nothing c.insert.result c.nothing-outcome.result c.nothing-outcome.ensures
    (of_tree (model.insert model.in_json) n texts c.take.result takes (subst (IsTreeText (text_at texts 0)) (sym c.take.ensures.taken) asked.2)) (λ x no. no) c.insert.ensures.moves c.insert.ensures.open c.insert.ensures.crash)))

pub returns-in-Replace-clause-crash : goal.returns-in-Replace-clause-crash
returns-in-Replace-clause-crash g c =
    let w = c.args.words.now in
    let n = w.coll.now in
    let texts = map string_bytes w.rest.now in
    let fed : Feed = g.I.Source.feed c.args.input.now in
    let old : Tally = g.O.Sink.tally c.args.output.now in
    let s = store_state g.S.Store c.args.store.now in
    let t = store_state g.S.Store c.replace_json.new.self in
    let new : Tally = g.O.Sink.tally c.print_outcome-in-Replace.new.output in
    let asked = subst (IsRequestOf w) c.in-Replace.is c.requires.request in
    let takes = subst (λ x. Takes x texts) asked.0 asked.1 in
    of_change s t words.Replace w.call n texts fed fed old new c.print_outcome-in-Replace.result asked.0
    (with_line s t (IsCommandOf words.Replace n texts) (AsksFor words.Replace n texts fed fed) (IsFailure Writer old.failures new.failures) c.print_outcome-in-Replace.result (λ x meant. (takes, meant))
    (printed s t (IsCommandOf words.Replace n texts) old.failures new.failures c.nothing-outcome-in-Replace.result c.print_outcome-in-Replace.result (failed_write old.failures new.failures answers.as_nothing c.replace_json.result c.nothing-outcome-in-Replace.result c.nothing-outcome-in-Replace.ensures (λ y e why. why)) c.print_outcome-in-Replace.ensures.told
    (tree_leaves s t (IsCommandOf words.Replace n texts) n (model.replace model.in_json) (data_of c.take-in-Replace.result) store.as_done answers.as_nothing c.replace_json.result c.nothing-outcome-in-Replace.result c.nothing-outcome-in-Replace.ensures
    (of_tree (model.replace model.in_json) n texts c.take-in-Replace.result takes (subst (IsTreeText (text_at texts 0)) (sym c.take-in-Replace.ensures.taken) asked.2)) (λ x no. no) c.replace_json.ensures.moves c.replace_json.ensures.open c.replace_json.ensures.crash)))

pub returns-in-Set-clause-crash : goal.returns-in-Set-clause-crash
returns-in-Set-clause-crash g c =
    let w = c.args.words.now in
    let n = w.coll.now in
    let texts = map string_bytes w.rest.now in
    let fed : Feed = g.I.Source.feed c.args.input.now in
    let old : Tally = g.O.Sink.tally c.args.output.now in
    let s = store_state g.S.Store c.args.store.now in
    let t = store_state g.S.Store c.set.new.self in
    let new : Tally = g.O.Sink.tally c.print_outcome-in-Set.new.output in
    let asked = subst (IsRequestOf w) c.in-Set.is c.requires.request in
    let takes = subst (λ x. Takes x texts) asked.0 asked.1 in
    let read = subst (λ j. IsIdText (text_at texts 0) (view c.in-Set.id) × (c.in-Set.key.now ≡ text_at texts 1) × IsTreeText (text_at texts 2) j) (sym c.take-in-Set.ensures.taken) asked.2 in
    of_change s t words.Set w.call n texts fed fed old new c.print_outcome-in-Set.result asked.0
    (with_line s t (IsCommandOf words.Set n texts) (AsksFor words.Set n texts fed fed) (IsFailure Writer old.failures new.failures) c.print_outcome-in-Set.result (λ x meant. (takes, meant))
    (printed s t (IsCommandOf words.Set n texts) old.failures new.failures c.nothing-outcome-in-Set.result c.print_outcome-in-Set.result (failed_write old.failures new.failures answers.as_nothing c.set.result c.nothing-outcome-in-Set.result c.nothing-outcome-in-Set.ensures (λ y e why. why)) c.print_outcome-in-Set.ensures.told
    (call_leaves s t (IsCommandOf words.Set n texts) (model.on n (model.set (view c.in-Set.id) c.in-Set.key.now (model_reading.read_value (data_of c.take-in-Set.result)))) store.as_done answers.as_nothing c.set.result c.nothing-outcome-in-Set.result c.nothing-outcome-in-Set.ensures
    (of_set n texts (view c.in-Set.id) c.in-Set.key.now c.take-in-Set.result takes read) (λ x no. no) c.set.ensures.moves c.set.ensures.open c.set.ensures.crash)))

pub returns-in-Unset-clause-crash : goal.returns-in-Unset-clause-crash
returns-in-Unset-clause-crash g c =
    let w = c.args.words.now in
    let n = w.coll.now in
    let texts = map string_bytes w.rest.now in
    let fed : Feed = g.I.Source.feed c.args.input.now in
    let old : Tally = g.O.Sink.tally c.args.output.now in
    let s = store_state g.S.Store c.args.store.now in
    let t = store_state g.S.Store c.unset.new.self in
    let new : Tally = g.O.Sink.tally c.print_outcome-in-Unset.new.output in
    let asked = subst (IsRequestOf w) c.in-Unset.is c.requires.request in
    let takes = subst (λ x. Takes x texts) asked.0 asked.1 in
    of_change s t words.Unset w.call n texts fed fed old new c.print_outcome-in-Unset.result asked.0
    (with_line s t (IsCommandOf words.Unset n texts) (AsksFor words.Unset n texts fed fed) (IsFailure Writer old.failures new.failures) c.print_outcome-in-Unset.result (λ x meant. (takes, meant))
    (printed s t (IsCommandOf words.Unset n texts) old.failures new.failures c.flag.result c.print_outcome-in-Unset.result (failed_write old.failures new.failures answers.flag_answer c.unset.result c.flag.result c.flag.ensures (λ y e why. why)) c.print_outcome-in-Unset.ensures.told
    (call_leaves s t (IsCommandOf words.Unset n texts) (model.on n (model.unset (view c.in-Unset.id) c.in-Unset.key.now)) store.as_flag answers.flag_answer c.unset.result c.flag.result c.flag.ensures
    (of_unset n texts (view c.in-Unset.id) c.in-Unset.key.now takes asked.2) (λ x no. no) c.unset.ensures.moves c.unset.ensures.open c.unset.ensures.crash)))

pub returns-in-Remove-clause-crash : goal.returns-in-Remove-clause-crash
returns-in-Remove-clause-crash g c =
    let w = c.args.words.now in
    let n = w.coll.now in
    let texts = map string_bytes w.rest.now in
    let fed : Feed = g.I.Source.feed c.args.input.now in
    let old : Tally = g.O.Sink.tally c.args.output.now in
    let s = store_state g.S.Store c.args.store.now in
    let t = store_state g.S.Store c.remove.new.self in
    let new : Tally = g.O.Sink.tally c.print_outcome-in-Remove.new.output in
    let asked = subst (IsRequestOf w) c.in-Remove.is c.requires.request in
    let takes = subst (λ x. Takes x texts) asked.0 asked.1 in
    of_change s t words.Remove w.call n texts fed fed old new c.print_outcome-in-Remove.result asked.0
    (with_line s t (IsCommandOf words.Remove n texts) (AsksFor words.Remove n texts fed fed) (IsFailure Writer old.failures new.failures) c.print_outcome-in-Remove.result (λ x meant. (takes, meant))
    (printed s t (IsCommandOf words.Remove n texts) old.failures new.failures c.nothing.result c.print_outcome-in-Remove.result (failed_write old.failures new.failures answers.as_nothing c.remove.result c.nothing.result c.nothing.ensures (λ y e why. why)) c.print_outcome-in-Remove.ensures.told
    (call_leaves s t (IsCommandOf words.Remove n texts) (model.on n (model.remove (view c.in-Remove.id))) store.as_done answers.as_nothing c.remove.result c.nothing.result c.nothing.ensures
    (of_id (λ id more. model.remove id) n texts (view c.in-Remove.id) (some_texts 0 texts takes) asked.2) (λ x no. no) c.remove.ensures.moves c.remove.ensures.open c.remove.ensures.crash)))

pub returns-in-Get-clause-crash : goal.returns-in-Get-clause-crash
returns-in-Get-clause-crash g c =
    let w = c.args.words.now in
    let n = w.coll.now in
    let texts = map string_bytes w.rest.now in
    let fed : Feed = g.I.Source.feed c.args.input.now in
    let old : Tally = g.O.Sink.tally c.args.output.now in
    let s = store_state g.S.Store c.args.store.now in
    let t = store_state g.S.Store c.get_json.new.self in
    let new : Tally = g.O.Sink.tally c.print_outcome-in-Get.new.output in
    let asked = subst (IsRequestOf w) c.in-Get.is c.requires.request in
    of_change s t words.Get w.call n texts fed fed old new c.print_outcome-in-Get.result asked.0 c.get_json.ensures.crash

pub returns-in-Find-clause-crash : goal.returns-in-Find-clause-crash
returns-in-Find-clause-crash g c =
    let w = c.args.words.now in
    let n = w.coll.now in
    let texts = map string_bytes w.rest.now in
    let fed : Feed = g.I.Source.feed c.args.input.now in
    let old : Tally = g.O.Sink.tally c.args.output.now in
    let s = store_state g.S.Store c.args.store.now in
    let t = store_state g.S.Store c.find.new.self in
    let new : Tally = g.O.Sink.tally c.print_outcome-in-Find.new.output in
    let asked = subst (IsRequestOf w) c.in-Find.is c.requires.request in
    of_change s t words.Find w.call n texts fed fed old new c.print_outcome-in-Find.result asked.0 c.find.ensures.crash

pub returns-in-Count-clause-crash : goal.returns-in-Count-clause-crash
returns-in-Count-clause-crash g c =
    let w = c.args.words.now in
    let n = w.coll.now in
    let texts = map string_bytes w.rest.now in
    let fed : Feed = g.I.Source.feed c.args.input.now in
    let old : Tally = g.O.Sink.tally c.args.output.now in
    let s = store_state g.S.Store c.args.store.now in
    let t = store_state g.S.Store c.count.new.self in
    let new : Tally = g.O.Sink.tally c.print_outcome-in-Count.new.output in
    let asked = subst (IsRequestOf w) c.in-Count.is c.requires.request in
    of_change s t words.Count w.call n texts fed fed old new c.print_outcome-in-Count.result asked.0 c.count.ensures.crash

pub returns-in-Collections-clause-crash : goal.returns-in-Collections-clause-crash
returns-in-Collections-clause-crash g c =
    let w = c.args.words.now in
    let n = w.coll.now in
    let texts = map string_bytes w.rest.now in
    let fed : Feed = g.I.Source.feed c.args.input.now in
    let old : Tally = g.O.Sink.tally c.args.output.now in
    let s = store_state g.S.Store c.args.store.now in
    let t = store_state g.S.Store c.collections.new.self in
    let new : Tally = g.O.Sink.tally c.print_outcome-in-Collections.new.output in
    let asked = subst (IsRequestOf w) c.in-Collections.is c.requires.request in
    of_change s t words.Collections w.call n texts fed fed old new c.print_outcome-in-Collections.result asked.0 c.collections.ensures.crash

pub returns-in-Export-clause-crash : goal.returns-in-Export-clause-crash
returns-in-Export-clause-crash g c =
    let w = c.args.words.now in
    let n = w.coll.now in
    let texts = map string_bytes w.rest.now in
    let fed : Feed = g.I.Source.feed c.args.input.now in
    let old : Tally = g.O.Sink.tally c.args.output.now in
    let s = store_state g.S.Store c.args.store.now in
    let t = store_state g.S.Store c.export.new.store in
    let new : Tally = g.O.Sink.tally c.export.new.output in
    let asked = subst (IsRequestOf w) c.in-Export.is c.requires.request in
    of_change s t words.Export w.call n texts fed fed old new c.export.result asked.0 c.export.ensures.crash

pub returns-in-Dump-clause-crash : goal.returns-in-Dump-clause-crash
returns-in-Dump-clause-crash g c =
    let w = c.args.words.now in
    let n = w.coll.now in
    let texts = map string_bytes w.rest.now in
    let fed : Feed = g.I.Source.feed c.args.input.now in
    let old : Tally = g.O.Sink.tally c.args.output.now in
    let s = store_state g.S.Store c.args.store.now in
    let t = store_state g.S.Store c.dump.new.store in
    let new : Tally = g.O.Sink.tally c.dump.new.output in
    let asked = subst (IsRequestOf w) c.in-Dump.is c.requires.request in
    of_change s t words.Dump w.call n texts fed fed old new c.dump.result asked.0 c.dump.ensures.crash

pub returns-in-Import-clause-crash : goal.returns-in-Import-clause-crash
returns-in-Import-clause-crash g c =
    let w = c.args.words.now in
    let n = w.coll.now in
    let texts = map string_bytes w.rest.now in
    let fed : Feed = g.I.Source.feed c.args.input.now in
    let old : Tally = g.O.Sink.tally c.args.output.now in
    let s = store_state g.S.Store c.args.store.now in
    let t = store_state g.S.Store c.import.new.self in
    let new : Tally = g.O.Sink.tally c.print_outcome-in-Import.new.output in
    let asked = subst (IsRequestOf w) c.in-Import.is c.requires.request in
    let left : Feed = g.I.Source.feed c.import.new.reader in
    of_change s t words.Import w.call n texts fed left old new c.print_outcome-in-Import.result asked.0
    (with_line s t (IsOfStream n fed left) (AsksFor words.Import n texts fed left) (IsFailure Writer old.failures new.failures) c.print_outcome-in-Import.result (λ x meant. (subst (λ y. Takes y texts) asked.0 asked.1, meant))
    (printed s t (IsOfStream n fed left) old.failures new.failures c.number-in-Import.result c.print_outcome-in-Import.result (failed_write old.failures new.failures answers.number_answer c.import.result c.number-in-Import.result c.number-in-Import.ensures (λ y e why. why)) c.print_outcome-in-Import.ensures.told
    (stream_leaves s t n fed left answers.number_answer c.import.result c.number-in-Import.result c.number-in-Import.ensures c.import.ensures.open c.import.ensures.crash)))

pub returns-in-Load-clause-crash : goal.returns-in-Load-clause-crash
returns-in-Load-clause-crash g c =
    let w = c.args.words.now in
    let n = w.coll.now in
    let texts = map string_bytes w.rest.now in
    let fed : Feed = g.I.Source.feed c.args.input.now in
    let old : Tally = g.O.Sink.tally c.args.output.now in
    let s = store_state g.S.Store c.args.store.now in
    let t = store_state g.S.Store c.load.new.store in
    let new : Tally = g.O.Sink.tally c.print_outcome-in-Load.new.output in
    let asked = subst (IsRequestOf w) c.in-Load.is c.requires.request in
    let left : Feed = g.I.Source.feed c.load.new.input in
    of_change s t words.Load w.call n texts fed left old new c.print_outcome-in-Load.result asked.0
    (subst (λ ts. LeavesLine words.Load n ts fed left old new c.print_outcome-in-Load.result s t) (sym (subst (λ y. Takes y texts) asked.0 asked.1))
    (printed s t (AsksFor words.Load n [] fed left) old.failures new.failures c.load.result c.print_outcome-in-Load.result (number_unprinted old.failures new.failures c.load.result c.load.ensures.number) c.print_outcome-in-Load.ensures.told c.load.ensures.crash))

pub returns-in-Insert-clause-spared : goal.returns-in-Insert-clause-spared
returns-in-Insert-clause-spared g c = spares_same c.args.words.now.call c.args.input.now

pub returns-in-Replace-clause-spared : goal.returns-in-Replace-clause-spared
returns-in-Replace-clause-spared g c = spares_same c.args.words.now.call c.args.input.now

pub returns-in-Get-clause-spared : goal.returns-in-Get-clause-spared
returns-in-Get-clause-spared g c = spares_same c.args.words.now.call c.args.input.now

pub returns-in-Set-clause-spared : goal.returns-in-Set-clause-spared
returns-in-Set-clause-spared g c = spares_same c.args.words.now.call c.args.input.now

pub returns-in-Unset-clause-spared : goal.returns-in-Unset-clause-spared
returns-in-Unset-clause-spared g c = spares_same c.args.words.now.call c.args.input.now

pub returns-in-Remove-clause-spared : goal.returns-in-Remove-clause-spared
returns-in-Remove-clause-spared g c = spares_same c.args.words.now.call c.args.input.now

pub returns-in-Find-clause-spared : goal.returns-in-Find-clause-spared
returns-in-Find-clause-spared g c = spares_same c.args.words.now.call c.args.input.now

pub returns-in-Count-clause-spared : goal.returns-in-Count-clause-spared
returns-in-Count-clause-spared g c = spares_same c.args.words.now.call c.args.input.now

pub returns-in-Export-clause-spared : goal.returns-in-Export-clause-spared
returns-in-Export-clause-spared g c = spares_same c.args.words.now.call c.args.input.now

pub returns-in-Dump-clause-spared : goal.returns-in-Dump-clause-spared
returns-in-Dump-clause-spared g c = spares_same c.args.words.now.call c.args.input.now

pub returns-in-Collections-clause-spared : goal.returns-in-Collections-clause-spared
returns-in-Collections-clause-spared g c = spares_same c.args.words.now.call c.args.input.now

pub returns-in-Import-clause-spared : goal.returns-in-Import-clause-spared
returns-in-Import-clause-spared g c = spares_import c.args.words.now.call c.args.input.now c.import.new.reader (subst (IsRequestOf c.args.words.now) c.in-Import.is c.requires.request).0

pub returns-in-Load-clause-spared : goal.returns-in-Load-clause-spared
returns-in-Load-clause-spared g c = spares_load c.args.words.now.call c.args.input.now c.load.new.input (subst (IsRequestOf c.args.words.now) c.in-Load.is c.requires.request).0

pub returns-in-Insert-clause-open : goal.returns-in-Insert-clause-open
returns-in-Insert-clause-open g c =
    let s = store_state g.S.Store c.args.store.now in
    let t = store_state g.S.Store c.insert.new.store in
    printed_open s t (g.O.Sink.tally c.args.output.now).failures (g.O.Sink.tally c.print_outcome.new.output).failures c.nothing-outcome.result c.print_outcome.result c.print_outcome.ensures.told
    (answered_open s t answers.as_nothing c.insert.result c.nothing-outcome.result c.nothing-outcome.ensures c.insert.ensures.open)

pub returns-in-Insert-clause-devices : goal.returns-in-Insert-clause-devices
returns-in-Insert-clause-devices g c =
    let fed = (g.I.Source.feed c.args.input.now).failures in
    reports words.Insert c.args.words.now.call c.nothing-outcome.result c.print_outcome.result fed fed (g.O.Sink.tally c.args.output.now).failures (g.O.Sink.tally c.print_outcome.new.output).failures
    (subst (IsRequestOf c.args.words.now) c.in-Insert.is c.requires.request).0 tt (still Reader c.nothing-outcome.result fed fed refl) c.print_outcome.ensures.told

pub returns-in-Replace-clause-open : goal.returns-in-Replace-clause-open
returns-in-Replace-clause-open g c =
    let s = store_state g.S.Store c.args.store.now in
    let t = store_state g.S.Store c.replace_json.new.self in
    printed_open s t (g.O.Sink.tally c.args.output.now).failures (g.O.Sink.tally c.print_outcome-in-Replace.new.output).failures c.nothing-outcome-in-Replace.result c.print_outcome-in-Replace.result c.print_outcome-in-Replace.ensures.told
    (answered_open s t answers.as_nothing c.replace_json.result c.nothing-outcome-in-Replace.result c.nothing-outcome-in-Replace.ensures c.replace_json.ensures.open)

pub returns-in-Replace-clause-devices : goal.returns-in-Replace-clause-devices
returns-in-Replace-clause-devices g c =
    let fed = (g.I.Source.feed c.args.input.now).failures in
    reports words.Replace c.args.words.now.call c.nothing-outcome-in-Replace.result c.print_outcome-in-Replace.result fed fed (g.O.Sink.tally c.args.output.now).failures (g.O.Sink.tally c.print_outcome-in-Replace.new.output).failures
    (subst (IsRequestOf c.args.words.now) c.in-Replace.is c.requires.request).0 tt (still Reader c.nothing-outcome-in-Replace.result fed fed refl) c.print_outcome-in-Replace.ensures.told

pub returns-in-Get-clause-open : goal.returns-in-Get-clause-open
returns-in-Get-clause-open g c =
    let s = store_state g.S.Store c.args.store.now in
    let t = store_state g.S.Store c.get_json.new.self in
    printed_open s t (g.O.Sink.tally c.args.output.now).failures (g.O.Sink.tally c.print_outcome-in-Get.new.output).failures c.tree.result c.print_outcome-in-Get.result c.print_outcome-in-Get.ensures.told
    (answered_open s t answers.as_tree c.get_json.result c.tree.result c.tree.ensures c.get_json.ensures.open)

pub returns-in-Get-clause-devices : goal.returns-in-Get-clause-devices
returns-in-Get-clause-devices g c =
    let fed = (g.I.Source.feed c.args.input.now).failures in
    reports words.Get c.args.words.now.call c.tree.result c.print_outcome-in-Get.result fed fed (g.O.Sink.tally c.args.output.now).failures (g.O.Sink.tally c.print_outcome-in-Get.new.output).failures
    (subst (IsRequestOf c.args.words.now) c.in-Get.is c.requires.request).0 tt (still Reader c.tree.result fed fed refl) c.print_outcome-in-Get.ensures.told

pub returns-in-Set-clause-open : goal.returns-in-Set-clause-open
returns-in-Set-clause-open g c =
    let s = store_state g.S.Store c.args.store.now in
    let t = store_state g.S.Store c.set.new.self in
    printed_open s t (g.O.Sink.tally c.args.output.now).failures (g.O.Sink.tally c.print_outcome-in-Set.new.output).failures c.nothing-outcome-in-Set.result c.print_outcome-in-Set.result c.print_outcome-in-Set.ensures.told
    (answered_open s t answers.as_nothing c.set.result c.nothing-outcome-in-Set.result c.nothing-outcome-in-Set.ensures c.set.ensures.open)

pub returns-in-Set-clause-devices : goal.returns-in-Set-clause-devices
returns-in-Set-clause-devices g c =
    let fed = (g.I.Source.feed c.args.input.now).failures in
    reports words.Set c.args.words.now.call c.nothing-outcome-in-Set.result c.print_outcome-in-Set.result fed fed (g.O.Sink.tally c.args.output.now).failures (g.O.Sink.tally c.print_outcome-in-Set.new.output).failures
    (subst (IsRequestOf c.args.words.now) c.in-Set.is c.requires.request).0 tt (still Reader c.nothing-outcome-in-Set.result fed fed refl) c.print_outcome-in-Set.ensures.told

pub returns-in-Unset-clause-open : goal.returns-in-Unset-clause-open
returns-in-Unset-clause-open g c =
    let s = store_state g.S.Store c.args.store.now in
    let t = store_state g.S.Store c.unset.new.self in
    printed_open s t (g.O.Sink.tally c.args.output.now).failures (g.O.Sink.tally c.print_outcome-in-Unset.new.output).failures c.flag.result c.print_outcome-in-Unset.result c.print_outcome-in-Unset.ensures.told
    (answered_open s t answers.flag_answer c.unset.result c.flag.result c.flag.ensures c.unset.ensures.open)

pub returns-in-Unset-clause-devices : goal.returns-in-Unset-clause-devices
returns-in-Unset-clause-devices g c =
    let fed = (g.I.Source.feed c.args.input.now).failures in
    reports words.Unset c.args.words.now.call c.flag.result c.print_outcome-in-Unset.result fed fed (g.O.Sink.tally c.args.output.now).failures (g.O.Sink.tally c.print_outcome-in-Unset.new.output).failures
    (subst (IsRequestOf c.args.words.now) c.in-Unset.is c.requires.request).0 tt (still Reader c.flag.result fed fed refl) c.print_outcome-in-Unset.ensures.told

pub returns-in-Remove-clause-open : goal.returns-in-Remove-clause-open
returns-in-Remove-clause-open g c =
    let s = store_state g.S.Store c.args.store.now in
    let t = store_state g.S.Store c.remove.new.self in
    printed_open s t (g.O.Sink.tally c.args.output.now).failures (g.O.Sink.tally c.print_outcome-in-Remove.new.output).failures c.nothing.result c.print_outcome-in-Remove.result c.print_outcome-in-Remove.ensures.told
    (answered_open s t answers.as_nothing c.remove.result c.nothing.result c.nothing.ensures c.remove.ensures.open)

pub returns-in-Remove-clause-devices : goal.returns-in-Remove-clause-devices
returns-in-Remove-clause-devices g c =
    let fed = (g.I.Source.feed c.args.input.now).failures in
    reports words.Remove c.args.words.now.call c.nothing.result c.print_outcome-in-Remove.result fed fed (g.O.Sink.tally c.args.output.now).failures (g.O.Sink.tally c.print_outcome-in-Remove.new.output).failures
    (subst (IsRequestOf c.args.words.now) c.in-Remove.is c.requires.request).0 tt (still Reader c.nothing.result fed fed refl) c.print_outcome-in-Remove.ensures.told

pub returns-in-Find-clause-open : goal.returns-in-Find-clause-open
returns-in-Find-clause-open g c =
    let s = store_state g.S.Store c.args.store.now in
    let t = store_state g.S.Store c.find.new.self in
    printed_open s t (g.O.Sink.tally c.args.output.now).failures (g.O.Sink.tally c.print_outcome-in-Find.new.output).failures c.documents.result c.print_outcome-in-Find.result c.print_outcome-in-Find.ensures.told
    (answered_open s t answers.as_documents c.find.result c.documents.result c.documents.ensures c.find.ensures.open)

pub returns-in-Find-clause-devices : goal.returns-in-Find-clause-devices
returns-in-Find-clause-devices g c =
    let fed = (g.I.Source.feed c.args.input.now).failures in
    reports words.Find c.args.words.now.call c.documents.result c.print_outcome-in-Find.result fed fed (g.O.Sink.tally c.args.output.now).failures (g.O.Sink.tally c.print_outcome-in-Find.new.output).failures
    (subst (IsRequestOf c.args.words.now) c.in-Find.is c.requires.request).0 tt (still Reader c.documents.result fed fed refl) c.print_outcome-in-Find.ensures.told

pub returns-in-Count-clause-open : goal.returns-in-Count-clause-open
returns-in-Count-clause-open g c =
    let s = store_state g.S.Store c.args.store.now in
    let t = store_state g.S.Store c.count.new.self in
    printed_open s t (g.O.Sink.tally c.args.output.now).failures (g.O.Sink.tally c.print_outcome-in-Count.new.output).failures c.number.result c.print_outcome-in-Count.result c.print_outcome-in-Count.ensures.told
    (answered_open s t answers.number_answer c.count.result c.number.result c.number.ensures c.count.ensures.open)

pub returns-in-Count-clause-devices : goal.returns-in-Count-clause-devices
returns-in-Count-clause-devices g c =
    let fed = (g.I.Source.feed c.args.input.now).failures in
    reports words.Count c.args.words.now.call c.number.result c.print_outcome-in-Count.result fed fed (g.O.Sink.tally c.args.output.now).failures (g.O.Sink.tally c.print_outcome-in-Count.new.output).failures
    (subst (IsRequestOf c.args.words.now) c.in-Count.is c.requires.request).0 tt (still Reader c.number.result fed fed refl) c.print_outcome-in-Count.ensures.told

pub returns-in-Collections-clause-open : goal.returns-in-Collections-clause-open
returns-in-Collections-clause-open g c =
    let s = store_state g.S.Store c.args.store.now in
    let t = store_state g.S.Store c.collections.new.self in
    printed_open s t (g.O.Sink.tally c.args.output.now).failures (g.O.Sink.tally c.print_outcome-in-Collections.new.output).failures c.names.result c.print_outcome-in-Collections.result c.print_outcome-in-Collections.ensures.told
    (answered_open s t answers.names_answer c.collections.result c.names.result c.names.ensures c.collections.ensures.open)

pub returns-in-Collections-clause-devices : goal.returns-in-Collections-clause-devices
returns-in-Collections-clause-devices g c =
    let fed = (g.I.Source.feed c.args.input.now).failures in
    reports words.Collections c.args.words.now.call c.names.result c.print_outcome-in-Collections.result fed fed (g.O.Sink.tally c.args.output.now).failures (g.O.Sink.tally c.print_outcome-in-Collections.new.output).failures
    (subst (IsRequestOf c.args.words.now) c.in-Collections.is c.requires.request).0 tt (still Reader c.names.result fed fed refl) c.print_outcome-in-Collections.ensures.told

pub returns-in-Import-clause-open : goal.returns-in-Import-clause-open
returns-in-Import-clause-open g c =
    let s = store_state g.S.Store c.args.store.now in
    let t = store_state g.S.Store c.import.new.self in
    printed_open s t (g.O.Sink.tally c.args.output.now).failures (g.O.Sink.tally c.print_outcome-in-Import.new.output).failures c.number-in-Import.result c.print_outcome-in-Import.result c.print_outcome-in-Import.ensures.told
    (answered_open s t answers.number_answer c.import.result c.number-in-Import.result c.number-in-Import.ensures c.import.ensures.open)

pub returns-in-Import-clause-devices : goal.returns-in-Import-clause-devices
returns-in-Import-clause-devices g c =
    import_reports c.args.words.now.call c.import.result c.number-in-Import.result c.print_outcome-in-Import.result (g.I.Source.feed c.args.input.now).failures (g.I.Source.feed c.import.new.reader).failures (g.O.Sink.tally c.args.output.now).failures (g.O.Sink.tally c.print_outcome-in-Import.new.output).failures
    (subst (IsRequestOf c.args.words.now) c.in-Import.is c.requires.request).0 c.number-in-Import.ensures c.import.ensures.device c.print_outcome-in-Import.ensures.told

pub returns-in-Load-clause-open : goal.returns-in-Load-clause-open
returns-in-Load-clause-open g c =
    printed_open (store_state g.S.Store c.args.store.now) (store_state g.S.Store c.load.new.store) (g.O.Sink.tally c.args.output.now).failures (g.O.Sink.tally c.print_outcome-in-Load.new.output).failures c.load.result c.print_outcome-in-Load.result
    c.print_outcome-in-Load.ensures.told c.load.ensures.open

pub returns-in-Load-clause-devices : goal.returns-in-Load-clause-devices
returns-in-Load-clause-devices g c =
    reports words.Load c.args.words.now.call c.load.result c.print_outcome-in-Load.result (g.I.Source.feed c.args.input.now).failures (g.I.Source.feed c.load.new.input).failures (g.O.Sink.tally c.args.output.now).failures (g.O.Sink.tally c.print_outcome-in-Load.new.output).failures
    (subst (IsRequestOf c.args.words.now) c.in-Load.is c.requires.request).0 tt c.load.ensures.device c.print_outcome-in-Load.ensures.told

pub returns-in-Export-clause-devices : goal.returns-in-Export-clause-devices
returns-in-Export-clause-devices g c =
    export_reports c.args.words.now.call c.export.result (g.I.Source.feed c.args.input.now).failures (g.O.Sink.tally c.args.output.now).failures (g.O.Sink.tally c.export.new.output).failures
    (subst (IsRequestOf c.args.words.now) c.in-Export.is c.requires.request).0 c.export.ensures.device

pub returns-in-Dump-clause-devices : goal.returns-in-Dump-clause-devices
returns-in-Dump-clause-devices g c =
    dump_reports c.args.words.now.call c.dump.result (g.I.Source.feed c.args.input.now).failures (g.O.Sink.tally c.args.output.now).failures (g.O.Sink.tally c.dump.new.output).failures
    (subst (IsRequestOf c.args.words.now) c.in-Dump.is c.requires.request).0 c.dump.ensures.device
