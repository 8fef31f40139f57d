use Rattle.std.proofs.Common.{Some, take, drop, refl, ap, ◌∙◌}
use Rattle.bson_base.specs.Device.{Feed}
use Rattle.bson_store.specs.Calls.{store_state}
use Rattle.usage_callers.proofs.CopyLemmas.{copied, rows_stay}
use Rattle.usage_callers.proofs.stores.copy_collection.Goals as goal

pub returns-in_err-export-clause-stays : goal.returns-in_err-export-clause-stays
returns-in_err-export-clause-stays g c =
    rows_stay (store_state g.S.Store c.args.from.now) (store_state g.S.Store c.export.new.self) c.args.name.now _ _ c.export.result c.export.ensures.moves

pub returns-clause-stays : goal.returns-clause-stays
returns-clause-stays g c =
    rows_stay (store_state g.S.Store c.args.from.now) (store_state g.S.Store c.export.new.self) c.args.name.now _ _ c.export.result c.export.ensures.moves

pub returns-clause-copies : goal.returns-clause-copies
returns-clause-copies g c =
    let fed : Feed = record { failures = 0; supply = record { given = Some (take c.new-source.result.at c.new-source.result.bytes.now); left = Some (drop c.new-source.result.at c.new-source.result.bytes.now) } } in
    let left : Feed = record { failures = 0; supply = record { given = Some (take c.import.new.reader.at c.import.new.reader.bytes.now); left = Some (drop c.import.new.reader.at c.import.new.reader.bytes.now) } } in
    copied (store_state g.S.Store c.args.from.now) (store_state g.S.Store c.export.new.self) (store_state g.T.Store c.args.to.now) (store_state g.T.Store c.import.new.self) c.args.name.now c.export.new.writer.bytes.items _ _ fed left c.import.result c.in_ok-export.ensures.moves (ap Some c.new-sink.ensures.bytes) refl
    (ap (λ i. Some (drop i c.new-source.result.bytes.now)) c.new-source.ensures.at ∙ ap Some (c.new-source.ensures.bytes ∙ c.as_slice.ensures.value)) c.import.ensures.moves
