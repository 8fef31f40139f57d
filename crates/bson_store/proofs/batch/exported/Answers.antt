use Rattle.std.proofs.Common.{ap, refl, Some, None, Ok, Err}
use Rattle.bson_base.specs.Device.{Tally}
use Rattle.store_model.specs.State as model
use Rattle.store_model.specs.declared.error.ErrorKind.TheVariants as kind
use Rattle.bson_store.specs.Calls.{store_state, store_connection, Does}
use Rattle.bson_store.proofs.CrashLemmas.{accepted_leaves}
use Rattle.bson_store.specs.Export.{SendsCollection}
use Rattle.bson_store.proofs.MoveLemmas.{moved}
use Rattle.bson_store.proofs.ExportLemmas.{sent, not_sent, sink_failed}
use Rattle.bson_store.proofs.batch.exported.Goals as goal

pub returns-in-Ok-clause-moves : goal.returns-in-Ok-clause-moves
returns-in-Ok-clause-moves g c =
    let old : Tally = record { failures = c.new-sink.result.failed; taken = Some c.new-sink.result.bytes.items } in
    let new : Tally = record { failures = c.export.new.writer.failed; taken = Some c.export.new.writer.bytes.items } in
    moved (store_state g.S.Store c.args.store.now) (store_state g.S.Store c.export.new.self) (SendsCollection c.args.name.now old new (Ok tt)) (Does (model.on c.args.name.now model.export) (model.bytes c.export.new.writer.bytes.items)) c.in-Ok.ensures.moves
    (λ docs after h. sent docs after c.args.name.now c.export.new.writer.bytes.items old new (ap Some c.new-sink.ensures.bytes) refl h)

pub returns-in-Writer-clause-moves : goal.returns-in-Writer-clause-moves
returns-in-Writer-clause-moves g c =
    let old : Tally = record { failures = c.new-sink.result.failed; taken = Some c.new-sink.result.bytes.items } in
    let new : Tally = record { failures = c.export.new.writer.failed; taken = Some c.export.new.writer.bytes.items } in
    rw c.from.ensures
    (moved (store_state g.S.Store c.args.store.now) (store_state g.S.Store c.export.new.self) (SendsCollection c.args.name.now old new (Err c.in-Err.error)) (Does (model.on c.args.name.now model.export) (model.refused kind.Memory None)) c.in-Err.ensures.moves
    (λ docs after h. sink_failed docs after c.args.name.now old new c.in-Err.error h c.in-Writer.is))

pub returns-clause-moves : goal.returns-clause-moves
returns-clause-moves g c =
    let old : Tally = record { failures = c.new-sink.result.failed; taken = Some c.new-sink.result.bytes.items } in
    let new : Tally = record { failures = c.export.new.writer.failed; taken = Some c.export.new.writer.bytes.items } in
    moved (store_state g.S.Store c.args.store.now) (store_state g.S.Store c.export.new.self) (SendsCollection c.args.name.now old new (Err c.in-Err.error)) (Does (model.on c.args.name.now model.export) (model.refused c.in-Err.error.kind c.in-Err.error.document)) c.in-Err.ensures.moves
    (λ docs after h. not_sent docs after c.args.name.now old new c.in-Err.error h c.in_default.not-Writer)

pub returns-in-Ok-clause-crash : goal.returns-in-Ok-clause-crash
returns-in-Ok-clause-crash g c =
    accepted_leaves (store_state g.S.Store c.args.store.now) (store_state g.S.Store c.export.new.self) (model.on c.args.name.now model.export) (model.bytes c.export.new.writer.bytes.items) (λ e. e) (λ clean docs stands. (c.in-Ok.ensures.open clean docs stands).1)
    (λ db up may. g.met.S.Store.settled (store_connection c.export.new.self).store db up may) (returns-in-Ok-clause-moves g c)

pub returns-in-Ok-clause-open : goal.returns-in-Ok-clause-open
returns-in-Ok-clause-open g c accepted = c.in-Ok.ensures.open

pub returns-in-Writer-clause-open : goal.returns-in-Writer-clause-open
returns-in-Writer-clause-open g c accepted = absurd (accepted tt)

pub returns-clause-open : goal.returns-clause-open
returns-clause-open g c accepted = absurd (accepted tt)
