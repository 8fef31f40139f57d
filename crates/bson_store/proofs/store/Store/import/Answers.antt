use Rattle.std.proofs.Common.{Err, inr, refl, subst}
use Rattle.std.proofs.lemmas.Result.{err_from_is_err_and}
use Rattle.store_documents.specs.Names.{name_bytes}
use Rattle.store_model.specs.declared.error.ErrorKind.TheVariants as kind
use Rattle.store_model.specs.Reading.{ReadsStream}
use Rattle.bson_base.specs.Device.{Feed}
use Rattle.store_documents.specs.Judging.{Judges}
use Rattle.bson_store.specs.Calls.{store_state}
use Rattle.bson_store.specs.Many.{AddsAll, Imports}
use Rattle.store_model.specs.Refusal.{kind_of_reading, refusal}
use Rattle.bson_store.proofs.DeviceLemmas.{of_adding, of_judging, of_reading}
use Rattle.bson_store.proofs.ImportLemmas.{import_unnamed, import_unread, import_refused, import_added}
use Rattle.bson_store.proofs.CrashLemmas.{fed_leave}
use Rattle.bson_store.proofs.MoveLemmas.{rests, moved}
use Rattle.bson_store.proofs.store.Store.import.Goals as goal

pub returns-in_err-name-clause-moves : goal.returns-in_err-name-clause-moves
returns-in_err-name-clause-moves g c =
    let n = c.args.name.now in
    let f : Feed = g.R.Source.feed c.args.reader.now in
    let p = err_from_is_err_and c.from_residual.result c.from_residual.ensures.1 in
    rw (p.1, p.2, c.in_err-name.ensures.0) (rests (store_state g.S.Store c.args.self.now) (Imports n f f (Err (refusal kind.BadName))) (λ docs. import_unnamed docs n f c.in_err-name.ensures.1))

pub returns-in_err-bytes-clause-moves : goal.returns-in_err-bytes-clause-moves
returns-in_err-bytes-clause-moves g c =
    let n = c.args.name.now in
    let x = c.in_err-bytes.field-0.0 in
    let old : Feed = g.R.Source.feed c.args.reader.now in
    let new : Feed = g.R.Source.feed c.read_all.new.source in
    let p = err_from_is_err_and c.from_residual-in_err-bytes.result c.from_residual-in_err-bytes.ensures.1 in
    rw (p.1, p.2) (rests (store_state g.S.Store c.args.self.now) (Imports n old new (Err (refusal (kind_of_reading x)))) (λ docs. import_unread docs n old new x c.in_ok-name.ensures.1 c.in_err-bytes.ensures.err))

pub returns-in_err-rows-clause-moves : goal.returns-in_err-rows-clause-moves
returns-in_err-rows-clause-moves g c =
    let n = c.args.name.now in
    let x = c.in_err-rows.field-0.0 in
    let bytes = c.in_ok-bytes.bytes.items in
    let old : Feed = g.R.Source.feed c.args.reader.now in
    let new : Feed = g.R.Source.feed c.read_all.new.source in
    let p = err_from_is_err_and c.from_residual-in_err-rows.result c.from_residual-in_err-rows.ensures.1 in
    rw (p.1, p.2)
    (rests (store_state g.S.Store c.args.self.now) (Imports n old new (Err x))
    (λ docs. import_refused docs n bytes old new x c.in_ok-name.ensures.1 (rw c.as_slice-stream.ensures.value at c.judged.ensures.range) c.in_ok-bytes.ensures.ok (subst (λ b. Judges (ReadsStream b) (Err x)) c.as_slice-stream.ensures.value c.in_err-rows.ensures.rows)))

pub returns-clause-moves : goal.returns-clause-moves
returns-clause-moves g c =
    let n = c.args.name.now in
    let bytes = c.in_ok-bytes.bytes.items in
    let rows = c.in_ok-rows.rows in
    let old : Feed = g.R.Source.feed c.args.reader.now in
    let new : Feed = g.R.Source.feed c.read_all.new.source in
    moved (store_state g.S.Store c.args.self.now) (store_state g.S.Store c.add_all.new.self) (AddsAll (name_bytes c.in_ok-name.name) rows.items c.add_all.result) (Imports n old new c.add_all.result) (rw c.as_slice.ensures.value at c.add_all.ensures.moves)
    (λ docs after h. import_added docs after n bytes old new rows c.add_all.result c.in_ok-name.ensures.1 c.in_ok-bytes.ensures.ok (rw c.as_slice-stream.ensures.value at c.in_ok-rows.ensures.rows)
    (subst (λ m. AddsAll m rows.items c.add_all.result docs after) c.in_ok-name.ensures.0 h))

pub returns-clause-crash : goal.returns-clause-crash
returns-clause-crash g c =
    let bytes = c.in_ok-bytes.bytes.items in
    let old : Feed = g.R.Source.feed c.args.reader.now in
    let new : Feed = g.R.Source.feed c.read_all.new.source in
    fed_leave (store_state g.S.Store c.args.self.now) (store_state g.S.Store c.add_all.new.self) c.args.name.now (name_bytes c.in_ok-name.name) bytes old new c.in_ok-rows.rows c.add_all.result c.in_ok-name.ensures.0 c.in_ok-name.ensures.1 c.in_ok-bytes.ensures.ok
    (rw c.as_slice-stream.ensures.value at c.in_ok-rows.ensures.rows) (rw c.as_slice.ensures.value at c.add_all.ensures.moves) (rw c.as_slice.ensures.value at c.add_all.ensures.crash)

pub returns-in_err-name-clause-device : goal.returns-in_err-name-clause-device
returns-in_err-name-clause-device g c =
    let p = err_from_is_err_and c.from_residual.result c.from_residual.ensures.1 in
    rw (p.1, p.2, c.in_err-name.ensures.0) (inr ((λ is. cc), refl))

pub returns-in_err-bytes-clause-device : goal.returns-in_err-bytes-clause-device
returns-in_err-bytes-clause-device g c =
    let old : Feed = g.R.Source.feed c.args.reader.now in
    let new : Feed = g.R.Source.feed c.read_all.new.source in
    let p = err_from_is_err_and c.from_residual-in_err-bytes.result c.from_residual-in_err-bytes.ensures.1 in
    rw (p.1, p.2) (of_reading c.in_err-bytes.field-0.0 old new c.in_err-bytes.ensures.err)

pub returns-in_err-rows-clause-device : goal.returns-in_err-rows-clause-device
returns-in_err-rows-clause-device g c =
    let x = c.in_err-rows.field-0.0 in
    let old : Feed = g.R.Source.feed c.args.reader.now in
    let new : Feed = g.R.Source.feed c.read_all.new.source in
    let p = err_from_is_err_and c.from_residual-in_err-rows.result c.from_residual-in_err-rows.ensures.1 in
    rw (p.1, p.2)
    (of_judging c.args.name.now c.in_ok-bytes.bytes.items old new x c.in_ok-name.ensures.1 (rw c.as_slice-stream.ensures.value at c.judged.ensures.range) c.in_ok-bytes.ensures.ok (subst (λ b. Judges (ReadsStream b) (Err x)) c.as_slice-stream.ensures.value c.in_err-rows.ensures.rows))

pub returns-clause-device : goal.returns-clause-device
returns-clause-device g c =
    let old : Feed = g.R.Source.feed c.args.reader.now in
    let new : Feed = g.R.Source.feed c.read_all.new.source in
    of_adding c.add_all.result old new c.in_ok-bytes.ensures.ok.0.0 c.add_all.ensures.own
