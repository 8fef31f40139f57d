use Rattle.std.proofs.Common.{None, Err, subst}
use Rattle.std.proofs.lemmas.Result.{err_from_is_err_and}
use Rattle.store_documents.specs.Names.{name_bytes}
use Rattle.store_model.specs.Reading.{ReadsStream}
use Rattle.store_model.specs.State.{refused}
use Rattle.store_model.specs.declared.error.ErrorKind.TheVariants as kind
use Rattle.bson_store.specs.Calls.{store_state}
use Rattle.bson_store.specs.Many.{AddsAll, DoesMany}
use Rattle.bson_store.specs.Refusals.{as_number, reply_by}
use Rattle.bson_store.proofs.ImportLemmas.{many_added, many_bad_name, many_refused}
use Rattle.bson_store.proofs.CrashLemmas.{many_leave}
use Rattle.store_model.proofs.ManyLemmas.{streams_alike}
use Rattle.store_documents.proofs.StreamLemmas.{any_stream}
use Rattle.bson_store.proofs.MoveLemmas.{rests, moved}
use Rattle.bson_store.proofs.store.Store.import_bytes.Goals as goal

pub returns-in_err-name-clause-moves : goal.returns-in_err-name-clause-moves
returns-in_err-name-clause-moves g c =
    let n = c.args.name.now in
    let Reads = ReadsStream c.args.stream.now in
    let p = err_from_is_err_and c.from_residual.result c.from_residual.ensures.1 in
    rw (p.1, p.2, c.in_err-name.ensures.0) (rests (store_state g.S.Store c.args.self.now) (DoesMany n Reads (refused kind.BadName None)) (λ docs. many_bad_name docs n Reads (any_stream c.args.stream.now) c.in_err-name.ensures.1))

pub returns-in_err-rows-clause-moves : goal.returns-in_err-rows-clause-moves
returns-in_err-rows-clause-moves g c =
    let n = c.args.name.now in
    let x = c.in_err-rows.field-0.0 in
    let Reads = ReadsStream c.args.stream.now in
    let p = err_from_is_err_and c.from_residual-in_err-rows.result c.from_residual-in_err-rows.ensures.1 in
    rw (p.1, p.2) (rests (store_state g.S.Store c.args.self.now) (DoesMany n Reads (reply_by as_number (Err x))) (λ docs. many_refused docs n Reads x c.in_ok-name.ensures.1 c.in_err-rows.ensures.rows))

pub returns-clause-moves : goal.returns-clause-moves
returns-clause-moves g c =
    let n = c.args.name.now in
    let rows = c.in_ok-rows.rows in
    let bytes = c.args.stream.now in
    moved (store_state g.S.Store c.args.self.now) (store_state g.S.Store c.add_all.new.self) (AddsAll (name_bytes c.in_ok-name.name) rows.items c.add_all.result) (DoesMany n (ReadsStream bytes) (reply_by as_number c.add_all.result)) (rw c.as_slice.ensures.value at c.add_all.ensures.moves)
    (λ docs after h. many_added docs after n (ReadsStream bytes) rows c.add_all.result c.in_ok-rows.ensures.rows (subst (λ m. AddsAll m rows.items c.add_all.result docs after) c.in_ok-name.ensures.0 h))

pub returns-clause-crash : goal.returns-clause-crash
returns-clause-crash g c =
    let bytes = c.args.stream.now in
    many_leave (store_state g.S.Store c.args.self.now) (store_state g.S.Store c.add_all.new.self) c.args.name.now (name_bytes c.in_ok-name.name) (ReadsStream bytes) (streams_alike bytes) c.in_ok-rows.rows c.add_all.result c.in_ok-name.ensures.0 c.in_ok-rows.ensures.rows (rw c.as_slice.ensures.value at c.add_all.ensures.crash)
