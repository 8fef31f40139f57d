use Rattle.std.proofs.Common.{map, None, Err, subst}
use Rattle.std.proofs.lemmas.Result.{err_from_is_err_and}
use Rattle.serde_json.specs.View.{view as data_of}
use Rattle.store_documents.specs.Names.{name_bytes}
use Rattle.store_model.specs.Reading.{ReadsTrees}
use Rattle.store_model.specs.State.{refused}
use Rattle.store_model.specs.declared.error.ErrorKind.TheVariants as kind
use Rattle.bson_store.specs.Calls.{store_state}
use Rattle.bson_store.specs.Many.{AddsAll, DoesMany}
use Rattle.bson_store.specs.Refusals.{as_number, reply_by}
use Rattle.bson_store.proofs.ImportLemmas.{many_added, many_bad_name, many_refused}
use Rattle.bson_store.proofs.CrashLemmas.{many_leave}
use Rattle.store_model.proofs.ManyLemmas.{trees_alike}
use Rattle.store_documents.proofs.StreamLemmas.{any_trees}
use Rattle.bson_store.proofs.MoveLemmas.{rests, moved}
use Rattle.bson_store.proofs.store.Store.load_json.Goals as goal

pub returns-in_err-name-clause-moves : goal.returns-in_err-name-clause-moves
returns-in_err-name-clause-moves g c =
    let n = c.args.name.now in
    let Reads = ReadsTrees (map data_of c.args.trees.items) in
    let p = err_from_is_err_and c.from_residual.result c.from_residual.ensures.1 in
    rw (p.1, p.2, c.in_err-name.ensures.0) (rests (store_state g.S.Store c.args.self.now) (DoesMany n Reads (refused kind.BadName None)) (λ docs. many_bad_name docs n Reads (any_trees (map data_of c.args.trees.items)) c.in_err-name.ensures.1))

pub returns-in_err-rows-clause-moves : goal.returns-in_err-rows-clause-moves
returns-in_err-rows-clause-moves g c =
    let n = c.args.name.now in
    let x = c.in_err-rows.field-0.0 in
    let Reads = ReadsTrees (map data_of c.args.trees.items) in
    let p = err_from_is_err_and c.from_residual-in_err-rows.result c.from_residual-in_err-rows.ensures.1 in
    rw (p.1, p.2) (rests (store_state g.S.Store c.args.self.now) (DoesMany n Reads (reply_by as_number (Err x))) (λ docs. many_refused docs n Reads x c.in_ok-name.ensures.1 c.in_err-rows.ensures))

pub returns-clause-moves : goal.returns-clause-moves
returns-clause-moves g c =
    let n = c.args.name.now in
    let rows = c.in_ok-rows.rows in
    let js = map data_of c.args.trees.items in
    moved (store_state g.S.Store c.args.self.now) (store_state g.S.Store c.add_all.new.self) (AddsAll (name_bytes c.in_ok-name.name) rows.items c.add_all.result) (DoesMany n (ReadsTrees js) (reply_by as_number c.add_all.result)) (rw c.as_slice.ensures.value at c.add_all.ensures.moves)
    (λ docs after h. many_added docs after n (ReadsTrees js) rows c.add_all.result c.in_ok-rows.ensures (subst (λ m. AddsAll m rows.items c.add_all.result docs after) c.in_ok-name.ensures.0 h))

pub returns-clause-crash : goal.returns-clause-crash
returns-clause-crash g c =
    let js = map data_of c.args.trees.items in
    many_leave (store_state g.S.Store c.args.self.now) (store_state g.S.Store c.add_all.new.self) c.args.name.now (name_bytes c.in_ok-name.name) (ReadsTrees js) (trees_alike js) c.in_ok-rows.rows c.add_all.result c.in_ok-name.ensures.0 c.in_ok-rows.ensures (rw c.as_slice.ensures.value at c.add_all.ensures.crash)
