use Rattle.std.proofs.Common.{Ok, Err}
use Rattle.std.proofs.lemmas.Result.{err_from_is_err_and}
use Rattle.store_table.specs.Moves.{FindsRow}
use Rattle.bson_store.specs.Table.{indexed_state as table_state}
use Rattle.bson_store.specs.Calls.{store_state}
use Rattle.bson_store.proofs.MoveLemmas.{moved}
use Rattle.bson_store.proofs.EditLemmas.{finds_ok, finds_err}
use Rattle.bson_store.proofs.drafting.find_row.Goals as goal

pub returns-in_err-found-clause-moves : goal.returns-in_err-found-clause-moves
returns-in_err-found-clause-moves g c =
    let p = err_from_is_err_and c.from_residual.result c.from_residual.ensures.1 in
    rw (p.1, p.2) (moved (store_state g.S.Store c.args.store.now) (table_state g.S.Store c.named.new.self) (FindsRow c.args.collection.now c.args.key.now (Err c.in_err-found.field-0.0)) _ c.in_err-found.ensures.moves
    (λ docs after h. finds_err c.args.collection.now c.args.key.now c.args.draft.now c.in_err-found.field-0.0 docs after h))

pub returns-in-Ok-clause-moves : goal.returns-in-Ok-clause-moves
returns-in-Ok-clause-moves g c =
    moved (store_state g.S.Store c.args.store.now) (table_state g.S.Store c.named.new.self) (FindsRow c.args.collection.now c.args.key.now (Ok c.in_ok-found.found)) _ c.in_ok-found.ensures.moves
    (λ docs after h. finds_ok c.args.collection.now c.args.key.now c.args.draft.now c.in_ok-found.found c.in-Ok.found docs after c.in-Ok.ensures h)
