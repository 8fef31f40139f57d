use Rattle.std.proofs.Common.{true, not, Ok, Err}
use Rattle.std.proofs.lemmas.Result.{err_from_is_err_and}
use Rattle.store_table.specs.Moves.{FindsPlace}
use Rattle.bson_store.specs.Table.{indexed_state as table_state}
use Rattle.store_model.specs.declared.error.ErrorKind.TheVariants as kind
use Rattle.bson_store.specs.Calls.{store_state}
use Rattle.bson_store.specs.Many.{Meets}
use Rattle.bson_store.specs.Refusals.{kind_of_fault}
use Rattle.store_model.specs.Refusal.{refusal}
use Rattle.bson_store.proofs.KeyLemmas.{meets_unfound, meets_found, meets_memory, meets_new}
use Rattle.bson_store.proofs.MoveLemmas.{moved}
use Rattle.bson_store.proofs.store.Store.is_taken.Goals as goal

pub returns-in-Err-clause-moves : goal.returns-in-Err-clause-moves
returns-in-Err-clause-moves g c =
    rw c.fault_refusal.ensures
    (moved (store_state g.S.Store c.args.self.now) (table_state g.S.Store c.place_of.new.self) (FindsPlace c.args.collection.now c.args.key.now (Err c.in-Err.fault)) (Meets c.args.collection.now c.args.key.now c.args.met.now (Err (refusal (kind_of_fault c.in-Err.fault)))) c.in-Err.ensures.moves
    (λ docs after h. meets_unfound c.args.collection.now c.args.key.now c.args.met.now c.in-Err.fault docs after h))

pub returns-in-Some-clause-moves : goal.returns-in-Some-clause-moves
returns-in-Some-clause-moves g c =
    moved (store_state g.S.Store c.args.self.now) (table_state g.S.Store c.place_of.new.self) (FindsPlace c.args.collection.now c.args.key.now (Ok c.in-Ok.found)) (Meets c.args.collection.now c.args.key.now c.args.met.now (Ok true)) c.in-Ok.ensures.moves
    (λ docs after h. meets_found c.args.collection.now c.args.key.now c.args.met.now c.in-Ok.found c.in-Some.field-0 docs after c.in-Some.is h)

pub returns-in_err-is_new-clause-moves : goal.returns-in_err-is_new-clause-moves
returns-in_err-is_new-clause-moves g c =
    let p = err_from_is_err_and c.from_residual.result c.from_residual.ensures.1 in
    rw (p.1, p.2)
    (moved (store_state g.S.Store c.args.self.now) (table_state g.S.Store c.place_of.new.self) (FindsPlace c.args.collection.now c.args.key.now (Ok c.in-Ok.found)) (Meets c.args.collection.now c.args.key.now c.args.met.now (Err (refusal kind.Memory))) c.in-Ok.ensures.moves
    (λ docs after h. meets_memory c.args.collection.now c.args.key.now c.args.met.now c.in-Ok.found docs after h))

pub returns-clause-moves : goal.returns-clause-moves
returns-clause-moves g c =
    moved (store_state g.S.Store c.args.self.now) (table_state g.S.Store c.place_of.new.self) (FindsPlace c.args.collection.now c.args.key.now (Ok c.in-Ok.found)) (Meets c.args.collection.now c.args.key.now c.args.met.now (Ok (not c.in_ok-is_new.is_new))) c.in-Ok.ensures.moves
    (λ docs after h. meets_new c.args.collection.now c.args.key.now c.args.met.now c.in-Ok.found c.in_ok-is_new.is_new docs after c.in_default.is c.in_ok-is_new.ensures.new h)
