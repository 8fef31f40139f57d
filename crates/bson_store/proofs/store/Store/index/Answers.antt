use Rattle.std.proofs.Common.{Ok, Err, refl}
use Rattle.std.proofs.lemmas.Result.{err_from_is_err_and}
use Rattle.bson_store.specs.Table.{indexed_state as table_state}
use Rattle.store_table.specs.Moves.{Keeps}
use Rattle.store_model.specs.Refusal.{refusal}
use Rattle.store_model.specs.declared.error.ErrorKind.TheVariants.{BadName}
use Rattle.bson_store.specs.Calls.{store_state}
use Rattle.bson_store.specs.Questions.{Indexed}
use Rattle.bson_store.specs.Refusals.{kind_of_fault}
use Rattle.bson_store.proofs.MoveLemmas.{rests, moved}
use Rattle.bson_store.proofs.store.Store.index.Goals as goal

pub returns-in_err-name-clause-moves : goal.returns-in_err-name-clause-moves
returns-in_err-name-clause-moves g c =
    let p = err_from_is_err_and c.from_residual.result c.from_residual.ensures.1 in
    rw (p.1, p.2, c.in_err-name.ensures.0) (rests (store_state g.S.Store c.args.self.now) (Indexed {A = Unit {0}} c.args.name.now (Err (refusal BadName))) (λ docs. record { same = refl; bad = λ _. refl; denied = λ good. absurd (c.in_err-name.ensures.1 good) }))

pub returns-in-Ok-clause-moves : goal.returns-in-Ok-clause-moves
returns-in-Ok-clause-moves g c =
    moved (store_state g.S.Store c.args.self.now) (table_state g.S.Store c.index.new.self) (Keeps (Ok tt)) (Indexed c.args.name.now (Ok tt)) c.in-Ok.ensures.moves
    (λ docs after h. record { same = h.same; bad = λ nameless. absurd (nameless c.in_ok-name.ensures.1); denied = λ _. tt })

pub returns-in-Err-clause-moves : goal.returns-in-Err-clause-moves
returns-in-Err-clause-moves g c =
    let x = c.in-Err.fault in
    rw c.fault_refusal.ensures
    (moved (store_state g.S.Store c.args.self.now) (table_state g.S.Store c.index.new.self) (Keeps (Err x)) (Indexed c.args.name.now (Err (refusal (kind_of_fault x)))) c.in-Err.ensures.moves
    (λ docs after h. record { same = h.same; bad = λ nameless. absurd (nameless c.in_ok-name.ensures.1); denied = λ _. (x, h.faults, refl) }))
