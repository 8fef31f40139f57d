use Rattle.std.proofs.Common.{Ok, Err, None, inr, refl, subst, sym}
use Rattle.store_table.specs.Moves.{Visits}
use Rattle.bson_store.specs.Table.{indexed_state as table_state}
use Rattle.store_documents.specs.Names.{name_bytes}
use Rattle.store_model.specs.State.{IsName}
use Rattle.bson_store.specs.Calls.{store_state}
use Rattle.bson_store.specs.Dump.{HandsTrees, Lasts}
use Rattle.bson_store.specs.Refusals.{kind_of_fault}
use Rattle.store_model.specs.Refusal.{refusal}
use Rattle.bson_store.specs.declared.walk.Walk.{Walk}
use Rattle.bson_store.proofs.MoveLemmas.{moved}
use Rattle.bson_store.proofs.DumpLemmas.{Took, handed, starts, stopped_at, unhanded}
use Rattle.bson_store.proofs.StandLemmas.{fault_of_store}
use Rattle.bson_store.proofs.store.Store.walk.Goals as goal

pub returns-in-Some-clause-moves : goal.returns-in-Some-clause-moves
returns-in-Some-clause-moves g c start =
    let took = g.T.Step.took in
    let refused_by = g.T.Step.refused in
    let stands = g.T.Step.stands in
    let stopped = g.T.Step.stopped in
    let first : Walk g.row.T.Denot = record { step = c.args.step; alloc = c.args.self.now.alloc; place = 0; refusal = None } in
    let last = c.visit_bodies-visited.new.visitor in
    let n = name_bytes c.in-Ok.name in
    moved (store_state g.S.Store c.args.self.now) (table_state g.S.Store c.visit_bodies-visited.new.self) (Visits (Took took refused_by stands stopped first) first last n (c.visit_bodies-visited.result)) (HandsTrees (took c.args.step) (refused_by c.args.step) c.args.name.now (Err (c.in-Some.error, last.step)))
    (rw c.as_str.ensures.text at c.visit_bodies-visited.ensures.moves)
    (λ docs after h. subst (λ m. HandsTrees (took c.args.step) (refused_by c.args.step) m (Err (c.in-Some.error, last.step)) docs after) c.in-Ok.ensures.0
    (stopped_at took refused_by stands stopped first last n docs after start refl refl (subst IsName (sym c.in-Ok.ensures.0) c.in-Ok.ensures.1) c.visit_bodies-visited.result c.in-Some.error c.in-Some.is h))

pub returns-in-Ok-visited-clause-moves : goal.returns-in-Ok-visited-clause-moves
returns-in-Ok-visited-clause-moves g c start =
    let took = g.T.Step.took in
    let refused_by = g.T.Step.refused in
    let stands = g.T.Step.stands in
    let stopped = g.T.Step.stopped in
    let first : Walk g.row.T.Denot = record { step = c.args.step; alloc = c.args.self.now.alloc; place = 0; refusal = None } in
    let last = c.visit_bodies-visited.new.visitor in
    let n = name_bytes c.in-Ok.name in
    moved (store_state g.S.Store c.args.self.now) (table_state g.S.Store c.visit_bodies-visited.new.self) (Visits (Took took refused_by stands stopped first) first last n (Ok c.in-Ok-visited.field-0)) (HandsTrees (took c.args.step) (refused_by c.args.step) c.args.name.now (Ok last.step))
    (rw c.as_str.ensures.text at c.in-Ok-visited.ensures.moves)
    (λ docs after h. subst (λ m. HandsTrees (took c.args.step) (refused_by c.args.step) m (Ok last.step) docs after) c.in-Ok.ensures.0
    (handed took refused_by stands stopped first last n docs after start refl refl (subst IsName (sym c.in-Ok.ensures.0) c.in-Ok.ensures.1) c.in-Ok-visited.field-0 c.in_default.is c.in-Ok-visited.ensures.stopped h))

pub returns-in-Err-visited-clause-moves : goal.returns-in-Err-visited-clause-moves
returns-in-Err-visited-clause-moves g c start =
    let took = g.T.Step.took in
    let refused_by = g.T.Step.refused in
    let stands = g.T.Step.stands in
    let stopped = g.T.Step.stopped in
    let first : Walk g.row.T.Denot = record { step = c.args.step; alloc = c.args.self.now.alloc; place = 0; refusal = None } in
    let last = c.visit_bodies-visited.new.visitor in
    let n = name_bytes c.in-Ok.name in
    rw c.fault_refusal.ensures
    (moved (store_state g.S.Store c.args.self.now) (table_state g.S.Store c.visit_bodies-visited.new.self) (Visits (Took took refused_by stands stopped first) first last n (Err c.in-Err-visited.fault)) (HandsTrees (took c.args.step) (refused_by c.args.step) c.args.name.now (Err (refusal (kind_of_fault c.in-Err-visited.fault), last.step)))
    (rw c.as_str.ensures.text at c.in-Err-visited.ensures.moves)
    (λ docs after h. subst (λ m. HandsTrees (took c.args.step) (refused_by c.args.step) m (Err (refusal (kind_of_fault c.in-Err-visited.fault), last.step)) docs after) c.in-Ok.ensures.0
    (unhanded took refused_by stands stopped first last n docs after start refl refl (subst IsName (sym c.in-Ok.ensures.0) c.in-Ok.ensures.1) c.in-Err-visited.fault c.in_default.is h)))

pub returns-in-Some-clause-stands : goal.returns-in-Some-clause-stands
returns-in-Some-clause-stands g c stood =
    let took = g.T.Step.took in
    let refused_by = g.T.Step.refused in
    let stands = g.T.Step.stands in
    let stopped = g.T.Step.stopped in
    let first : Walk g.row.T.Denot = record { step = c.args.step; alloc = c.args.self.now.alloc; place = 0; refusal = None } in
    let last = c.visit_bodies-visited.new.visitor in
    let t = c.visit_bodies-visited.ensures.taken (starts took refused_by stands stopped first refl refl) in
    subst (Lasts (stands c.args.step last.step) (stopped c.args.step last.step)) c.in-Some.is (t.1.1 stood)

pub returns-in-Ok-visited-clause-stands : goal.returns-in-Ok-visited-clause-stands
returns-in-Ok-visited-clause-stands g c stood =
    let took = g.T.Step.took in
    let refused_by = g.T.Step.refused in
    let stands = g.T.Step.stands in
    let stopped = g.T.Step.stopped in
    let first : Walk g.row.T.Denot = record { step = c.args.step; alloc = c.args.self.now.alloc; place = 0; refusal = None } in
    let last = c.visit_bodies-visited.new.visitor in
    let t = c.visit_bodies-visited.ensures.taken (starts took refused_by stands stopped first refl refl) in
    subst (Lasts (stands c.args.step last.step) (stopped c.args.step last.step)) c.in_default.is (t.1.1 stood)

pub returns-in-Err-visited-clause-stands : goal.returns-in-Err-visited-clause-stands
returns-in-Err-visited-clause-stands g c stood =
    let took = g.T.Step.took in
    let refused_by = g.T.Step.refused in
    let stands = g.T.Step.stands in
    let stopped = g.T.Step.stopped in
    let first : Walk g.row.T.Denot = record { step = c.args.step; alloc = c.args.self.now.alloc; place = 0; refusal = None } in
    let last = c.visit_bodies-visited.new.visitor in
    let t = c.visit_bodies-visited.ensures.taken (starts took refused_by stands stopped first refl refl) in
    let still = subst (Lasts (stands c.args.step last.step) (stopped c.args.step last.step)) c.in_default.is (t.1.1 stood) in
    rw c.fault_refusal.ensures (inr (still, fault_of_store c.in-Err-visited.fault))
