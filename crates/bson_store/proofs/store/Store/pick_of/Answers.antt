use Rattle.std.proofs.Common.{Ok, Err, None, refl}
use Rattle.store_question.specs.Filters.{filter_of}
use Rattle.bson_store.specs.Fronts.{Passes}
use Rattle.bson_store.specs.Asking.{VisitsAsked}
use Rattle.bson_store.specs.Table.{indexed_state as table_state}
use Rattle.store_documents.specs.Names.{name_bytes}
use Rattle.bson_store.specs.Calls.{store_state}
use Rattle.bson_store.specs.Questions.{PickedOf}
use Rattle.bson_store.specs.Refusals.{kind_of_fault}
use Rattle.store_model.specs.Refusal.{refusal}
use Rattle.bson_store.specs.declared.picking.FilterVisitor.{FilterVisitor}
use Rattle.bson_store.proofs.MoveLemmas.{moved}
use Rattle.bson_store.proofs.SelectLemmas.{Took, taken, refused_one, untaken}
use Rattle.bson_store.proofs.store.Store.pick_of.Goals as goal

pub returns-in-Err-clause-moves : goal.returns-in-Err-clause-moves
returns-in-Err-clause-moves g c =
    let took = g.T.Take.took in
    let P = Passes c.args.front.now in
    let first : FilterVisitor g.row.T.Denot = record { filter = c.args.filter; taker = c.args.taker; fault = None } in
    let last = c.visit_asked.new.visitor in
    let n = name_bytes c.args.name in
    let x = c.in-Err.fault in
    rw c.fault_refusal.ensures
    (moved (store_state g.S.Store c.args.self.now) (table_state g.S.Store c.visit_asked.new.self) (VisitsAsked (Took took first) first last n P (Err x)) (PickedOf (took c.args.taker) n P (filter_of c.args.filter.now) (Err (refusal (kind_of_fault x))))
    (rw c.as_str.ensures.text at c.in-Err.ensures.moves)
    (λ docs after h. untaken took P first last n docs after c.requires refl x h))

pub returns-in-None-clause-moves : goal.returns-in-None-clause-moves
returns-in-None-clause-moves g c =
    let took = g.T.Take.took in
    let P = Passes c.args.front.now in
    let first : FilterVisitor g.row.T.Denot = record { filter = c.args.filter; taker = c.args.taker; fault = None } in
    let last = c.visit_asked.new.visitor in
    let n = name_bytes c.args.name in
    let all = c.in-Ok.field-0 in
    moved (store_state g.S.Store c.args.self.now) (table_state g.S.Store c.visit_asked.new.self) (VisitsAsked (Took took first) first last n P (Ok all)) (PickedOf (took c.args.taker) n P (filter_of c.args.filter.now) (Ok last.taker))
    (rw c.as_str.ensures.text at c.in-Ok.ensures.moves)
    (λ docs after h. taken took P first last n docs after c.requires refl all c.in-None.is c.in-Ok.ensures.stopped h)

pub returns-in-Some-clause-moves : goal.returns-in-Some-clause-moves
returns-in-Some-clause-moves g c =
    let took = g.T.Take.took in
    let P = Passes c.args.front.now in
    let first : FilterVisitor g.row.T.Denot = record { filter = c.args.filter; taker = c.args.taker; fault = None } in
    let last = c.visit_asked.new.visitor in
    let n = name_bytes c.args.name in
    let all = c.in-Ok.field-0 in
    moved (store_state g.S.Store c.args.self.now) (table_state g.S.Store c.visit_asked.new.self) (VisitsAsked (Took took first) first last n P (Ok all)) (PickedOf (took c.args.taker) n P (filter_of c.args.filter.now) (Err c.in-Some.error))
    (rw c.as_str.ensures.text at c.in-Ok.ensures.moves)
    (λ docs after h. refused_one took P first last n docs after c.requires refl all c.in-Some.error c.in-Some.is h)
