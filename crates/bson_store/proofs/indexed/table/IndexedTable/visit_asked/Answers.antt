use Rattle.std.proofs.Math.Logic.{∥∥₁_map}
use Rattle.std.proofs.lemmas.Result.{err_from_is_err_and}
use Rattle.sqlite.specs.declared.error.Error.TheVariants.{SqliteFailure}
use Rattle.sqlite.specs.declared.error.ErrorCode.TheVariants.{OutOfMemory}
use Rattle.bson_store.specs.Fronts.{Passes}
use Rattle.store_table.specs.Moves.{Visits}
use Rattle.store_table.specs.Table.{table_state}
use Rattle.store_table.specs.declared.fault.Fault.TheVariants.{Memory}
use Rattle.store_table.proofs.TableLemmas.{not_places}
use Rattle.bson_store.specs.Asking.{VisitsAsked}
use Rattle.bson_store.proofs.AskLemmas.{asked_moves, scanned, refused}
use Rattle.bson_store.proofs.KeepLemmas.{read_keeps}
use Rattle.bson_store.proofs.MoveLemmas.{moved}
use Rattle.bson_store.proofs.indexed.table.IndexedTable.visit_asked.Goals as goal

pub invariant_of-self : goal.invariant_of-self
invariant_of-self g c = record { kept = ∥∥₁_map c.args.self.now.kept (read_keeps (table_state g.S.Store c.args.self.now.table) (table_state g.S.Store c.visit_places.new.table) c.args.self.now.indexes _ c.visit_places.ensures.moves (λ docs after p. p.same)) }

pub invariant_of-self-in-None : goal.invariant_of-self-in-None
invariant_of-self-in-None g c = record { kept = ∥∥₁_map c.args.self.now.kept (read_keeps (table_state g.S.Store c.args.self.now.table) (table_state g.S.Store c.visit_bodies.new.self) c.args.self.now.indexes _ c.visit_bodies.ensures.moves (λ docs after p. p.same)) }

pub returns-in_err-places-clause-moves : goal.returns-in_err-places-clause-moves
returns-in_err-places-clause-moves g c =
    let first = c.args.visitor.now in
    let p = err_from_is_err_and c.from_residual.result c.from_residual.ensures.1 in
    rw (p.1, p.2) (refused (g.V.Visit.took first) first first c.args.coll.now (Passes c.args.front.now) (table_state g.S.Store c.args.self.now.table) Memory (not_places (SqliteFailure OutOfMemory)))

pub returns-in-Some-clause-moves : goal.returns-in-Some-clause-moves
returns-in-Some-clause-moves g c =
    let first = c.args.visitor.now in
    let covers = rw (c.in-Some.is, c.as_bytes.ensures.value) at c.in_ok-places.ensures.all in
    let up = rw c.in-Some.is at c.in_ok-places.ensures.ascending in
    asked_moves (g.V.Visit.took first) first c.visit_places.new.visitor c.args.coll.now (Passes c.args.front.now) (table_state g.S.Store c.args.self.now.table) (table_state g.S.Store c.visit_places.new.table) c.args.self.now.indexes c.in-Some.places.items c.visit_places.result
    c.args.self.now.kept covers up c.visit_places.ensures.open (rw c.as_slice.ensures.value at c.visit_places.ensures.moves)

pub returns-in-None-clause-moves : goal.returns-in-None-clause-moves
returns-in-None-clause-moves g c =
    let first = c.args.visitor.now in
    let last = c.visit_bodies.new.visitor in
    let took = g.V.Visit.took first in
    let coll = c.args.coll.now in
    let f = Passes c.args.front.now in
    moved (table_state g.S.Store c.args.self.now.table) (table_state g.S.Store c.visit_bodies.new.self) (Visits took first last coll c.visit_bodies.result) (VisitsAsked took first last coll f c.visit_bodies.result) c.visit_bodies.ensures.moves
    (λ docs after h. scanned took first last coll f c.visit_bodies.result docs after h)
