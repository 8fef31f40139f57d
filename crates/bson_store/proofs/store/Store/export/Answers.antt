use Rattle.std.proofs.Common.{rules, Err, inr, refl, ap}
use Rattle.std.proofs.lemmas.Result.{err_from_is_err_and}
use Rattle.bson_base.specs.Device.{Tally}
use Rattle.store_model.specs.declared.error.ErrorKind.TheVariants as kind
use Rattle.bson_store.specs.Calls.{store_state}
use Rattle.bson_store.specs.Export.{SendsCollection}
use Rattle.store_model.specs.Refusal.{refusal}
use Rattle.bson_store.specs.declared.export.ExportVisitor.{ExportVisitor}
use Rattle.bson_store.specs.Table.{indexed_state as table_state}
use Rattle.bson_store.proofs.MoveLemmas.{rests, moved}
use Rattle.bson_store.proofs.DeviceLemmas.{of_failed, of_fault, of_sent}
use Rattle.bson_store.proofs.ExportLemmas.{sends_none, all_sent, table_failed, writer_failed}
use Rattle.bson_store.proofs.store.Store.export.Goals as goal

pub returns-in_err-name-clause-moves : goal.returns-in_err-name-clause-moves
returns-in_err-name-clause-moves g c =
    let p = err_from_is_err_and c.from_residual.result c.from_residual.ensures.1 in
    let t : Tally = g.W.Sink.tally c.args.writer.now in
    rw (p.1, p.2, c.in_err-name.ensures.0) (rests (store_state g.S.Store c.args.self.now) (SendsCollection c.args.name.now t t (Err (refusal kind.BadName))) (λ docs. sends_none docs c.args.name.now t c.in_err-name.ensures.1))

pub returns-then-visitor-clause-moves : goal.returns-then-visitor-clause-moves
returns-then-visitor-clause-moves g c =
    let of_writer : g.row.W.Denot → Tally = λ w. g.W.Sink.tally w in
    let tally : ExportVisitor g.row.W.Denot g.W.Sink → Tally = λ v. of_writer v.writer.now in
    rw c.from.ensures
    (moved (store_state g.S.Store c.args.self.now) (table_state g.S.Store c.visit_bodies-sent.new.self) _ _ (rw c.as_str.ensures.text at c.visit_bodies-sent.ensures.moves)
    (λ docs after h. writer_failed tally (λ v. v.failed) (λ v. v.writer.ghost_name) _ _ _ (λ e. ap of_writer (search rules)) docs after c.args.name.now _ c.in_ok-name.ensures.1 refl c.if-visitor.true (rw c.in_ok-name.ensures.0 at h)))

pub returns-in-Err-clause-moves : goal.returns-in-Err-clause-moves
returns-in-Err-clause-moves g c =
    let of_writer : g.row.W.Denot → Tally = λ w. g.W.Sink.tally w in
    let tally : ExportVisitor g.row.W.Denot g.W.Sink → Tally = λ v. of_writer v.writer.now in
    rw c.fault_refusal.ensures
    (moved (store_state g.S.Store c.args.self.now) (table_state g.S.Store c.visit_bodies-sent.new.self) _ _ (rw c.as_str.ensures.text at c.in-Err.ensures.moves)
    (λ docs after h. table_failed tally (λ v. v.failed) (λ v. v.writer.ghost_name) _ _ _ (λ e. ap of_writer (search rules)) docs after c.args.name.now c.in-Err.fault c.in_ok-name.ensures.1 refl c.if-visitor.false (rw c.in_ok-name.ensures.0 at h)))

pub returns-in-Ok-clause-moves : goal.returns-in-Ok-clause-moves
returns-in-Ok-clause-moves g c =
    let of_writer : g.row.W.Denot → Tally = λ w. g.W.Sink.tally w in
    let tally : ExportVisitor g.row.W.Denot g.W.Sink → Tally = λ v. of_writer v.writer.now in
    moved (store_state g.S.Store c.args.self.now) (table_state g.S.Store c.visit_bodies-sent.new.self) _ _ (rw c.as_str.ensures.text at c.in-Ok.ensures.moves)
    (λ docs after h. all_sent tally (λ v. v.failed) (λ v. v.writer.ghost_name) _ _ _ (λ e. ap of_writer (search rules)) docs after c.args.name.now c.in-Ok.field-0 c.in_ok-name.ensures.1 refl c.if-visitor.false c.in-Ok.ensures.stopped (rw c.in_ok-name.ensures.0 at h))

pub returns-in_err-name-clause-device : goal.returns-in_err-name-clause-device
returns-in_err-name-clause-device g c =
    let p = err_from_is_err_and c.from_residual.result c.from_residual.ensures.1 in
    rw (p.1, p.2, c.in_err-name.ensures.0) (inr ((λ is. cc), refl))

pub returns-then-visitor-clause-device : goal.returns-then-visitor-clause-device
returns-then-visitor-clause-device g c =
    let of_writer : g.row.W.Denot → Tally = λ w. g.W.Sink.tally w in
    let taken = c.visit_bodies-sent.ensures.taken (refl, (refl, search rules)) in
    rw c.from.ensures (of_failed (of_writer c.args.writer.now) _ _ _ taken.0 c.if-visitor.true taken.1.1 (ap of_writer (search rules)))

pub returns-in-Err-clause-device : goal.returns-in-Err-clause-device
returns-in-Err-clause-device g c =
    let of_writer : g.row.W.Denot → Tally = λ w. g.W.Sink.tally w in
    let taken = c.visit_bodies-sent.ensures.taken (refl, (refl, search rules)) in
    rw c.fault_refusal.ensures (of_fault (of_writer c.args.writer.now) _ _ _ taken.0 c.in-Err.fault c.if-visitor.false taken.1.1 (ap of_writer (search rules)))

pub returns-in-Ok-clause-device : goal.returns-in-Ok-clause-device
returns-in-Ok-clause-device g c =
    let of_writer : g.row.W.Denot → Tally = λ w. g.W.Sink.tally w in
    let taken = c.visit_bodies-sent.ensures.taken (refl, (refl, search rules)) in
    of_sent (of_writer c.args.writer.now) _ _ _ taken.0 c.if-visitor.false taken.1.1 (ap of_writer (search rules))
