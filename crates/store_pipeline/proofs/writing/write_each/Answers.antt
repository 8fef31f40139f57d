use Rattle.std.proofs.Common.{Vec, List, ℕ, take_all, ◌<◌, ◌+◌, Err, Ok, length, map, take, subst, sym, arith}
use Rattle.std.proofs.lemmas.List.{length-map}
use Rattle.std.proofs.lemmas.Result.{err_from_is_err_and}
use Rattle.std.specs.declared.alloc.Global.{Global}
use Rattle.bson_base.specs.Value.{no_members}
use Rattle.bson_model.specs.View.{content}
use Rattle.store_pipeline.specs.Faithful.{AnswersWritten}
use Rattle.store_pipeline.proofs.EachLemmas.{mapped_at}
use Rattle.store_pipeline.proofs.WrittenLemmas.{AreWritten, made_of, written_more, written_stop}
use Rattle.store_pipeline.proofs.writing.write_each.Goals as goal

pub loop-document-preserved : goal.loop-document-preserved
loop-document-preserved c = λ faithful.
    let documents = c.args.documents.now in
    let i = c.loop-document.document-index in
    let low : i < length documents = omega (arith, c.loop-document-test.true, c.loop-document.auto.document-index-end) in
    let long : i < length (map content documents) = omega (arith, low, length-map documents content) in
    let here = mapped_at content i documents c.document-item.result no_members low c.document-item.is in
    subst (AreWritten (take (i + 1) (map content documents))) (sym {A = List (Vec ℕ Global)} c.in_ok-add.ensures)
    (written_more (map content documents) i long c.loop-document.bodies.items c.in_ok-written.field-0 faithful (subst (λ e. AnswersWritten e (Ok c.in_ok-written.field-0)) here c.in_ok-written.ensures) (c.loop-document.invariant faithful))

pub returns-in_err-written : goal.returns-in_err-written
returns-in_err-written c = λ faithful.
    let documents = c.args.documents.now in
    let i = c.loop-document.document-index in
    let low : i < length documents = omega (arith, c.loop-document-test.true, c.loop-document.auto.document-index-end) in
    let long : i < length (map content documents) = omega (arith, low, length-map documents content) in
    let here = mapped_at content i documents c.document-item.result no_members low c.document-item.is in
    let p = err_from_is_err_and c.from_residual-in_err-written.result c.from_residual-in_err-written.ensures.1 in
    rw (p.1, p.2) (written_stop (map content documents) i long c.in_err-written.field-0.0 (subst (λ e. AnswersWritten e (Err c.in_err-written.field-0.0)) here c.in_err-written.ensures) (c.loop-document.invariant faithful).0)

pub returns : goal.returns
returns c = λ faithful.
    let documents = c.args.documents.now in
    made_of (map content documents) c.loop-document.bodies
    (subst (λ l. AreWritten l c.loop-document.bodies.items) (take_all c.loop-document.document-index (map content documents) (omega (arith, c.loop-document-test.false, c.loop-document.auto.document-index-end, length-map documents content))) (c.loop-document.invariant faithful))
