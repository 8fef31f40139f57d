use Rattle.std.proofs.Common.{◌≡◌, [], Err, length, sym, ◌∙◌, subst, rules}
use Rattle.std.proofs.lemmas.List.{nil_from_length}
use Rattle.std.proofs.lemmas.Result.{err_from_is_err_and}
use Rattle.store_model.specs.Reading.{ReadsStream}
use Rattle.store_model.specs.Refusal.{refusal_at}
use Rattle.store_documents.specs.Judging.{Judges}
use Rattle.store_documents.proofs.ManyLemmas.{judged_memory, judged_refused}
use Rattle.store_documents.proofs.JudgeLemmas.{so_far_pushed, so_far_done}
use Rattle.store_documents.proofs.StreamLemmas.{any_stream, stream_end}
use Rattle.store_documents.proofs.stream.judge_stream.Goals as goal

pub returns-in_err-push-in-Ok : goal.returns-in_err-push-in-Ok
returns-in_err-push-in-Ok c =
    let rows = c.loop-rest.rows.items in
    let p = err_from_is_err_and c.from_residual.result c.from_residual.ensures.1 in
    rw (p.1, p.2) (judged_memory (ReadsStream c.args.bytes.now) (ReadsStream c.loop-rest.rest.now) rows (length rows) c.loop-rest.invariant (any_stream c.loop-rest.rest.now))

pub loop-rest-preserved : goal.loop-rest-preserved
loop-rest-preserved c =
    let a = c.in-Ok.ensures.answer in
    so_far_pushed (ReadsStream c.args.bytes.now) (ReadsStream c.loop-rest.rest.now) (ReadsStream c.in-Ok.more.now) c.loop-rest.rows.items c.push.new.self.items a.0 c.in-Ok.row c.loop-rest.invariant a.1 a.2 a.3 a.4 a.5 c.in_ok-push-in-Ok.ensures.items

pub returns-in-Err : goal.returns-in-Err
returns-in-Err c =
    let rows = c.loop-rest.rows.items in
    let place : c.len.result ≡ length rows = c.len.ensures ∙ c.loop-rest.rows.ok.0 in
    let told = judged_refused (ReadsStream c.args.bytes.now) (ReadsStream c.loop-rest.rest.now) rows (length rows) c.in-Err.kind c.loop-rest.invariant (any_stream c.loop-rest.rest.now) c.in-Err.ensures.answer in
    subst (λ e. Judges (ReadsStream c.args.bytes.now) (Err e)) (sym c.at.ensures) (subst (λ n. Judges (ReadsStream c.args.bytes.now) (Err (refusal_at c.in-Err.kind n))) (sym place) told)

pub returns : goal.returns
returns c =
    let ended : c.loop-rest.rest.now ≡ [] = nil_from_length c.loop-rest.rest.now (search rules) in
    so_far_done (ReadsStream c.args.bytes.now) (ReadsStream c.loop-rest.rest.now) c.loop-rest.rows (length c.loop-rest.rows.items) c.loop-rest.invariant (stream_end c.loop-rest.rest.now ended)
