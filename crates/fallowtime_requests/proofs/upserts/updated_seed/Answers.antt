use Rattle.std.proofs.Common.{map}
use Rattle.std.proofs.lemmas.Result.{err_from_is_err_and}
use Rattle.bson_model.specs.View.{content}
use Rattle.store_update.specs.Answer.{viewed_document}
use Rattle.store_update.specs.Plan.{plan_of}
use Rattle.fallowtime_requests.proofs.UpsertLemmas.{not_set, set_and_made}
use Rattle.fallowtime_requests.proofs.upserts.updated_seed.Goals as goal

pub returns-in_err-document-2 : goal.returns-in_err-document-2
returns-in_err-document-2 c =
    let p = err_from_is_err_and c.from_residual-in_err-document-2.result c.from_residual-in_err-document-2.ensures.1 in
    rw (p.1, p.2) (
    not_set c.args.seed (map plan_of c.args.steps.now) c.as_slice.result.now (content c.in_ok-document.document) c.as_slice.ensures.value c.in_ok-document.ensures c.in_err-document-2.field-0.0 c.in_err-document-2.ensures
    )

pub returns : goal.returns
returns c =
    set_and_made c.args.seed (map plan_of c.args.steps.now) c.as_slice.result.now (content c.in_ok-document.document) c.as_slice.ensures.value c.in_ok-document.ensures (content c.in_ok-document-2.document) (viewed_document c.inserted-2.result)
    c.in_ok-document-2.ensures c.inserted-2.ensures
