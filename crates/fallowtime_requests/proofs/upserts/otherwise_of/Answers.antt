use Rattle.std.proofs.Common.{refl}
use Rattle.bson_model.specs.View.{content}
use Rattle.store_question_read.specs.Seed.{fixed_by}
use Rattle.fallowtime_requests.proofs.UpsertLemmas.{unmade}
use Rattle.fallowtime_requests.proofs.upserts.otherwise_of.Goals as goal

pub returns-in_ok-id-in-Ok : goal.returns-in_ok-id-in-Ok
returns-in_ok-id-in-Ok c = (content c.in-Ok.document, c.in-Ok.ensures, c.in_ok-document-in-Ok.ensures.document, c.with_id.ensures.maker, c.in_ok-id-in-Ok.ensures)

pub returns-in_default : goal.returns-in_default
returns-in_default c = (unmade (fixed_by c.args.seed) c.args.work.now c.in-Err.error c.in-Err.ensures c.in_default.not-Memory, refl)
