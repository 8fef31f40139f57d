use Rattle.std.specs.Prelude.{option_map}
use Rattle.bson_model.specs.View.{content, view}
use Rattle.store_question_read.specs.UpdateOutcome.{plans_of}
use Rattle.store_question_read.specs.Seed.{fixed_by}
use Rattle.fallowtime_requests.specs.Upserts.{made_by}
use Rattle.fallowtime_requests.proofs.UpsertLemmas.{taken, told}
use Rattle.fallowtime_requests.proofs.upserts.made.Goals as goal

pub returns-in-Update : goal.returns-in-Update
returns-in-Update c = rw c.in-Update.is (told (made_by (fixed_by c.args.seed) (plans_of c.in-Update.steps)) c.updated_seed.result (rw c.as_slice.ensures.value at c.updated_seed.ensures))

pub returns-in_ok-copy-in-Replace : goal.returns-in_ok-copy-in-Replace
returns-in_ok-copy-in-Replace c = rw c.in-Replace.is (taken (option_map view c.args.seed.id) (content c.in_ok-copy-in-Replace.copy) (content c.in-Replace.document) c.replacement.result c.in_ok-copy-in-Replace.ensures c.replacement.ensures)
