use Rattle.std.proofs.Common.{rules, Err, ap}
use Rattle.bson_model.specs.View.{view}
use Rattle.store_documents.specs.Names.{name_bytes}
use Rattle.bson_store.proofs.FindLemmas.{long_looks, unplain_looks}
use Rattle.store_asked.proofs.ReadLemmas.{absent_as, database_denied, found_as}
use Rattle.store_asked.proofs.store.ReadOnlyStore.body_with_id.Goals as goal

pub returns-then-may_have_older_key-clause-reads : goal.returns-then-may_have_older_key-clause-reads
returns-then-may_have_older_key-clause-reads g c clean docs are = rw c.from.ensures (database_denied docs (name_bytes c.args.name) (view c.args.id.now))

pub returns-in-Err-NotPlain-clause-reads : goal.returns-in-Err-NotPlain-clause-reads
returns-in-Err-NotPlain-clause-reads g c clean docs are = unplain_looks docs (name_bytes c.args.name) (view c.args.id.now) c.key_of_id.ensures.sound (c.in-Err-NotPlain.ensures.not_plain (ap Err c.in-Err-NotPlain.field-0-is))

pub returns-in-Err-TooLong-clause-reads : goal.returns-in-Err-TooLong-clause-reads
returns-in-Err-TooLong-clause-reads g c clean docs are = long_looks docs (name_bytes c.args.name) (view c.args.id.now) c.key_of_id.ensures.sound (c.in-Err-TooLong.ensures.too_long (ap Err c.in-Err-TooLong.field-0-is))

pub returns-in-Ok-None-clause-reads : goal.returns-in-Ok-None-clause-reads
returns-in-Ok-None-clause-reads g c clean docs are = absent_as docs (name_bytes c.args.name) _ c.in-Ok.key.items _ (view c.args.id.now) _ c.in-Ok.ensures.ok (c.in-Ok-None.ensures.found clean docs are) c.in-Ok-None.field-0-is (search rules) (search rules)

pub returns-in-Ok-Some-clause-reads : goal.returns-in-Ok-Some-clause-reads
returns-in-Ok-Some-clause-reads g c clean docs are = found_as docs (name_bytes c.args.name) _ c.in-Ok.key.items _ (view c.args.id.now) _ c.in-Ok-Some.body c.in-Ok.ensures.ok (c.in-Ok-Some.ensures.found clean docs are) c.in-Ok-Some.field-0-is (search rules) (search rules)
