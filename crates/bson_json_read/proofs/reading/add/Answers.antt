use Rattle.std.proofs.Common.{string_bytes}
use Rattle.bson_model.specs.View.{view, pairs_of}
use Rattle.bson_json_read.proofs.OnwardLemmas.{added_twice, added_new}
use Rattle.bson_json_read.proofs.reading.add.Goals as goal

pub returns-in-Some : goal.returns-in-Some
returns-in-Some c = added_twice (string_bytes c.args.key) (view c.args.value) (pairs_of c.args.document.now) c.in_ok-before.field-0 c.in-Some.before c.in-Some.is c.in_ok-before.ensures.before

pub returns-in-None : goal.returns-in-None
returns-in-None c = added_new (string_bytes c.args.key) (view c.args.value) (pairs_of c.args.document.now) (pairs_of c.insert.new.self) c.in_ok-before.field-0 c.in-None.is c.in_ok-before.ensures.before c.in_ok-before.ensures.ok
