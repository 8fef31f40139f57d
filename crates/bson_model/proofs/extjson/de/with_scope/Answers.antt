use Rattle.std.proofs.Common.{rules}
use Rattle.bson_model.specs.declared.bson.Bson.{the_lemmas}
use Rattle.bson_model.proofs.extjson.de.with_scope.Goals as goal

pub returns-in-Some : goal.returns-in-Some
returns-in-Some c = rw c.in-Some.is (search (rules, the_lemmas))
