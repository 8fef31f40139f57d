use Rattle.std.proofs.Common.{rules}
use Rattle.bson_model.specs.declared.bson.Bson as bson
use Rattle.bson_model.specs.declared.bson.Bson.{the_lemmas}
use Rattle.store_pipeline.proofs.LedLemmas.{key_absent, key_there}
use Rattle.store_pipeline.proofs.operand.key_in.Goals as goal
use Rattle.store_pipeline.specs.Operands.{taken}

pub returns-in-Some : goal.returns-in-Some
returns-in-Some c = λ d is. key_there c.in_ok-key.field-0 (taken c.args.operand.now d) c.in-Some.key c.in-Some.is (c.in_ok-key.ensures d is)

pub returns-in-None : goal.returns-in-None
returns-in-None c = λ d is. key_absent c.in_ok-key.field-0 (taken c.args.operand.now d) bson.Null c.in-None.is (search (rules, the_lemmas)) (c.in_ok-key.ensures d is)
