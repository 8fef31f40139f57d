use Rattle.std.proofs.Common.{refl}
use Rattle.bson_base.specs.Value.{double, scalar}
use Rattle.store_question.specs.Asked.{no_asked}
use Rattle.store_question_read.proofs.MadeLemmas.{beyond_asks, none_read}
use Rattle.store_question_read.proofs.made.beyond.Goals as goal

pub returns-in-Equal : goal.returns-in-Equal
returns-in-Equal c = rw c.in-Equal.is (c.any.ensures no_asked (none_read c.new.result.items c.new.ensures.items))

pub returns-in_default : goal.returns-in_default
returns-in_default c = beyond_asks c.args.comparison c.args.double.0 c.compared.result c.in_default.not-Equal (c.compared.ensures (scalar (double c.args.double.0)) refl)
