use Rattle.std.proofs.Common.{refl}
use Rattle.bson_base.specs.Scalars.{decimal_bytes}
use Rattle.bson_base.specs.Value.{decimal, scalar}
use Rattle.store_question_read.proofs.made.others.Goals as goal

pub returns-in-Some : goal.returns-in-Some
returns-in-Some c = rw c.in-Some.is (c.compared.ensures (scalar (decimal (decimal_bytes c.in-Some.exact))) refl)

pub returns-in-None : goal.returns-in-None
returns-in-None c = rw c.in-None.is c.beyond.ensures
