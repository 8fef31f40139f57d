use Rattle.bson_base.specs.Decimal.{unpack}
use Rattle.bson_base.proofs.DecimalBitsLemmas.{unpack_is}
use Rattle.bson_base.proofs.PrintedDecimalLemmas.{finite_back, decimal_back}
use Rattle.bson_base.proofs.laws.decimals.printed_decimals_come_back.Goals as goal

pub returns-clause-parts : goal.returns-clause-parts
returns-clause-parts c = finite_back

pub returns-clause-bits : goal.returns-clause-bits
returns-clause-bits c = λ n. decimal_back (unpack n) (unpack_is n)
