use Rattle.std.proofs.Common.{◌∙◌, length, ap, arith, length-take}
use Rattle.bson_base.specs.Decimal.{all_digits}
use Rattle.bson_base.specs.DecimalParts.{digits_of}
use Rattle.bson_base.proofs.PrintedDecimalLemmas.{all_digits-take}
use Rattle.bson_base.proofs.decimal128.parse.lift.Goals as goal

pub returns-clause-digits : goal.returns-clause-digits
returns-clause-digits c = (
  omega (arith, ap length c.first.ensures, length-take c.args.kept (digits_of c.args.digits)),
  ap all_digits c.first.ensures ∙ all_digits-take c.args.kept (digits_of c.args.digits) c.requires.all,
  omega arith,
)
