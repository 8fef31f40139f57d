use Rattle.std.proofs.Common.{◌-◌, ◌∙◌, ap}
use Rattle.bson_base.specs.Decimal.{all_digits}
use Rattle.bson_base.specs.DecimalParts.{digits_of}
use Rattle.bson_base.proofs.PrintedDecimalLemmas.{all_digits-take}
use Rattle.bson_base.proofs.decimal128.parse.drop_last.Goals as goal

pub value-requires-clause-all : goal.value-requires-clause-all
value-requires-clause-all c = ap all_digits c.first.ensures ∙ all_digits-take (c.len-2.result - c.args.missing) (digits_of c.args.digits) c.requires.all
