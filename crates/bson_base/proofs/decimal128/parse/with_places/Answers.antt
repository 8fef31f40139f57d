use Rattle.std.proofs.Common.{◌∙◌, ap}
use Rattle.bson_base.specs.Decimal.{all_digits}
use Rattle.bson_base.specs.DecimalParts.{digits_of}
use Rattle.bson_base.proofs.DecimalLemmas.{all_digits-strip}
use Rattle.bson_base.proofs.decimal128.parse.with_places.Goals as goal

pub fit-requires-clause-all : goal.fit-requires-clause-all
fit-requires-clause-all c = ap all_digits c.strip.ensures ∙ all_digits-strip (digits_of c.args.digits) c.requires.all
