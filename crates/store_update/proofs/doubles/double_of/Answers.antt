use Rattle.std.proofs.Common.{sym, ◌∙◌}
use Rattle.std.proofs.lemmas.Bool.{le-ltb}
use Rattle.std.proofs.lemmas.Float.{T_from_false}
use Rattle.std.specs.Float.{binary64}
use lib.Ieee.Bits.{nan_bits_above}
use Rattle.store_update.proofs.DoubleLemmas.{nan_read, zero_by_zero}
use Rattle.store_update.proofs.doubles.double_of.Goals as goal

pub float_from_bits-result : goal.float_from_bits-result
float_from_bits-result c = T_from_false _ (nan_bits_above binary64 c.args.pattern ∙ le-ltb _ _ c.if-pattern-gt-INFINITY.false)

pub returns-then-pattern-gt-INFINITY : goal.returns-then-pattern-gt-INFINITY
returns-then-pattern-gt-INFINITY c = zero_by_zero ∙ sym (nan_read c.args.pattern c.if-pattern-gt-INFINITY.true)
