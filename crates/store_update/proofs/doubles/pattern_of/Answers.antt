use Rattle.std.proofs.Common.{sym, ◌∙◌}
use Rattle.store_update.proofs.DoubleLemmas.{nan_written}
use Rattle.store_update.proofs.doubles.pattern_of.Goals as goal

pub returns-then-is_nan : goal.returns-then-is_nan
returns-then-is_nan c = nan_written c.args.double (sym c.is_nan.ensures.value ∙ c.if-is_nan.true)
