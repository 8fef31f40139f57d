use Rattle.std.proofs.Common.{arith, inl, refl}
use Rattle.fallowtime_words.specs.declared.table.Argument.TheVariants.{Collection, Pipeline}
use Rattle.fallowtime_requests.specs.Inputs.{seen}
use Rattle.fallowtime_requests.proofs.CountLemmas.{not_two}
use Rattle.fallowtime_requests.proofs.aggregating.with_pipeline.Goals as goal
use Rattle.fallowtime_requests.proofs.aggregating.with_pipeline.Goals.{in_default-via-then-arguments-lt2, in_default-via-else-arguments-lt2+else-arguments-lt3}

pub returns-in_default : goal.returns-in_default
returns-in_default c =
    λ m. inl
    (not_two seen Collection Pipeline c.args.arguments.now (λ x. x) (λ x. x) (λ e. elim c.in_default.branch [ in_default-via-then-arguments-lt2 w ↦ grind arith | in_default-via-else-arguments-lt2+else-arguments-lt3 w ↦ grind arith ]), refl)
