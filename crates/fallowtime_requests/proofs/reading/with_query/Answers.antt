use Rattle.std.proofs.Common.{arith, inl, refl}
use Rattle.fallowtime_words.specs.declared.table.Argument.TheVariants.{Collection}
use Rattle.fallowtime_requests.specs.Inputs.{seen}
use Rattle.fallowtime_requests.proofs.CountLemmas.{not_one_or_two}
use Rattle.fallowtime_requests.proofs.reading.with_query.Goals as goal
use Rattle.fallowtime_requests.proofs.reading.with_query.Goals.{in_default-via-then-arguments-lt1, in_default-via-else-arguments-lt1+else-arguments-lt2+else-arguments-lt3}

pub returns-in_default : goal.returns-in_default
returns-in_default c =
    λ m. inl
    (not_one_or_two seen Collection c.args.arguments.now (λ x. x) (λ e. elim c.in_default.branch [ in_default-via-then-arguments-lt1 w ↦ grind arith | in_default-via-else-arguments-lt1+else-arguments-lt2+else-arguments-lt3 w ↦ grind arith ]) (λ e. elim c.in_default.branch [ in_default-via-then-arguments-lt1 w ↦ grind arith | in_default-via-else-arguments-lt1+else-arguments-lt2+else-arguments-lt3 w ↦ grind arith ]), refl)
