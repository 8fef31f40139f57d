-- How a program ends that tells of itself, or of a command.
use Rattle.std.proofs.Common.{◌⊎◌, ◌≡◌, inl, inr, ℕ, None, Ok, Err}
use Rattle.bson_base.specs.Device.{Tally, TakesText}
use Rattle.store_model.specs.Refusal.{refusal}
use Rattle.store_model.specs.declared.error.ErrorKind.{ErrorKind}
use Rattle.cli_commands.specs.Lines.{complaint_line, refusal_line}
use Rattle.cli_commands.specs.declared.lines.UsageError.{UsageError}
use Rattle.cli_commands.specs.declared.stop.Failure.TheVariants.{Refused, Words}
use Rattle.bson_store_cli.specs.Serving.{ReportsSome}

pub without_text : {A B C D : Type 0} → (A × B × C) ⊎ D → (A × B) ⊎ D
without_text (inl (a, b, c)) = inl (a, b)
without_text (inr d) = inr d

-- it is done
pub done_reported : {status : ℕ} (before after : Tally) → status ≡ 0 → ReportsSome before after status
done_reported before after is = (Ok tt, is)

-- a refusal's line went out, with its status
pub refusal_reported : {status : ℕ} (k : ErrorKind) (before after : Tally) → status ≡ 1 → TakesText before after (refusal_line k None) → ReportsSome before after status
refusal_reported k before after is line = (Err (Refused (refusal k)), (is, line))

-- so did that of words that can't be read
pub complaint_reported : {status : ℕ} (w : UsageError) (before after : Tally) → status ≡ 2 → TakesText before after (complaint_line w) → ReportsSome before after status
complaint_reported w before after is line = (Err (Words w), (is, line))
