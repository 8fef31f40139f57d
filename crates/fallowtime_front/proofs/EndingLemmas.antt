-- The line that is told at the end.
use Rattle.std.proofs.Common.{◌≡◌, inl, inr, ℕ, List, String, Global, Result, Ok, Err, IfOk, OnErr, string_bytes, subst}
use Rattle.std.specs.declared.alloc.AllocError.{AllocError}
use Rattle.bson_base.specs.Device.{Tally, TakesText}
use Rattle.cli_convert.specs.Reports.{memory_line}
use Rattle.fallowtime_front.specs.Ending.{TellsLine}

pub told : (r : Result (String Global) AllocError) (text : List ℕ) (before after : Tally) → IfOk r (λ (line : String Global). string_bytes line ≡ text) → IfOk r (λ (line : String Global). TakesText before after (string_bytes line)) → OnErr r (TakesText before after memory_line) → TellsLine text before after
told (Ok line) text before after is takes none = inl (subst (λ t. TakesText before after t) is takes)
told (Err e) text before after is takes memory = inr memory
