-- Refusals of commands.
use Rattle.std.specs.Prelude.{◌≡◌, ℕ, List, string_bytes}
use Rattle.fallowtime_statements.specs.declared.fault.Code.{Code}
use Rattle.fallowtime_statements.specs.declared.fault.Fault.{Fault}
use Rattle.fallowtime_statements.specs.declared.fault.Fault.TheVariants.{Memory, Refused}

-- this error, and what it is about; or memory ran out
abbrev pub IsAbout : Code → List ℕ → Fault → Type 0
IsAbout c about (Refused d text) = (d ≡ c) × (string_bytes text ≡ about)
IsAbout c about Memory = Unit {0}
