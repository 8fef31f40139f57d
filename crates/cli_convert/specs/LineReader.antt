-- What a reader of lines holds, and the next line.
use Rattle.std.specs.Prelude.{◌≡◌, ◌⊎◌, ℕ, ◌+◌, ◌-◌, ◌^◌, ◌<◌, ◌≤◌, List, [], ◌∷◌, ◌++◌, Bool, true, false, Result, Ok, Err, length, take, drop}
use Rattle.bson_base.specs.declared.device.DeviceFault.{DeviceFault}
use Rattle.bson_base.specs.Device.{Feed, Gives, IsExhausted, Supply}
use Rattle.cli_convert.specs.Line.{IsUnbroken, Keeps}
use Rattle.cli_convert.specs.declared.line.Line.{Line}
use Rattle.cli_convert.specs.declared.line_reader.Lines.{Lines}
use Rattle.cli_convert.specs.declared.line_reader.Next.{Next}
use Rattle.cli_convert.specs.declared.line_reader.Next.TheVariants.{Whole, Last, End}

-- the bytes that were read and not yet handed out
abbrev pub waiting : Lines → List ℕ
waiting l = take (l.until - l.at) (drop l.at l.chunk.items)

-- the line feed that was met
abbrev pub broken : Bool → List ℕ
broken true = 10 ∷ []
broken false = []

-- the bytes begin with a line and its line feed; or they are the last line, without one; or there are none
abbrev pub Reads : Next → List ℕ → List ℕ → Supply → Line → Type 0
Reads Whole bytes left new l = (text : List ℕ) × IsUnbroken text × Keeps l text × (bytes ≡ text ++ 10 ∷ left)
Reads Last bytes left new l = (text : List ℕ) × IsUnbroken text × Keeps l text × (bytes ≡ text) × (0 < length text) × (left ≡ []) × IsExhausted new
Reads End bytes left new l = (bytes ≡ []) × (left ≡ []) × IsExhausted new

-- so of what waited and what the source gave; or a read failed, or they don't end
abbrev pub ReadsNext : Result Next DeviceFault → Lines → Lines → Feed → Feed → Line → Type 0
ReadsNext (Ok next) before after old new l = (new.failures ≡ old.failures) × ((given : List ℕ) × Gives old.supply new.supply given × Reads next (waiting before ++ given) (waiting after) new.supply l)
ReadsNext (Err e) before after old new l =
    (given : List ℕ) × Gives old.supply new.supply given × (((new.failures ≡ old.failures + 1) × IsUnbroken (waiting before ++ given)) ⊎ (2 ^ 64 - 1 ≤ length (waiting before ++ given)))
