-- What taking one message does to a source.
use Rattle.std.specs.Prelude.{◌≡◌, ℕ, ◌+◌, ◌<◌, ◌≤◌, Bool, true, false, List, [], ◌++◌, length, Option, Some, None, Result, Ok, Err, ◌⊎◌}
use Rattle.bson_base.specs.Device.{Feed, Took, TookAll}
use Rattle.bson_frame.specs.Frame.{number}
use Rattle.bson_message.specs.declared.fault.ReadFault.{ReadFault}
use Rattle.bson_message.specs.declared.fault.ReadFault.TheVariants.{Reader, EndInside, BadLength, Memory}

-- a length that a message may declare: its header, and no more than 48000000 bytes
abbrev pub IsMessageLength : ℕ → Type 0
IsMessageLength n = (16 ≤ n) × (n ≤ 48000000)

-- the bytes of one message: as many as the first four declare
abbrev pub AreDeclared : List ℕ → Type 0
AreDeclared bytes = IsMessageLength (number bytes) × (length bytes ≡ number bytes)

-- too few bytes for a length, or fewer than are declared
abbrev pub EndInMessage : List ℕ → Type 0
EndInMessage bytes = (length bytes < 4) ⊎ ((4 ≤ length bytes) × IsMessageLength (number bytes) × (length bytes < number bytes))

-- the next message, unless nothing was left
abbrev pub TakesMessage : Feed → Feed → List ℕ → Result Bool ReadFault → Type 0
TakesMessage old new all (Ok true) = Took old new all × AreDeclared all
TakesMessage old new all (Ok false) = TookAll old new []
TakesMessage old new all (Err Reader) = new.failures ≡ old.failures + 1
TakesMessage old new all (Err EndInside) = (bytes : List ℕ) × TookAll old new bytes × (0 < length bytes) × EndInMessage bytes
TakesMessage old new all (Err BadLength) = (bytes : List ℕ) × Took old new bytes × (length bytes ≡ 4) × (IsMessageLength (number bytes) → ⊥)
TakesMessage old new all (Err Memory) = (bytes : List ℕ) × Took old new bytes × (length bytes ≡ 4) × IsMessageLength (number bytes)

-- ---- its parts

-- the first four bytes, unless nothing was left
abbrev pub ReadsHead : Feed → Feed → Result (Option (List ℕ)) ReadFault → Type 0
ReadsHead old new (Ok None) = TookAll old new []
ReadsHead old new (Ok (Some head)) = Took old new head × (length head ≡ 4)
ReadsHead old new (Err Reader) = new.failures ≡ old.failures + 1
ReadsHead old new (Err EndInside) = (bytes : List ℕ) × TookAll old new bytes × (0 < length bytes) × (length bytes < 4)
ReadsHead old new (Err _) = ⊥

-- the bytes after the first four, up to a length
abbrev pub ReadsRest : Feed → Feed → List ℕ → ℕ → List ℕ → Result (Unit {0}) ReadFault → Type 0
ReadsRest old new head n all (Ok x) = (rest : List ℕ) × Took old new rest × (all ≡ head ++ rest) × (length all ≡ n)
ReadsRest old new head n all (Err Reader) = new.failures ≡ old.failures + 1
ReadsRest old new head n all (Err EndInside) = (rest : List ℕ) × TookAll old new rest × (length (head ++ rest) < n)
ReadsRest old new head n all (Err Memory) = new ≡ old
ReadsRest old new head n all (Err _) = ⊥
