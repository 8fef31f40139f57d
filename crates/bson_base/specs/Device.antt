-- What a call does to a device: how often it failed, and the bytes that it gave or took, if it knows them.
use Rattle.std.specs.Prelude.{◌≡◌, ◌⊎◌, ℕ, ◌+◌, List, [], Option, Result, Ok, Err, take, ◌<◌, ◌^◌, ◌-◌}
use Rattle.std.specs.Io.KnownBytes.{Appends, Consumes, IsAtEnd}
use Rattle.bson_base.specs.declared.whole.ReadAllError.{ReadAllError}
use Rattle.bson_base.specs.declared.whole.ReadAllError.TheVariants.{Reader, Memory}

-- the count of failures rises by one exactly at a failure
abbrev pub Counts : {A E : Type 0} → ℕ → ℕ → Result A E → Type 0
Counts old new (Ok x) = new ≡ old
Counts old new (Err e) = new ≡ old + 1

-- what a source knows of its bytes
pub record Supply : Type 0 where
  -- the bytes that it gave so far
  pub given : Option (List ℕ)
  -- the bytes that it would still give
  pub left : Option (List ℕ)

-- a source gave bs: the first of what it had left
abbrev pub Gives : Supply → Supply → List ℕ → Type 0
Gives old new bs = Appends old.given new.given bs × Consumes old.left new.left bs

-- a source has nothing left
abbrev pub IsExhausted : Supply → Type 0
IsExhausted s = IsAtEnd s.left

-- a read gave the first n of buf at `Ok(n)`, and nothing at a failure
abbrev pub ReadGives : {E : Type 0} → Supply → Supply → Result ℕ E → List ℕ → Type 0
ReadGives old new (Ok n) buf = Gives old new (take n buf)
ReadGives old new (Err e) buf = Gives old new []

-- a write took the first n of buf at `Ok(n)`, and nothing at a failure
abbrev pub WriteTakes : {E : Type 0} → Option (List ℕ) → Option (List ℕ) → Result ℕ E → List ℕ → Type 0
WriteTakes old new (Ok n) buf = Appends old new (take n buf)
WriteTakes old new (Err e) buf = Appends old new []

-- a prefix of bs was taken
abbrev pub TakesBeginning : Option (List ℕ) → Option (List ℕ) → List ℕ → Type 0
TakesBeginning old new bs = (n : ℕ) × Appends old new (take n bs)

-- what is known of a sink: how many of its calls have failed, and what it took, if it knows that
pub record Tally : Type 0 where
  pub failures : ℕ
  pub taken : Option (List ℕ)

-- a text was taken, or a call failed and a prefix of the text was taken
abbrev pub TakesText : Tally → Tally → List ℕ → Type 0
TakesText old new text = ((new.failures ≡ old.failures) × Appends old.taken new.taken text) ⊎ ((new.failures ≡ old.failures + 1) × TakesBeginning old.taken new.taken text)

-- what is known of a source: how many of its calls have failed, and what it gave and has left, if it knows that
pub record Feed : Type 0 where
  pub failures : ℕ
  pub supply : Supply

-- no call failed, and the source gave these bytes
abbrev pub Took : Feed → Feed → List ℕ → Type 0
Took old new bytes = (new.failures ≡ old.failures) × Gives old.supply new.supply bytes

-- no call failed, and the source gave these bytes, all that it had left
abbrev pub TookAll : Feed → Feed → List ℕ → Type 0
TookAll old new bytes = Took old new bytes × IsExhausted new.supply

-- a call failed, or there was no memory for what the source gave
abbrev pub StopsReading : ReadAllError → Feed → Feed → Type 0
StopsReading Reader old new = new.failures ≡ old.failures + 1
StopsReading Memory old new = (bytes : List ℕ) × Took old new bytes

-- a source's count of failures can rise by one
abbrev pub CanFail : Feed → Type 0
CanFail f = f.failures < 2 ^ 64 - 1

-- a sink's count of failures can rise by one
abbrev pub CanRefuse : Tally → Type 0
CanRefuse t = t.failures < 2 ^ 64 - 1
