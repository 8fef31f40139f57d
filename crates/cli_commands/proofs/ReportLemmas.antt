-- What is reported of a command that isn't done.
use Rattle.std.proofs.Common.{inl, inr, ℕ, List, Result, Ok, Err, OnOk, OnErr}
use Rattle.std.specs.Io.KnownBytes.{Appends}
use Rattle.bson_base.specs.Device.{Counts, Tally, TakesBeginning, TakesText}

-- a line was written, or a prefix of it
pub writes : {A E : Type 0} (r : Result A E) (old new : Tally) (text : List ℕ) → Counts old.failures new.failures r → OnOk r (Appends old.taken new.taken text)
    → OnErr r (TakesBeginning old.taken new.taken text) → TakesText old new text
writes (Ok x) old new text counts whole part = inl (counts, whole)
writes (Err e) old new text counts whole part = inr (counts, part)
