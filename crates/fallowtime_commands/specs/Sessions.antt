-- A session: lines, each with its answer.
use Rattle.std.specs.Prelude.{◌≡◌, ◌⊎◌, ◌≤◌, ℕ, ◌+◌, ◌-◌, ◌^◌, List, [], ◌∷◌, ◌++◌, Result, Ok, Err, length}
use Rattle.std.specs.Io.KnownBytes.{Appends}
use Rattle.bson_base.specs.Device.{Feed, Tally, Gives, IsExhausted, TakesBeginning}
use Rattle.store_table.specs.Rows.{TableRow}
use Rattle.cli_convert.specs.Line.{IsUnbroken}
use Rattle.store_model.specs.declared.error.ErrorKind.{ErrorKind}
use Rattle.store_model.specs.declared.error.ErrorKind.TheVariants.{Memory, Reader, Writer}
use Rattle.cli_convert.specs.Made.{at_time}
use Rattle.cli_convert.specs.declared.made.IdMaker.{IdMaker}
use Rattle.fallowtime_commands.specs.Acts.{Act, ChangesBy}
use Rattle.fallowtime_commands.specs.Turns.{AnswersLine}

-- a line, when it was answered, in milliseconds since 1970, its answer, and what was done for it
pub record Turn : Type 0 where
  pub text : List ℕ
  pub time : ℕ
  pub answer : List ℕ
  pub act : Act
  pub unbroken : IsUnbroken text

-- the lines, each with its line feed
abbrev pub lines_of : List Turn → List ℕ
lines_of [] = []
lines_of (t ∷ ts) = t.text ++ 10 ∷ lines_of ts

abbrev pub answers_of : List Turn → List ℕ
answers_of [] = []
answers_of (t ∷ ts) = t.answer ++ answers_of ts

-- the lines get their answers one after the other, each at its time and over the rows that the one before it left
abbrev pub Holds : IdMaker → IdMaker → List Turn → List TableRow → List TableRow → Type 0
Holds m n [] docs after = (n ≡ m) × (after ≡ docs)
Holds m n (t ∷ ts) docs after = (next : IdMaker) × (mid : List TableRow) × AnswersLine (at_time t.time m) next t.text t.answer t.act × ChangesBy t.act docs mid × Holds next n ts mid after

-- all of the input was read, and it is these lines, of which the last may lack its line feed
abbrev pub ReadsAll : List Turn → Feed → Feed → Type 0
ReadsAll turns old new =
    (bytes : List ℕ) × (new.failures ≡ old.failures) × Gives old.supply new.supply bytes × IsExhausted new.supply
    × ((bytes ≡ lines_of turns) ⊎ (bytes ++ 10 ∷ [] ≡ lines_of turns))

-- these lines come first in what was read; the last may be all of it, and lack its line feed
abbrev pub ReadsSome : List Turn → Feed → Feed → Type 0
ReadsSome turns old new =
    (bytes : List ℕ) × (left : List ℕ) × (new.failures ≡ old.failures) × Gives old.supply new.supply bytes
    × ((bytes ≡ lines_of turns ++ left) ⊎ ((bytes ++ 10 ∷ [] ≡ lines_of turns) × IsExhausted new.supply))

-- an answer was written, or a write failed after a prefix of it
abbrev pub Sends : Result (Unit {0}) ErrorKind → List ℕ → Tally → Tally → Type 0
Sends (Ok x) answer old new = (new.failures ≡ old.failures) × Appends old.taken new.taken answer
Sends (Err Writer) answer old new = (new.failures ≡ old.failures + 1) × TakesBeginning old.taken new.taken answer
Sends (Err kind) answer old new = ⊥

-- every answer was written
abbrev pub WritesAll : List Turn → Tally → Tally → Type 0
WritesAll turns old new = (new.failures ≡ old.failures) × Appends old.taken new.taken (answers_of turns)

-- every answer except the last was written, and a prefix of that one
abbrev pub WritesSome : List Turn → Tally → Tally → Type 0
WritesSome turns old new =
    (done : List Turn) × (last : Turn) × (turns ≡ done ++ last ∷ [])
    × ((mid : Tally) × WritesAll done old mid × Sends (Err Writer) last.answer mid new)

-- then a read failed, or neither the line nor the input ends
abbrev pub BreaksOff : List Turn → Feed → Feed → Type 0
BreaksOff turns old new =
    (bytes : List ℕ) × (left : List ℕ) × Gives old.supply new.supply bytes × (bytes ≡ lines_of turns ++ left)
    × (((new.failures ≡ old.failures + 1) × IsUnbroken left) ⊎ (2 ^ 64 - 2 ≤ length bytes))

-- how a session ends: with its input, or because a read failed, a write failed, or there was no memory for it
abbrev pub Ends : Result (Unit {0}) ErrorKind → List Turn → Feed → Feed → Tally → Tally → Type 0
Ends (Ok x) turns fed left old new = ReadsAll turns fed left × WritesAll turns old new
Ends (Err Reader) turns fed left old new = BreaksOff turns fed left × WritesAll turns old new
Ends (Err Writer) turns fed left old new = ReadsSome turns fed left × WritesSome turns old new
Ends (Err Memory) turns fed left old new = (turns ≡ []) × (left ≡ fed) × (new ≡ old)
Ends (Err kind) turns fed left old new = ⊥
