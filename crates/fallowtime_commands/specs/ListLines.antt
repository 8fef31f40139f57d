-- The answers to the requests of a list, each on a line of its own.
use Rattle.std.specs.Prelude.{◌≡◌, ℕ, List, [], ◌∷◌, ◌++◌, None, Result, Ok, Err}
use Rattle.bson_base.specs.Device.{Tally}
use Rattle.fallowtime_commands.specs.declared.answer.Answer.{Answer}
use Rattle.fallowtime_requests.specs.declared.reading.Layout.TheVariants.{Each}
use Rattle.fallowtime_commands.specs.Answers.{Shows}
use Rattle.fallowtime_commands.specs.Sessions.{Sends}
use Rattle.store_model.specs.declared.error.ErrorKind.{ErrorKind}
use Rattle.store_model.specs.declared.error.ErrorKind.TheVariants.{Memory}

-- the lines that the requests' own answers would be, with each document by itself, one after the other
abbrev pub AreLines : List Answer → List ℕ → Type 0
AreLines [] text = text ≡ []
AreLines (a ∷ more) text = (line rest : List ℕ) × Shows Each None (Ok a) line × AreLines more rest × (text ≡ line ++ rest)

-- these lines were written, or a beginning of them; or there was no memory for them
abbrev pub SendsAll : Result (Unit {0}) ErrorKind → List Answer → Tally → Tally → Type 0
SendsAll (Err Memory) answers old new = new ≡ old
SendsAll result answers old new = (text : List ℕ) × AreLines answers text × Sends result text old new

-- ---- its parts

-- the line of one more answer is behind the others
abbrev pub PutsLine : Answer → List ℕ → List ℕ → Type 0
PutsLine a old new = (line : List ℕ) × Shows Each None (Ok a) line × (new ≡ old ++ line)
