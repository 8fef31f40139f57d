-- The documents of an array step by step, as the calls inside take them.
use Rattle.std.specs.Prelude.{◌≡◌, ℕ, List, ◌++◌, Result, Ok, Err, Vec}
use Rattle.std.specs.declared.alloc.Global.{Global}
use Rattle.json.specs.Json.{Json, Items}
use Rattle.bson_base.specs.Value.{Members, Value, binary, scalar}
use Rattle.bson_base.specs.declared.spec.BinarySubtype.TheVariants.{Generic}
use Rattle.bson_json_read.specs.declared.error.Error.{Error}
use Rattle.cli_convert.specs.declared.made.IdMaker.{IdMaker}
use Rattle.fallowtime_requests.specs.Requests.{AreWritten, IsFirstUnfit, IsUnfit, IsWritten}
use Rattle.fallowtime_requests.specs.declared.stop.Stop.{Stop}
use Rattle.fallowtime_requests.specs.declared.stop.Stop.TheVariants.{Words, Memory}
use Rattle.fallowtime_requests.specs.declared.unread.Unread.TheVariants as unread

-- what was read is no binary value of the subtype 00
abbrev pub StopsBytes : Result Value Error → Stop → Type 0
StopsBytes r (Words u) = ((bytes : List ℕ) → r ≡ Ok (scalar (binary Generic bytes)) → ⊥) × (u ≡ unread.Stream)
StopsBytes r Memory = Unit {0}

-- it has no document
abbrev pub StopsDocumentAt : ℕ → Result Members Error → Stop → Type 0
StopsDocumentAt i r (Words u) = ((e : Error) × (r ≡ Err e)) × (u ≡ unread.DocumentAt i)
StopsDocumentAt i r Memory = Unit {0}

-- the bytes of one more document were added to those of i others; or it is unfit
abbrev pub PutsBehind : IdMaker → IdMaker → ℕ → Json → List ℕ → List ℕ → Result (Unit {0}) Stop → Type 0
PutsBehind m n i j old new (Ok x) = (bytes : List ℕ) × IsWritten m j bytes n × (new ≡ old ++ bytes)
PutsBehind m n i j old new (Err (Words u)) = IsUnfit m j × (u ≡ unread.DocumentAt i)
PutsBehind m n i j old new (Err Memory) = Unit {0}

-- the bytes of all; or the first that is unfit
abbrev pub PutsAll : IdMaker → IdMaker → Items → Result (Vec ℕ Global) Stop → Type 0
PutsAll m n js (Ok stream) = AreWritten m js stream.items n
PutsAll m n js (Err (Words u)) = (i : ℕ) × IsFirstUnfit m js i × (u ≡ unread.DocumentAt i)
PutsAll m n js (Err Memory) = Unit {0}
