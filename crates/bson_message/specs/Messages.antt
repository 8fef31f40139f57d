-- What the bytes of a message say.
use Rattle.std.specs.Prelude.{◌≡◌, ◌≢◌, ◌⊎◌, ℕ, ◌≤◌, List, [], ◌∷◌, ◌++◌, Result, Ok, Err, length, drop}
use Rattle.bson_frame.specs.Frame.{IsCstring, number}
use Rattle.bson_frame.specs.Payload.{IsEnvelope}
use Rattle.bson_raw.specs.View.{bytes_of}
use Rattle.bson_message.specs.Checksum.{IsSummed}
use Rattle.bson_message.specs.Parts.{MsgFault, Reads}
use Rattle.bson_message.specs.declared.fault.Fault.{Fault}
use Rattle.bson_message.specs.declared.fault.Fault.TheVariants as faults
use Rattle.bson_message.specs.declared.message.Body.{Body}
use Rattle.bson_message.specs.declared.message.Body.TheVariants.{Msg, Query}
use Rattle.bson_message.specs.declared.message.Header.{Header}
use Rattle.bson_message.specs.declared.op_query.OpQuery.{OpQuery}

-- the four numbers in front of a message ("Standard Message Header")
pub record HasHeader (bytes : List ℕ) (h : Header) : Type 0 where
  pub there : 16 ≤ length bytes
  pub length : h.length ≡ number bytes
  pub request : h.request ≡ number (drop 4 bytes)
  pub response_to : h.response_to ≡ number (drop 8 bytes)
  pub operation : h.operation ≡ number (drop 12 bytes)

-- nothing, or a document
abbrev pub IsSelection : List ℕ → Type 0
IsSelection bytes = (bytes ≡ []) ⊎ IsEnvelope bytes

-- the bytes after the header of an OP_QUERY: flags, the name of a collection, two numbers, the question, and perhaps a selection of
-- fields
abbrev pub HasQuestion : List ℕ → List ℕ → List ℕ → Type 0
HasQuestion bytes name question = (4 ≤ length bytes) × IsCstring name × IsEnvelope question
    × ((numbers : List ℕ) × (fields : List ℕ) × (length numbers ≡ 8) × IsSelection fields
    × (drop 4 bytes ≡ name ++ 0 ∷ (numbers ++ (question ++ fields))))

abbrev pub NoQuestion : List ℕ → Type 0
NoQuestion bytes = (name question : List ℕ) → HasQuestion bytes name question → ⊥

abbrev pub Asks : List ℕ → OpQuery → Type 0
Asks bytes q = (q.flags ≡ number bytes) × HasQuestion bytes q.collection.now (bytes_of q.query)

-- why nothing is read behind the header of a message: another operation; a fault of an OP_MSG or of an OP_QUERY; or a checksum that
-- isn't that of the message
abbrev pub SaysNot : List ℕ → ℕ → List ℕ → Fault → Type 0
SaysNot whole operation bytes faults.Operation = (operation ≢ 2013) × (operation ≢ 2004)
SaysNot whole operation bytes faults.Flag = (operation ≡ 2013) × MsgFault bytes faults.Flag
SaysNot whole operation bytes faults.Sections = ((operation ≡ 2013) × MsgFault bytes faults.Sections) ⊎ ((operation ≡ 2004) × NoQuestion bytes)
SaysNot whole operation bytes faults.Checksum = (operation ≡ 2013) × (IsSummed (number bytes) whole → ⊥)
SaysNot whole operation bytes faults.Header = ⊥

-- what is read of a message of this operation, with these bytes behind the header
abbrev pub Says : List ℕ → ℕ → List ℕ → Result Body Fault → Type 0
Says whole operation bytes (Ok (Msg m)) = (operation ≡ 2013) × Reads bytes m × IsSummed (number bytes) whole
Says whole operation bytes (Ok (Query q)) = (operation ≡ 2004) × Asks bytes q
Says whole operation bytes (Err e) = SaysNot whole operation bytes e
