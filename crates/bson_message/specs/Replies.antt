-- The bytes of answers.
use Rattle.std.specs.Prelude.{◌≡◌, ◌≤◌, ◌<◌, ℕ, ◌+◌, List, ◌∷◌, ◌++◌, length, take, drop, Result, Ok, Err}
use Rattle.std.specs.Int.{to_le_bytes, w32}
use Rattle.bson_frame.specs.Frame.{number}
use Rattle.bson_raw.specs.View.{bytes_of}
use Rattle.bson_message.specs.Parts.{AreDocuments}
use Rattle.bson_message.specs.Taking.{AreDeclared}
use Rattle.bson_message.specs.declared.fault.Fault.{Fault}
use Rattle.bson_message.specs.declared.fault.WriteFault.{WriteFault}
use Rattle.bson_message.specs.declared.fault.WriteFault.TheVariants.{Memory, TooLong}
use Rattle.bson_message.specs.declared.message.Body.{Body}
use Rattle.bson_message.specs.declared.message.Body.TheVariants.{Msg, Query}

-- a number in four bytes, the lowest first
abbrev pub word : ℕ → List ℕ
word n = to_le_bytes w32 n

-- the header of a message with a size, a number, the number of the message that it answers, and an operation
abbrev pub header_bytes : ℕ → ℕ → ℕ → ℕ → List ℕ
header_bytes size number answers operation = word size ++ (word number ++ (word answers ++ word operation))

-- an OP_MSG with one body: no flags, and a section of kind 0
abbrev pub msg_bytes : ℕ → ℕ → List ℕ → List ℕ
msg_bytes number answers body = header_bytes (length body + 21) number answers 2013 ++ (word 0 ++ (0 ∷ body))

-- an OP_REPLY with one document: its flags (8, "AwaitCapable"), a cursor's 8 bytes, which are 0, from the first document on, and one
-- document
abbrev pub reply_bytes : ℕ → ℕ → List ℕ → List ℕ
reply_bytes number answers document = header_bytes (length document + 36) number answers 1 ++ (word 8 ++ (word 0 ++ (word 0 ++ (word 0 ++ (word 1 ++ document)))))

-- why nothing is written: the message would be longer than one may be; or there was no memory for it
abbrev pub WriteRefusal : ℕ → WriteFault → Type 0
WriteRefusal size TooLong = 48000000 < size
WriteRefusal size Memory = size ≤ 48000000

-- ---- what answers say

-- the number in the four bytes from a place on
abbrev pub number_at : ℕ → List ℕ → ℕ
number_at at bytes = number (drop at bytes)

-- it says this body alone, with no flags
abbrev pub IsAnswer : List ℕ → Result Body Fault → Type 0
IsAnswer d (Ok (Msg m)) = (m.flags ≡ 0) × (bytes_of m.body ≡ d) × (m.sections.now ≡ 0 ∷ d)
IsAnswer d (Ok (Query q)) = ⊥
IsAnswer d (Err e) = ⊥

-- the bytes are taken as one message with these numbers
pub record IsMessage (bytes : List ℕ) (number answers code : ℕ) : Type 0 where
  pub declared : AreDeclared bytes
  pub request : number_at 4 bytes ≡ number
  pub response_to : number_at 8 bytes ≡ answers
  pub operation : number_at 12 bytes ≡ code

-- the bytes after the header of an OP_REPLY: flags, a cursor's 8 bytes, the place of the first document, and how many documents follow
pub record HasReply (bytes : List ℕ) (bits : ℕ) (id : List ℕ) (place : ℕ) (ds : List (List ℕ)) : Type 0 where
  pub flags : number bytes ≡ bits
  pub cursor : take 8 (drop 4 bytes) ≡ id
  pub first : number_at 12 bytes ≡ place
  pub counted : number_at 16 bytes ≡ length ds
  pub documents : AreDocuments (drop 20 bytes) ds
