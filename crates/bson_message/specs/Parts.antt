-- What the sections of an OP_MSG say (MongoDB's wire protocol, "OP_MSG").
use Rattle.std.specs.Prelude.{◌≡◌, ℕ, ◌*◌, ◌%◌, ◌<◌, ◌≤◌, List, [], ◌∷◌, ◌++◌, length, drop, map}
use Rattle.bson_frame.specs.Frame.{IsCstring, number}
use Rattle.bson_frame.specs.Payload.{IsEnvelope}
use Rattle.bson_raw.specs.View.{bytes_of}
use Rattle.bson_message.specs.Runs.{AreAll}
use Rattle.bson_message.specs.declared.fault.Fault.{Fault}
use Rattle.bson_message.specs.declared.fault.Fault.TheVariants.{Flag, Sections}
use Rattle.bson_message.specs.declared.op_msg.OpMsg.{OpMsg}
use Rattle.bson_message.specs.declared.section.Section.{Section}
use Rattle.bson_message.specs.declared.section.Section.TheVariants as sections
use Rattle.bson_message.specs.declared.section.Sequence.{Sequence}

-- a section: a document; or documents, one after the other, and the name of the list that they are
pub data Part : Type 0 where
  body : (document : List ℕ) → Part
  sequence : (name documents : List ℕ) → Part

abbrev pub part_of : Sequence → Part
part_of s = sequence s.name.now s.documents.now

abbrev pub seen : Section → Part
seen (sections.Body d) = body (bytes_of d)
seen (sections.Sequence s) = part_of s

abbrev pub IsDocument : List ℕ → List ℕ → Type 0
IsDocument bytes d = (bytes ≡ d) × IsEnvelope d

-- bytes are these documents, one after the other
abbrev pub AreDocuments : List ℕ → List (List ℕ) → Type 0
AreDocuments bytes ds = AreAll IsDocument bytes ds

abbrev pub HasDocuments : List ℕ → Type 0
HasDocuments bytes = (ds : List (List ℕ)) × AreDocuments bytes ds

-- bytes whose number is in their first four
abbrev pub IsCounted : List ℕ → Type 0
IsCounted bytes = (4 ≤ length bytes) × (number bytes ≡ length bytes)

-- behind a number, a name and documents
abbrev pub HasSequence : List ℕ → List ℕ → List ℕ → Type 0
HasSequence bytes name documents = (drop 4 bytes ≡ name ++ 0 ∷ documents) × IsCstring name × HasDocuments documents

-- the bytes of a section: the kind 0 and a document ("Kind 0: Body"); or the kind 1, the number of the bytes behind it, a name
-- and documents ("Kind 1: Document Sequence")
abbrev pub IsPart : List ℕ → Part → Type 0
IsPart bytes (body d) = (bytes ≡ 0 ∷ d) × IsEnvelope d
IsPart bytes (sequence name documents) = (inner : List ℕ) × (bytes ≡ 1 ∷ inner) × IsCounted inner × HasSequence inner name documents

-- bytes are these sections, one after the other
abbrev pub AreParts : List ℕ → List Part → Type 0
AreParts bytes ps = AreAll IsPart bytes ps

abbrev pub bodies_before : Part → List (List ℕ) → List (List ℕ)
bodies_before (body d) ds = d ∷ ds
bodies_before (sequence name documents) ds = ds

-- the bodies among sections
abbrev pub bodies : List Part → List (List ℕ)
bodies [] = []
bodies (p ∷ ps) = bodies_before p (bodies ps)

abbrev pub sequences_before : Part → List Part → List Part
sequences_before (body d) ps = ps
sequences_before (sequence name documents) ps = sequence name documents ∷ ps

-- the sequences among sections
abbrev pub sequences : List Part → List Part
sequences [] = []
sequences (p ∷ ps) = sequences_before p (sequences ps)

-- bytes are sections with this body alone
abbrev pub HasBody : List ℕ → List ℕ → Type 0
HasBody bytes d = (ps : List Part) × AreParts bytes ps × (bodies ps ≡ d ∷ [])

-- bytes aren't sections with one body alone
abbrev pub NoBody : List ℕ → Type 0
NoBody bytes = (d : List ℕ) → HasBody bytes d → ⊥

-- the bytes after the header: flags, sections with this body alone, and a checksum of four bytes if the lowest flag is set
abbrev pub HasMsgBody : List ℕ → List ℕ → List ℕ → Type 0
HasMsgBody bytes sections d = (4 ≤ length bytes) × HasBody sections d
    × ((checksum : List ℕ) × (length checksum ≡ (number bytes % 2) * 4) × (drop 4 bytes ≡ sections ++ checksum))

-- the flags, the sections and the body
abbrev pub Reads : List ℕ → OpMsg → Type 0
Reads bytes m = (m.flags ≡ number bytes) × (number bytes % 65536 < 4) × HasMsgBody bytes m.sections.now (bytes_of m.body)

-- the sequences of a message, in their order
abbrev pub Lists : OpMsg → List Sequence → Type 0
Lists m found = (ps : List Part) → AreParts m.sections.now ps → map part_of found ≡ sequences ps

-- why they aren't read: one of the flags 2 to 15, which have to be understood, is set ("Flag Bits"); or there is no such body
abbrev pub MsgFault : List ℕ → Fault → Type 0
MsgFault bytes Flag = 3 < number bytes % 65536
MsgFault bytes Sections = (sections d : List ℕ) → HasMsgBody bytes sections d → ⊥
MsgFault bytes _ = ⊥

-- ---- why there is no section

-- no bytes at the front count themselves
abbrev pub NoCounted : List ℕ → Type 0
NoCounted bytes = (front rest : List ℕ) → bytes ≡ front ++ rest → IsCounted front → ⊥

-- no name is at the front
abbrev pub NoName : List ℕ → Type 0
NoName bytes = (name rest : List ℕ) → IsCstring name → bytes ≡ name ++ 0 ∷ rest → ⊥

-- no name and documents are behind a number
abbrev pub NoSequence : List ℕ → Type 0
NoSequence bytes = (name documents : List ℕ) → HasSequence bytes name documents → ⊥
