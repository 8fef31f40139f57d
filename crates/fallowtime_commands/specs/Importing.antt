-- Documents that are imported where some of their ids may be there, in one step or not at all.
use Rattle.std.specs.Prelude.{◌≡◌, ◌⊎◌, ℕ, Bool, true, false, List, [], ◌∷◌, length, Option, None, IsSomeAnd, Result, Ok, Err, MatchResult, Vec, string_bytes}
use Rattle.std.specs.List.{AllZip}
use Rattle.std.specs.declared.alloc.Global.{Global}
use Rattle.bson_base.specs.Value.{Members}
use Rattle.bson_bytes.specs.Encode.{encode}
use Rattle.store_model.specs.Reading.{Documents, readable, ReadsStream}
use Rattle.store_model.specs.Refusal.{refusal, refusal_at}
use Rattle.store_model.specs.State as model
use Rattle.store_model.specs.State.{AreKept, IsName, first_refusal}
use Rattle.store_model.specs.Table.{DocumentTable, state_of}
use Rattle.store_model.specs.declared.error.ErrorKind.{ErrorKind}
use Rattle.store_model.specs.declared.error.ErrorKind.TheVariants.{BadName, Memory}
use Rattle.store_model.specs.declared.error.StoreError.{StoreError}
use Rattle.store_table.specs.Rows.{TableRow}
use Rattle.bson_store.specs.Drafting.{IsFault, KeepBy, PutBy}
use Rattle.bson_store.specs.Many.{DoesMany}
use Rattle.bson_store.specs.Shown.{Represents}
use Rattle.bson_store.specs.declared.edit.Edit.{Edit}
use Rattle.bson_store.specs.declared.edit.Edit.TheVariants.{KeepRaw, PutRaw}
use Rattle.fallowtime_commands.specs.declared.answer.Answer.{Answer}
use Rattle.fallowtime_commands.specs.declared.answer.Answer.TheVariants as answer
use Rattle.fallowtime_requests.specs.declared.request.Existing.{Existing}
use Rattle.fallowtime_requests.specs.declared.request.Existing.TheVariants as existing

-- ---- lists of documents

-- A document enters the collection n: it takes the place of the one with its id, or goes in last if there is none; or it only goes in if
-- there is none, and the one that is there stays.
abbrev pub Enters : Bool → List ℕ → Members → model.State → model.Reply → model.State → Type 0
Enters false n d = PutBy model.Step n (readable d)
Enters true n d = KeepBy model.Step n (readable d)

-- one after the other, each in the state that those before it leave
abbrev pub EnterAll : Bool → List ℕ → Documents → model.State → model.State → Type 0
EnterAll stays n [] s t = t ≡ s
EnterAll stays n (d ∷ ds) s t = (u : model.State) × Enters stays n d s model.done u × EnterAll stays n ds u t

-- the first document of the stream that can't be kept, and why; or memory ran out
abbrev pub IsUnread : List ℕ → StoreError → Type 0
IsUnread bytes e =
    (ds : Documents) × (stop : Option ErrorKind) × ReadsStream bytes ds stop × ((e ≡ refusal Memory) ⊎ IsSomeAnd (first_refusal 0 ds stop) (λ x. e ≡ refusal_at x.0 x.1))

-- for the name, for a document, for want of memory or of places, or by the database
abbrev pub IsUnimported : List ℕ → List ℕ → StoreError → Type 0
IsUnimported n bytes e = ((IsName n → ⊥) × (e ≡ refusal BadName)) ⊎ (IsName n × (IsUnread bytes e ⊎ IsFault e))

-- ---- rows

-- the rows show the state in which all documents of the stream entered, and the answer is how many it has; or the rows stay, and why
abbrev pub ImportsIn : Bool → List ℕ → List ℕ → model.State → Result Answer StoreError → List TableRow → List TableRow → Type 0
ImportsIn stays n bytes s (Ok x) old new =
    IsName n × ((ds : Documents) × ReadsStream bytes ds None × AreKept ds × (x ≡ answer.Number (length ds)) × ((b : DocumentTable) × Represents new b × EnterAll stays n ds s (state_of b)))
ImportsIn stays n bytes s (Err e) old new = IsUnimported n bytes e × (new ≡ old)

-- whatever table the rows showed
abbrev pub ImportsOver : Bool → List ℕ → List ℕ → Result Answer StoreError → List TableRow → List TableRow → Type 0
ImportsOver stays n bytes o old new = (a : DocumentTable) → Represents old a → ImportsIn stays n bytes (state_of a) o old new

-- the reply is what the outcome is as one
abbrev pub Imports : Existing → List ℕ → List ℕ → Result Answer StoreError → model.Reply → List TableRow → List TableRow → Type 0
Imports existing.Refuse n bytes o r old new = DoesMany n (ReadsStream bytes) r old new
Imports existing.Replace n bytes o r old new = ImportsOver false n bytes o old new
Imports existing.Skip n bytes o r old new = ImportsOver true n bytes o old new

-- ---- its parts

-- the change is that of the document
abbrev pub IsEntry : Bool → List ℕ → Edit → Members → Type 0
IsEntry false n (PutRaw name bytes) d = (string_bytes name ≡ n) × (bytes.items ≡ encode d)
IsEntry true n (KeepRaw name bytes) d = (string_bytes name ≡ n) × (bytes.items ≡ encode d)
IsEntry stays n _ d = ⊥

abbrev pub AreEntries : Bool → List ℕ → List Edit → Documents → Type 0
AreEntries stays n xs ds = AllZip (IsEntry stays n) xs ds

-- the changes are those of the documents of a stream; or why there are none
abbrev pub EntriesOf : Bool → List ℕ → List ℕ → Result (Vec Edit Global) StoreError → Type 0
EntriesOf stays n bytes o = MatchResult o (λ edits. (ds : Documents) × ReadsStream bytes ds None × AreKept ds × AreEntries stays n edits.items ds) (IsUnread bytes)
