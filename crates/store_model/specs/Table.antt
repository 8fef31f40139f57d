-- Tables of rows with places: the state that one stands for, and runs of commands through tables.
use Rattle.std.specs.Prelude.{◌≡◌, ◌⊎◌, ℕ, suc, ◌+◌, ◌<◌, ◌≤◌, max, List, [], ◌∷◌, ◌++◌, length, Option, Some, None, if◌then◌else◌, option_map, unwrap_or}
use Rattle.std.specs.Str.{bytes_eq}
use Rattle.std.specs.FinMap.{empty, get, insert as with_entry}
use Rattle.bson_base.specs.Value.{Value, Members, no_members, member, look_up}
use Rattle.bson_meaning.specs.Meaning.{key}
use Rattle.store_model.specs.Reading.{Documents, readable}
use Rattle.store_model.specs.State.{id_key, State, IsName, IsKept, list_of, Call, insert, import, Command, on, collections, Reply, refused, Step}
use Rattle.store_model.specs.Run.{Denials, Denial, places, Turn, IsDecided}

pub record DocumentRow : Type 0 where
  pub place : ℕ
  pub name : List ℕ
  pub document : Members

abbrev pub DocumentTable : Type 0
DocumentTable = List DocumentRow

-- the lists of documents under their names
abbrev pub state_of : DocumentTable → State
state_of [] = empty
state_of (r ∷ rs) = with_entry (state_of rs) r.name (r.document ∷ list_of (state_of rs) r.name)

-- the documents of the rows with the name, in their order
abbrev pub documents_of : DocumentTable → List ℕ → Documents
documents_of [] n = []
documents_of (r ∷ rs) n = if bytes_eq n r.name then r.document ∷ documents_of rs n else documents_of rs n

-- all rows have the name
abbrev pub AreOf : List ℕ → DocumentTable → Type 0
AreOf n [] = Unit {0}
AreOf n (r ∷ rs) = (r.name ≡ n) × AreOf n rs

-- the row with another document
abbrev pub with_document : Members → DocumentRow → DocumentRow
with_document d r = record { place = r.place; name = r.name; document = d }

-- the greatest place, or 0 if there is none
abbrev pub greatest : DocumentTable → ℕ
greatest [] = 0
greatest (r ∷ rs) = max r.place (greatest rs)

abbrev pub greatest_place : ℕ
greatest_place = 9223372036854775807

-- the places after n, one after the other, and none past the last
abbrev pub TakePlaces : ℕ → DocumentTable → Type 0
TakePlaces n [] = Unit {0}
TakePlaces n (r ∷ rs) = (r.place ≡ suc n) × (r.place ≤ greatest_place) × TakePlaces (suc n) rs

-- Rows came after the last, at the places after the greatest one; or one row went, or has another document. Every other
-- row is as it was.
abbrev pub Follows : DocumentTable → DocumentTable → Type 0
Follows a b = ((new : DocumentTable) × (b ≡ a ++ new) × TakePlaces (greatest a) new)
    ⊎ ((front : DocumentTable) × (r : DocumentRow) × (back : DocumentTable) × (a ≡ front ++ r ∷ back)
    × ((b ≡ front ++ back) ⊎ ((d : Members) × (b ≡ front ++ with_document d r ∷ back))))

-- how many documents a call would put into new rows
abbrev pub new_in_call : Call → ℕ
new_in_call (insert f (readable d)) = 1
new_in_call (import ds stop) = length ds
new_in_call _ = 0

abbrev pub new_documents : Command → ℕ
new_documents (on n call) = new_in_call call
new_documents collections = 0

abbrev pub IsRefusal : Reply → Type 0
IsRefusal (refused k i) = Unit {0}
IsRefusal _ = ⊥

-- the greatest place plus the new documents passes the last place there is, and the step alone would refuse nothing
abbrev pub WantsPlaces : DocumentTable → Command → Type 0
WantsPlaces a c = (greatest_place < greatest a + new_documents c) × (r : Reply) × (t : State) × Step (state_of a) c r t × (IsRefusal r → ⊥)

-- nothing is denied to a command that is decided before anything grows, and places only if the table lacks them
abbrev pub MayBeDenied : Option Denial → DocumentTable → Command → Type 0
MayBeDenied None a c = Unit {0}
MayBeDenied (Some places) a c = (IsDecided c → ⊥) × WantsPlaces a c
MayBeDenied (Some x) a c = IsDecided c → ⊥

-- one command takes a table to another, and x is denied to it
abbrev pub TurnThrough : Option Denial → DocumentTable → Command → Reply → DocumentTable → Type 0
TurnThrough x a c r b = Turn x (state_of a) c r (state_of b) × Follows a b × MayBeDenied x a c

-- a single call
abbrev pub Serves : DocumentTable → Command → Reply → DocumentTable → Type 0
Serves a c r b = (x : Option Denial) × TurnThrough x a c r b

-- a run through tables, the first as found, the last as left
abbrev pub RunThrough : Denials → ℕ → DocumentTable → List Command → List Reply → DocumentTable → Type 0
RunThrough w i a [] [] b = b ≡ a
RunThrough w i a (c ∷ cs) (r ∷ rs) b = (m : DocumentTable) × TurnThrough (get w i) a c r m × RunThrough w (suc i) m cs rs b
RunThrough w i a [] (r ∷ rs) b = ⊥
RunThrough w i a (c ∷ cs) [] b = ⊥

-- ---- written keys

-- a document of this `_id` alone
abbrev pub only_id : Value → Members
only_id id = member id_key id no_members

-- the document's `_id` alone, whose key is the row's
abbrev pub own_id : Members → Members
own_id d = unwrap_or (option_map only_id (look_up id_key d)) no_members

-- no row of the name has the same written key
abbrev pub IsAlone : DocumentRow → DocumentTable → Type 0
IsAlone r [] = Unit {0}
IsAlone r (q ∷ rs) = (q.name ≡ r.name → key (own_id q.document) ≡ key (own_id r.document) → ⊥) × IsAlone r rs

-- rows as they are kept: under good names, of kept documents, no two of one name with the same written key
abbrev pub AreRows : DocumentTable → Type 0
AreRows [] = Unit {0}
AreRows (r ∷ rs) = IsName r.name × IsKept r.document × IsAlone r rs × AreRows rs
