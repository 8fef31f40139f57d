-- Collections as plain lists of documents: what a call returns on one list, and a step of the whole. What a call is
-- given as bytes or as JSON is here what it reads as.
use Rattle.std.specs.Prelude.{◌≡◌, ◌≢◌, ◌⊎◌, ℕ, suc, ◌<◌, ◌≤◌, List, [], ◌∷◌, ◌++◌, length, map, Bool, true, false, if◌then◌else◌, nat_lt, Option, Some, None, IsSomeAnd, MatchOption, Result, Ok, Err, IsUtf8}
use Rattle.std.specs.List.{flat_map, list_any}
use Rattle.std.specs.Str.{bytes_eq}
use Rattle.std.specs.declared.cmp.Ordering.TheVariants.{Less}
use Rattle.std.specs.Ordering.{nat_cmp}
use Rattle.std.specs.Cmp.Lexicographic.{slice_cmp}
use Rattle.std.specs.FinMap.{FinMap, get, insert as with_entry, remove as without_key}
use Rattle.serde_json.specs.Data.{Data}
use Rattle.bson_base.specs.Kinds.{HasNo00, IsSound}
use Rattle.bson_base.specs.Value.{Value, document, Members, no_members, member, look_up, has_key, without, put}
use Rattle.bson_bytes.specs.Encode.{encode, size}
use Rattle.bson_model.specs.JsonWrite.{write}
use Rattle.bson_model.specs.declared.extjson.ser.Mode.{Mode}
use Rattle.bson_model.specs.declared.extjson.ser.Mode.TheVariants.{Canonical}
use Rattle.bson_frame.specs.Frame.{size_limit}
use Rattle.bson_meaning.specs.JsonReserved.{has_reserved}
use Rattle.bson_meaning.specs.Meaning.{norm_in_order, Same}
use Rattle.store_model.specs.Filter.{Filter, Selects, IsSoundFilter}
use Rattle.store_model.specs.Reading.{Documents, Reading, readable, unreadable, IsRead, AreRead, IsReading, IsStop, IsKeepable, IsUnkeepable}
use Rattle.store_model.specs.declared.error.ErrorKind.{ErrorKind}
use Rattle.store_model.specs.declared.error.ErrorKind.TheVariants.{BadName, BadKey, JsonRefused, NoId, TooLong, NotFound, DuplicateId, ReservedKey, FiniteDouble}

-- `_id`
abbrev pub id_key : List ℕ
id_key = 0x5F ∷ 0x69 ∷ 0x64 ∷ []

-- ---- states

-- lists of documents under the names of their collections
abbrev pub State : Type 0
State = FinMap (slice_cmp nat_cmp) Documents

abbrev pub or_no_documents : Option Documents → Documents
or_no_documents None = []
or_no_documents (Some ds) = ds

-- the list of a name, empty if the name isn't there
abbrev pub list_of : State → List ℕ → Documents
list_of s n = or_no_documents (get s n)

-- the state with ds as the list of the name; a list that becomes empty leaves the map
abbrev pub store : State → List ℕ → Documents → State
store s n [] = without_key s n
store s n (d ∷ ds) = with_entry s n (d ∷ ds)

-- ---- ids

-- the document's `_id` means the same as id
abbrev pub HasId : Value → Members → Type 0
HasId id d = IsSomeAnd (look_up id_key d) (λ own. Same own id)

abbrev pub SomeHasId : Value → Documents → Type 0
SomeHasId id [] = ⊥
SomeHasId id (d ∷ ds) = HasId id d ⊎ SomeHasId id ds

abbrev pub NoneHasId : Value → Documents → Type 0
NoneHasId id [] = Unit {0}
NoneHasId id (d ∷ ds) = (HasId id d → ⊥) × NoneHasId id ds

-- some document of the list has the `_id` of d
abbrev pub IsTaken : Members → Documents → Type 0
IsTaken d ds = IsSomeAnd (look_up id_key d) (λ id. SomeHasId id ds)

-- d has the id, is between front and back, and is the first that has it
pub record StandsAt (id : Value) (ds front : Documents) (d : Members) (back : Documents) : Type 0 where
  pub split : ds ≡ front ++ d ∷ back
  pub before : NoneHasId id front
  pub has : HasId id d

-- P holds of the document with the id, or no document has it and Q holds
abbrev pub AtId : Value → Documents → (Documents → Members → Documents → Type 0) → Type 0 → Type 0
AtId id ds P Q = ((front : Documents) × (d : Members) × (back : Documents) × StandsAt id ds front d back × P front d back) ⊎ (NoneHasId id ds × Q)

-- ---- what comes in, and what goes out

-- how one document is given: what is done with it doesn't depend on that
pub data Form : Type 0 where
  in_bytes : Form
  in_json : Form

pub data Call : Type 0 where
  insert : Form → Reading → Call
  replace : Form → Reading → Call
  -- the value, if the JSON reader takes it
  set : Value → List ℕ → Option Value → Call
  unset : Value → List ℕ → Call
  remove : Value → Call
  get_raw : Value → Call
  get_json : Mode → Value → Call
  find : Filter → Call
  count : Filter → Call
  project : Filter → List (List ℕ) → Call
  -- a stream of bytes, or a list of trees: the documents before the first that can't be read, and why that can't
  import : Documents → Option ErrorKind → Call
  export : Call
  dump : Call

pub data Command : Type 0 where
  on : List ℕ → Call → Command
  collections : Command

pub data Reply : Type 0 where
  done : Reply
  flag : Bool → Reply
  number : ℕ → Reply
  bytes : List ℕ → Reply
  bytes_list : List (List ℕ) → Reply
  json : Data → Reply
  json_list : List Data → Reply
  names : List (List ℕ) → Reply
  -- the kind, and the place of the refused document in a call of many
  refused : ErrorKind → Option ℕ → Reply

-- ---- results in JSON

-- a finite double is reported if there is no tree
abbrev pub or_finite : Option Data → Result Data ErrorKind
or_finite None = Err FiniteDouble
or_finite (Some j) = Ok j

-- the tree of a document; a reserved key is reported before a finite double
abbrev pub json_of : Mode → Members → Result Data ErrorKind
json_of m d = if has_reserved d then Err ReservedKey else or_finite (write m (document d))

abbrev pub tree_reply : Result Data ErrorKind → Reply
tree_reply (Ok j) = json j
tree_reply (Err k) = refused k None

-- the first tree and the others, or the first refusal and its place
abbrev pub tree_first : ℕ → Result Data ErrorKind → Result (List Data) (ErrorKind × ℕ) → Result (List Data) (ErrorKind × ℕ)
tree_first i (Ok j) (Ok js) = Ok (j ∷ js)
tree_first i (Ok j) (Err e) = Err e
tree_first i (Err k) rest = Err (k, i)

-- the canonical trees, from the place i on
abbrev pub trees_of : ℕ → Documents → Result (List Data) (ErrorKind × ℕ)
trees_of i [] = Ok []
trees_of i (d ∷ ds) = tree_first i (json_of Canonical d) (trees_of (suc i) ds)

abbrev pub trees_reply : Result (List Data) (ErrorKind × ℕ) → Reply
trees_reply (Ok js) = json_list js
trees_reply (Err e) = refused e.0 (Some e.1)

-- ---- one call

-- if P then A, else B
abbrev pub When : Type 0 → Type 0 → Type 0 → Type 0
When P A B = (P × A) ⊎ ((P → ⊥) × B)

abbrev pub Refuses : ErrorKind → Documents → Reply → Documents → Type 0
Refuses k ds r es = (r ≡ refused k None) × (es ≡ ds)

-- why a document isn't kept
abbrev pub refusal_of : Members → Option ErrorKind
refusal_of d = if has_key id_key d then (if nat_lt size_limit (size d) then Some TooLong else None) else Some NoId

abbrev pub or_later : Option ErrorKind → ℕ → Option (ErrorKind × ℕ) → Option (ErrorKind × ℕ)
or_later None i later = later
or_later (Some k) i later = Some (k, i)

-- the first document that isn't kept and why, from the place i on; what can't be read comes after all of them
abbrev pub first_refusal : ℕ → Documents → Option ErrorKind → Option (ErrorKind × ℕ)
first_refusal i [] None = None
first_refusal i [] (Some k) = Some (k, i)
first_refusal i (d ∷ ds) stop = or_later (refusal_of d) i (first_refusal (suc i) ds stop)

-- The documents go in one after the other, from the place i on, or the first whose id is taken is refused and the list stays as at the start.
abbrev pub Appends : ℕ → Documents → Documents → Documents → Reply → Documents → Type 0
Appends i start ds [] r es = (r ≡ number i) × (es ≡ ds)
Appends i start ds (d ∷ more) r es = When (IsTaken d ds)
    ((r ≡ refused DuplicateId (Some i)) × (es ≡ start))
    (Appends (suc i) start (ds ++ d ∷ []) more r es)

-- those of the documents that the filter selects, in their order
abbrev pub Picks : Filter → Documents → Documents → Type 0
Picks f [] out = out ≡ []
Picks f (d ∷ ds) out = When (Selects f (document d)) ((rest : Documents) × (out ≡ d ∷ rest) × Picks f ds rest) (Picks f ds out)

-- the members with one of the keys
abbrev pub only : List (List ℕ) → Members → Members
only ks no_members = no_members
only ks (member l v ms) = if list_any (bytes_eq l) ks then member l v (only ks ms) else only ks ms

-- keys that can be set
abbrev pub IsFreeKey : List ℕ → Type 0
IsFreeKey k = (k ≢ id_key) × HasNo00 k

-- the changed document d is between front and back; or it can't be kept, and the list stays
abbrev pub PutsBack : Documents → Documents → Members → Documents → Reply → Documents → Type 0
PutsBack ds front d back r es = (IsKeepable d × (r ≡ done) × (es ≡ front ++ d ∷ back))
    ⊎ ((k : ErrorKind) × IsUnkeepable d k × Refuses k ds r es)

-- on the list ds the call may return r and leave es
abbrev pub Answers : Call → Documents → Reply → Documents → Type 0
Answers (insert f (unreadable k)) ds r es = Refuses k ds r es
Answers (insert f (readable d)) ds r es = MatchOption (refusal_of d)
    (When (IsTaken d ds) (Refuses DuplicateId ds r es) ((r ≡ done) × (es ≡ ds ++ d ∷ [])))
    (λ k. Refuses k ds r es)
Answers (replace f (unreadable k)) ds r es = Refuses k ds r es
Answers (replace f (readable d)) ds r es = MatchOption (refusal_of d)
    (IsSomeAnd (look_up id_key d) (λ id. AtId id ds (λ front old back. (r ≡ done) × (es ≡ front ++ d ∷ back)) (Refuses NotFound ds r es)))
    (λ k. Refuses k ds r es)
Answers (set id k None) ds r es = When (IsFreeKey k) (Refuses JsonRefused ds r es) (Refuses BadKey ds r es)
Answers (set id k (Some v)) ds r es = When (IsFreeKey k)
    (AtId id ds (λ front d back. PutsBack ds front (put k (norm_in_order v) d) back r es) (Refuses NotFound ds r es))
    (Refuses BadKey ds r es)
Answers (unset id k) ds r es = When (IsFreeKey k)
    (AtId id ds (λ front d back. (r ≡ flag (has_key k d)) × (es ≡ front ++ without k d ∷ back)) (Refuses NotFound ds r es))
    (Refuses BadKey ds r es)
Answers (remove id) ds r es = AtId id ds (λ front d back. (r ≡ done) × (es ≡ front ++ back)) (Refuses NotFound ds r es)
Answers (get_raw id) ds r es = AtId id ds (λ front d back. (r ≡ bytes (encode d)) × (es ≡ ds)) (Refuses NotFound ds r es)
Answers (get_json m id) ds r es = AtId id ds (λ front d back. (r ≡ tree_reply (json_of m d)) × (es ≡ ds)) (Refuses NotFound ds r es)
Answers (find f) ds r es = (out : Documents) × Picks f ds out × (r ≡ bytes_list (map encode out)) × (es ≡ ds)
Answers (count f) ds r es = (out : Documents) × Picks f ds out × (r ≡ number (length out)) × (es ≡ ds)
Answers (project f ks) ds r es = (out : Documents) × Picks f ds out × (r ≡ bytes_list (map (λ d. encode (only ks d)) out)) × (es ≡ ds)
Answers (import more stop) ds r es = MatchOption (first_refusal 0 more stop)
    (Appends 0 ds ds more r es)
    (λ x. (r ≡ refused x.0 (Some x.1)) × (es ≡ ds))
Answers export ds r es = (r ≡ bytes (flat_map encode ds)) × (es ≡ ds)
Answers dump ds r es = (r ≡ trees_reply (trees_of 0 ds)) × (es ≡ ds)

-- ---- one step

-- not empty, and without a byte 00
abbrev pub IsName : List ℕ → Type 0
IsName n = (0 < length n) × HasNo00 n

abbrev pub AllAfter : List ℕ → List (List ℕ) → Type 0
AllAfter n [] = Unit {0}
AllAfter n (m ∷ ms) = (slice_cmp nat_cmp n m ≡ Less) × AllAfter n ms

abbrev pub AreAscending : List (List ℕ) → Type 0
AreAscending [] = Unit {0}
AreAscending (n ∷ ns) = AllAfter n ns × AreAscending ns

abbrev pub holds : Documents → Bool
holds [] = false
holds (d ∷ ds) = true

-- the names that hold a document, ascending by bytes
pub record AreNames (s : State) (ns : List (List ℕ)) : Type 0 where
  pub ascending : AreAscending ns
  pub each : (n : List ℕ) → list_any (bytes_eq n) ns ≡ holds (list_of s n)

abbrev pub Step : State → Command → Reply → State → Type 0
Step s (on n call) r t = When (IsName n)
    ((es : Documents) × Answers call (list_of s n) r es × (t ≡ store s n es))
    ((r ≡ refused BadName None) × (t ≡ s))
Step s collections r t = ((ns : List (List ℕ)) × AreNames s ns × (r ≡ names ns)) × (t ≡ s)

-- ---- what every state is

-- a document that is kept
pub record IsKept (d : Members) : Type 0 where
  pub read : IsRead d
  pub identified : has_key id_key d ≡ true
  pub small : size d ≤ size_limit

abbrev pub AreKept : Documents → Type 0
AreKept [] = Unit {0}
AreKept (d ∷ ds) = IsKept d × AreKept ds

-- no two have the same id
abbrev pub HaveOwnIds : Documents → Type 0
HaveOwnIds [] = Unit {0}
HaveOwnIds (d ∷ ds) = (IsTaken d ds → ⊥) × HaveOwnIds ds

-- nonempty lists of kept documents, no two of one list with the same id, under good names
pub record IsStore (s : State) : Type 0 where
  pub kept : (n : List ℕ) → AreKept (list_of s n)
  pub own_ids : (n : List ℕ) → HaveOwnIds (list_of s n)
  pub named : (n : List ℕ) → list_of s n ≢ [] → IsName n
  pub nonempty : (n : List ℕ) → get s n ≢ Some []

-- ---- what every command is

abbrev pub IsSoundIfAny : Option Value → Type 0
IsSoundIfAny None = Unit {0}
IsSoundIfAny (Some v) = IsSound v

-- what comes in is as it is read, ids and values are sound, and keys are texts
abbrev pub IsCall : Call → Type 0
IsCall (insert f a) = IsReading a
IsCall (replace f a) = IsReading a
IsCall (set id k a) = IsSound id × IsUtf8 k × IsSoundIfAny a
IsCall (unset id k) = IsSound id
IsCall (remove id) = IsSound id
IsCall (get_raw id) = IsSound id
IsCall (get_json m id) = IsSound id
IsCall (find f) = IsSoundFilter f
IsCall (count f) = IsSoundFilter f
IsCall (project f ks) = IsSoundFilter f
IsCall (import ds stop) = AreRead ds × IsStop stop
IsCall export = Unit {0}
IsCall dump = Unit {0}

abbrev pub IsCommand : Command → Type 0
IsCommand (on n call) = IsCall call
IsCommand collections = Unit {0}

abbrev pub AreCommands : List Command → Type 0
AreCommands [] = Unit {0}
AreCommands (c ∷ cs) = IsCommand c × AreCommands cs
