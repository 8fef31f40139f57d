-- The line of an answer.
use Rattle.std.specs.Prelude.{◌≡◌, ◌⊎◌, ℕ, zero, suc, Bool, true, false, List, [], ◌∷◌, ◌++◌, map, codes, decimal, string_bytes, Option, Some, None, Result, Ok, Err, Vec}
use Rattle.std.specs.List.{flat_map}
use Rattle.std.specs.declared.alloc.Global.{Global}
use Rattle.json.specs.Json.{Json, null, Items, no_items, item, Members, no_members, member, boolean, string, number, array as json_array, object}
use Rattle.json.specs.Print.{print}
use Rattle.json.specs.Tree.{json_tokens}
use Rattle.bson_base.specs.Value.{Value, Members as Document, scalar, binary, array, document}
use Rattle.bson_base.specs.declared.spec.BinarySubtype.TheVariants.{Generic}
use Rattle.bson_bytes.specs.Encode.{encode}
use Rattle.bson_json.specs.Form.{Writes}
use Rattle.bson_meaning.specs.JsonReserved.{has_reserved, reserved_path_below}
use Rattle.bson_model.specs.View.{items_of, view}
use Rattle.bson_model.specs.declared.extjson.ser.Mode.TheVariants.{Canonical}
use Rattle.bson_store.specs.Export.{bytes_of_each}
use Rattle.fallowtime_commands.specs.declared.answer.Answer.{Answer}
use Rattle.fallowtime_commands.specs.declared.answer.Answer.TheVariants as answer
use Rattle.fallowtime_commands.specs.Reports.{update_name}
use Rattle.cli_convert.specs.Printed.{holding}
use Rattle.store_pipeline.specs.declared.sorted.counted.Counted.{Counted}
use Rattle.store_model.specs.Refusal.{kind_name}
use Rattle.store_model.specs.State.{IsKept, AreKept}
use Rattle.store_model.specs.declared.error.StoreError.{StoreError}
use Rattle.fallowtime_requests.specs.declared.reading.Layout.{Layout}
use Rattle.fallowtime_requests.specs.declared.reading.Layout.TheVariants.{Each, Stream}

-- ---- lines

-- the members after the id of the question, if it has one
abbrev pub behind_id : Option Json → Members → Members
behind_id None js = js
behind_id (Some i) js = member (codes "id") i js

-- the object of the members, and a line feed
abbrev pub line_of : Option Json → Members → List ℕ
line_of id js = print (json_tokens (object (behind_id id js))) ++ 10 ∷ []

-- one member
abbrev pub one : List ℕ → Json → Members
one key j = member key j no_members

-- a member with the number, if there is one
abbrev pub with_number : List ℕ → Option ℕ → Members → Members
with_number key None js = js
with_number key (Some n) js = member key (number (decimal n)) js

abbrev pub with_text : List ℕ → Option (List ℕ) → Members → Members
with_text key None js = js
with_text key (Some t) js = member key (string t) js

-- a refusal: its kind, the place of the document of several, the path of the key
abbrev pub refusal : List ℕ → Option ℕ → Option (List ℕ) → Members
refusal kind index path = member (codes "error") (string kind) (with_number (codes "document") index (with_text (codes "key") path no_members))

-- the answer to what is no question
abbrev pub words : List ℕ → Members
words place = member (codes "error") (string (codes "Usage")) (one (codes "at") (string place))

-- the answer if memory ran out
abbrev pub memory : Members
memory = refusal (codes "Memory") None None

-- how many documents were selected for an update, and of how many it made other ones
abbrev pub update : ℕ → ℕ → Members
update m c = member (codes "matched") (number (decimal m)) (one (codes "changed") (number (decimal c)))

-- ---- what the store returned

-- one member, the canonical Extended JSON of a value
abbrev pub IsMember : List ℕ → Value → Members → Type 0
IsMember key v js = (j : Json) × Writes Canonical v j × (js ≡ one key j)

-- a document; if it has a reserved key below its top, the path to the first one
abbrev pub ShowsDocument : Document → Members → Type 0
ShowsDocument d js =
    ((has_reserved d ≡ false) × IsMember (codes "document") (document d) js)
    ⊎ ((path : List ℕ) × (reserved_path_below d ≡ Some path) × (js ≡ refusal (codes "ReservedKey") None (Some path)))

-- the first document with a reserved key below its top, and the path to the first one in it
abbrev pub IsFirstReserved : List Document → ℕ → List ℕ → Type 0
IsFirstReserved [] i path = ⊥
IsFirstReserved (d ∷ ds) zero path = reserved_path_below d ≡ Some path
IsFirstReserved (d ∷ ds) (suc i) path = (has_reserved d ≡ false) × IsFirstReserved ds i path

abbrev pub AreFree : List Document → Type 0
AreFree [] = Unit {0}
AreFree (d ∷ ds) = (has_reserved d ≡ false) × AreFree ds

-- the array of the documents
abbrev pub array_of : List Document → Value
array_of ds = array (items_of (map document ds))

-- documents in their order; or the first one that has a reserved key below its top
abbrev pub ShowsDocuments : List Document → Members → Type 0
ShowsDocuments ds js =
    (AreFree ds × IsMember (codes "documents") (array_of ds) js)
    ⊎ ((i : ℕ) × (path : List ℕ) × IsFirstReserved ds i path × (js ≡ refusal (codes "ReservedKey") (Some i) (Some path)))

-- the value, or an object with it and the number of documents that have it
abbrev pub ShowsValue : Bool → Counted → Json → Type 0
ShowsValue false c j = Writes Canonical (view c.value) j
ShowsValue true c j = (k : Json) × Writes Canonical (view c.value) k × (j ≡ object (member (codes "value") k (one (codes "count") (number (decimal c.documents)))))

abbrev pub ShowEach : Bool → List Counted → Items → Type 0
ShowEach counts [] js = js ≡ no_items
ShowEach counts (c ∷ cs) js = (j : Json) × (rest : Items) × ShowsValue counts c j × ShowEach counts cs rest × (js ≡ item j rest)

-- no document in a value has a reserved key, nor a value itself
abbrev pub HaveTexts : List Counted → Type 0
HaveTexts [] = Unit {0}
HaveTexts (c ∷ cs) = (has_reserved (holding (view c.value)) ≡ false) × HaveTexts cs

-- the first value that has none, by the path to the first reserved key in it, behind `value`
abbrev pub IsUntold : List Counted → List ℕ → Type 0
IsUntold [] path = ⊥
IsUntold (c ∷ cs) path = (reserved_path_below (holding (view c.value)) ≡ Some path) ⊎ ((has_reserved (holding (view c.value)) ≡ false) × IsUntold cs path)

-- different values in their order; or the first one that has no text
abbrev pub ShowsValues : Bool → List Counted → Members → Type 0
ShowsValues counts cs js =
    (HaveTexts cs × ((vs : Items) × ShowEach counts cs vs × (js ≡ one (codes "values") (json_array vs))))
    ⊎ ((path : List ℕ) × IsUntold cs path × (js ≡ refusal (codes "ReservedKey") None (Some path)))

abbrev pub texts : List (List ℕ) → Items
texts [] = no_items
texts (t ∷ ts) = item (string t) (texts ts)

-- none was selected, and a document went in with this `_id`
abbrev pub upsert : Json → Members
upsert id = member (codes "matched") (number (decimal 0)) (member (codes "changed") (number (decimal 0)) (one (codes "upserted") id))

abbrev pub IsUpsert : Value → Members → Type 0
IsUpsert v js = (j : Json) × Writes Canonical v j × (js ≡ upsert j)

-- ---- lines of answers

-- the line of members of which P holds, after the id
abbrev pub IsLineOf : Option Json → (Members → Type 0) → List ℕ → Type 0
IsLineOf id P line = (js : Members) × P js × (line ≡ line_of id js)

-- the line of the kept document that this body is
abbrev pub ShowsBody : Option Json → List ℕ → List ℕ → Type 0
ShowsBody id body line = (d : Document) → IsKept d → body ≡ encode d → IsLineOf id (ShowsDocument d) line

-- the line of the kept documents that these bodies are, or of the bytes of all
abbrev pub ShowsBodies : Layout → Option Json → List (List ℕ) → List ℕ → Type 0
ShowsBodies Each id bodies line = (ds : List Document) → AreKept ds → bodies ≡ map encode ds → IsLineOf id (ShowsDocuments ds) line
ShowsBodies Stream id bodies line = IsLineOf id (IsMember (codes "bytes") (scalar (binary Generic (flat_map (λ (b : List ℕ). b) bodies)))) line

-- the line of the document that was found and changed, if one was
abbrev pub ShowsFound : Option Json → Option (Vec ℕ Global) → List ℕ → Type 0
ShowsFound id None line = line ≡ line_of id (one (codes "document") null)
ShowsFound id (Some body) line = ShowsBody id body.items line

-- the line of the answer for what the store returned
abbrev pub Shows : Layout → Option Json → Result Answer StoreError → List ℕ → Type 0
Shows l id (Ok answer.Nothing) line = line ≡ line_of id no_members
Shows l id (Ok (answer.Id own)) line = IsLineOf id (IsMember (codes "_id") (view own)) line
Shows l id (Ok (answer.Flag b)) line = line ≡ line_of id (one (codes "was_there") (boolean b))
Shows l id (Ok (answer.Number n)) line = line ≡ line_of id (one (codes "count") (number (decimal n)))
Shows l id (Ok (answer.Document body)) line = ShowsBody id body.items line
Shows l id (Ok (answer.Documents bodies)) line = ShowsBodies l id (bytes_of_each bodies.items) line
Shows l id (Ok (answer.Found found)) line = ShowsFound id found line
Shows l id (Ok (answer.Values cs counts)) line = IsLineOf id (ShowsValues counts cs.items) line
Shows l id (Ok (answer.Names names)) line = line ≡ line_of id (one (codes "names") (json_array (texts (map string_bytes names.items))))
Shows l id (Ok (answer.Updated m c)) line = line ≡ line_of id (update m c)
Shows l id (Ok (answer.NotUpdated i e)) line = line ≡ line_of id (refusal (update_name e) (Some i) None)
Shows l id (Ok (answer.Upserted own)) line = IsLineOf id (IsUpsert (view own)) line
Shows l id (Ok (answer.NotUpserted e)) line = line ≡ line_of id (refusal (update_name e) None None)
Shows l id (Ok (answer.NotCalculated e)) line = line ≡ line_of id (refusal (update_name e) None None)
Shows l id (Err e) line = line ≡ line_of id (refusal (kind_name e.kind) e.document None)
