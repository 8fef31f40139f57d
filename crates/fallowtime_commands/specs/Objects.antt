-- The object of an answer, as it is written.
use Rattle.std.specs.Prelude.{◌≡◌, ℕ, zero, suc, Bool, false, List, [], ◌∷◌, ◌++◌, map, codes, string_bytes, Option, Some, None, option_map, Result, Ok, Err, IfOk, Vec}
use Rattle.std.specs.Borrow.{Bor}
use Rattle.std.specs.Option.{ForSome}
use Rattle.std.specs.declared.alloc.AllocError.{AllocError}
use Rattle.std.specs.declared.alloc.Global.{Global}
use Rattle.json.specs.Json.{Json, Items, no_items, item, Members}
use Rattle.json.specs.Print.{print}
use Rattle.json.specs.Token.{Token, begin_object, key}
use Rattle.json.specs.Tree.{HasNumbers, json_tokens}
use Rattle.json.specs.Value.{value_view}
use Rattle.json.specs.declared.value.Value.{Value}
use Rattle.bson_base.specs.Value.{Members as Document, document}
use Rattle.bson_bytes.specs.Encode.{encode}
use Rattle.bson_json.specs.Form.{Writes, WritesItems}
use Rattle.bson_meaning.specs.JsonReserved.{has_reserved, reserved_path_below}
use Rattle.bson_model.specs.View.{items_of, view}
use Rattle.bson_model.specs.declared.extjson.ser.Mode.TheVariants.{Canonical}
use Rattle.cli_convert.specs.Printed.{holding}
use Rattle.cli_convert.specs.declared.printed.PrintFault.{PrintFault}
use Rattle.cli_convert.specs.declared.printed.PrintFault.TheVariants.{ReservedKey, Damaged, Memory}
use Rattle.store_pipeline.specs.declared.sorted.counted.Counted.{Counted}
use Rattle.store_model.specs.State.{IsKept, AreKept}
use Rattle.fallowtime_commands.specs.Answers.{AreFree, HaveTexts, IsFirstReserved, IsUntold, ShowEach, ShowsValue, line_of, refusal}
use Rattle.fallowtime_commands.specs.declared.session.bodies.BodyFault.{BodyFault}

-- nothing in front of the first item, and a comma in front of each other one
abbrev pub comma_before : ℕ → List ℕ
comma_before zero = []
comma_before (suc i) = 44 ∷ []

-- the texts of items after i others
abbrev pub items_text : ℕ → Items → List ℕ
items_text i no_items = []
items_text i (item j js) = comma_before i ++ (print (json_tokens j) ++ items_text (suc i) js)

-- the tree of an id, if there is one
abbrev pub id_tree : Option (Bor (Value Global)) → Option Json
id_tree id = option_map (λ (v : Bor (Value Global)). value_view v.now) id

-- each number in it is one of JSON
abbrev pub IsWritable : Option (Bor (Value Global)) → Type 0
IsWritable id = ForSome id (λ (v : Bor (Value Global)). HasNumbers (value_view v.now))

-- the first tokens of the object, with the id, if there is one
abbrev pub begun : Option Json → List Token
begun None = begin_object ∷ []
begun (Some i) = begin_object ∷ key (codes "id") ∷ json_tokens i

-- P holds of the line that is made; there is none if memory ran out
abbrev pub Makes : (List ℕ → Type 0) → Result (Vec ℕ Global) AllocError → Type 0
Makes P r = IfOk r (λ (line : Vec ℕ Global). P line.items)

-- the line of these members after the id
abbrev pub MakesLine : Option Json → Members → Result (Vec ℕ Global) AllocError → Type 0
MakesLine id js r = Makes (λ line. line ≡ line_of id js) r

-- the line for a document, or for this one of several, that has no text
abbrev pub ShowsFault : Option Json → Option ℕ → PrintFault → List ℕ → Type 0
ShowsFault id index (ReservedKey path) line = line ≡ line_of id (refusal (codes "ReservedKey") index (Some (string_bytes path)))
ShowsFault id index Damaged line = line ≡ line_of id (refusal (codes "Database") index None)
ShowsFault id index Memory line = ⊥

-- ---- texts of bodies

-- why one of the documents has no text: the first that has a reserved key below its top; or memory ran out
abbrev pub IsFaultAt : List Document → ℕ → PrintFault → Type 0
IsFaultAt ds i (ReservedKey path) = IsFirstReserved ds i (string_bytes path)
IsFaultAt ds i Damaged = ⊥
IsFaultAt ds i Memory = Unit {0}

-- the texts of the kept documents that these bodies are were added to what was there; or one has no text
abbrev pub PutsBodies : List (List ℕ) → List ℕ → List ℕ → Result (Unit {0}) BodyFault → Type 0
PutsBodies bodies old new (Ok x) =
    (ds : List Document) → AreKept ds → bodies ≡ map encode ds
    → AreFree ds × ((js : Items) × WritesItems Canonical (items_of (map document ds)) js × (new ≡ old ++ items_text 0 js))
PutsBodies bodies old new (Err e) = (ds : List Document) → AreKept ds → bodies ≡ map encode ds → IsFaultAt ds e.index e.fault

-- the same of one more document, after i others
abbrev pub PutsBody : ℕ → List ℕ → List ℕ → List ℕ → Result (Unit {0}) PrintFault → Type 0
PutsBody i body old new (Ok x) =
    (d : Document) → IsKept d → body ≡ encode d
    → (has_reserved d ≡ false) × ((j : Json) × Writes Canonical (document d) j × (new ≡ old ++ (comma_before i ++ print (json_tokens j))))
PutsBody i body old new (Err (ReservedKey path)) = (d : Document) → IsKept d → body ≡ encode d → reserved_path_below d ≡ Some (string_bytes path)
PutsBody i body old new (Err Damaged) = (d : Document) → IsKept d → body ≡ encode d → ⊥
PutsBody i body old new (Err Memory) = Unit {0}

-- ---- values

-- the value, or the object with it and its number, was added after i others; or it has no text
abbrev pub PutsValue : ℕ → Bool → Counted → List ℕ → List ℕ → Result (Unit {0}) PrintFault → Type 0
PutsValue i counts c old new (Ok x) = (has_reserved (holding (view c.value)) ≡ false) × (j : Json) × ShowsValue counts c j × (new ≡ old ++ (comma_before i ++ print (json_tokens j)))
PutsValue i counts c old new (Err (ReservedKey path)) = reserved_path_below (holding (view c.value)) ≡ Some (string_bytes path)
PutsValue i counts c old new (Err Damaged) = ⊥
PutsValue i counts c old new (Err Memory) = Unit {0}

-- all of them were; or the first one that has no text is told
abbrev pub PutsValues : Bool → List Counted → List ℕ → List ℕ → Result (Unit {0}) PrintFault → Type 0
PutsValues counts cs old new (Ok x) = HaveTexts cs × (js : Items) × ShowEach counts cs js × (new ≡ old ++ items_text 0 js)
PutsValues counts cs old new (Err (ReservedKey path)) = IsUntold cs (string_bytes path)
PutsValues counts cs old new (Err Damaged) = ⊥
PutsValues counts cs old new (Err Memory) = Unit {0}
