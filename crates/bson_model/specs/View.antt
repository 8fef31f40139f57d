-- The tree that a `Bson` stands for.
use Rattle.std.specs.Prelude.{◌≡◌, List, [], ◌∷◌, map, string_bytes}
use Rattle.bson_base.specs.Scalars.{id_bytes, millis_of, decimal_bytes}
use Rattle.bson_base.specs.Value.{Value, scalar, array, document, scoped_code, double, string, boolean, null, regex, code, int32, int64, timestamp, binary, object_id, date_time, symbol, decimal, undefined, max_key, min_key, db_pointer, Items, no_items, item, Members, no_members, member}
use Rattle.bson_pairs.specs.Keyed.{Key}
use Rattle.bson_model.specs.declared.bson.Bson.{Bson, fold-Bson}
use Rattle.bson_model.specs.declared.bson.Bson.TheOpen.{Bson-F, JavaScriptCodeWithScope-F, Document-F}
use Rattle.bson_model.specs.declared.document.Document.{Document}

-- the items of an array, in their order
abbrev pub items_of : List Value → Items
items_of [] = no_items
items_of (v ∷ vs) = item v (items_of vs)

-- the members of a document, in their order
abbrev pub members_of : List (Key × Value) → Members
members_of [] = no_members
members_of (p ∷ ps) = member p.0 p.1 (members_of ps)

-- one level, with each value inside already seen as its tree
abbrev pub view_step : Bson-F Value Value Members → Value
view_step (Bson-F.Double d) = scalar (double d.0)
view_step (Bson-F.String s) = scalar (string (string_bytes s))
view_step (Bson-F.Array v) = array (items_of v.items)
view_step (Bson-F.Document d) = document d
view_step (Bson-F.Boolean b) = scalar (boolean b)
view_step Bson-F.Null = scalar null
view_step (Bson-F.RegularExpression r) = scalar (regex (string_bytes r.pattern) (string_bytes r.options))
view_step (Bson-F.JavaScriptCode s) = scalar (code (string_bytes s))
view_step (Bson-F.JavaScriptCodeWithScope c) = c
view_step (Bson-F.Int32 z) = scalar (int32 z)
view_step (Bson-F.Int64 z) = scalar (int64 z)
view_step (Bson-F.Timestamp t) = scalar (timestamp t.time t.increment)
view_step (Bson-F.Binary b) = scalar (binary b.subtype b.bytes.items)
view_step (Bson-F.ObjectId o) = scalar (object_id (id_bytes o))
view_step (Bson-F.DateTime t) = scalar (date_time (millis_of t))
view_step (Bson-F.Symbol s) = scalar (symbol (string_bytes s))
view_step (Bson-F.Decimal128 d) = scalar (decimal (decimal_bytes d))
view_step Bson-F.Undefined = scalar undefined
view_step Bson-F.MaxKey = scalar max_key
view_step Bson-F.MinKey = scalar min_key
view_step (Bson-F.DbPointer p) = scalar (db_pointer (string_bytes p.namespace) (id_bytes p.id))

abbrev pub scope_step : JavaScriptCodeWithScope-F Value Value Members → Value
scope_step c = scoped_code (string_bytes c.code) c.scope

abbrev pub document_step : Document-F Value Value Members → Members
document_step d = members_of d.pairs

-- the tree of a value
abbrev pub view : Bson → Value
view = fold-Bson Value Value Members view_step scope_step document_step

-- a pair, with its value seen
abbrev pub pair_view : Key × Bson → Key × Value
pair_view p = (p.0, view p.1)

-- the list of a document's pairs, in their order
abbrev pub pairs_of : Document → List (Key × Value)
pairs_of d = map pair_view d.pairs

-- the members of a document
abbrev pub content : Document → Members
content d = members_of (pairs_of d)

-- t is the tree of a value of which P holds
abbrev pub IsTreeOf : (Bson → Type 0) → Value → Type 0
IsTreeOf P t = (v : Bson) × P v × (t ≡ view v)
