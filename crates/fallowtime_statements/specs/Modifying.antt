-- Which lines `findAndModify` and `distinct` are.
use Rattle.std.specs.Prelude.{◌≡◌, ℕ, Bool, true, false, List, [], ◌∷◌, ◌++◌, codes, Option, Some, None}
use Rattle.bson_base.specs.Value.{Items, Members, Value, boolean, document, item, look_up, member, no_items, no_members, scalar, string}
use Rattle.bson_model.specs.declared.extjson.ser.Mode.TheVariants.{Canonical, Relaxed}
use Rattle.fallowtime_words.specs.declared.command.Command.{Command}
use Rattle.fallowtime_words.specs.declared.command.Command.TheVariants as command
use Rattle.bson_meaning.specs.JsonReserved.{has_reserved}
use Rattle.bson_model.specs.View.{view}
use Rattle.fallowtime_requests.specs.declared.request.Otherwise.TheVariants as otherwise
use Rattle.fallowtime_requests.specs.declared.request.Request.{Request}
use Rattle.fallowtime_requests.specs.declared.request.Request.TheVariants as request
use Rattle.fallowtime_statements.specs.Changes.{ChangesBy, is_update}
use Rattle.fallowtime_statements.specs.Lines.{IsGiven, IsLine, IsMixed, IsThere, IsTruth, line_of_three}
use Rattle.fallowtime_statements.specs.declared.statement.Statement.{Statement}

-- ---- options of lines

abbrev pub found_options : Members → Members → Members
found_options sort fields = member (codes "sort") (document sort) (member (codes "fields") (document fields) no_members)

abbrev pub changed_options : Members → Members → Bool → Members
changed_options sort fields after =
    member (codes "sort") (document sort) (member (codes "fields") (document fields) (member (codes "after") (scalar (boolean after)) no_members))

abbrev pub AreFoundOptions : Members → Members → Type 0
AreFoundOptions ms o = (sort fields : Members) × IsGiven (look_up (codes "sort") ms) sort × IsGiven (look_up (codes "fields") ms) fields × (o ≡ found_options sort fields)

abbrev pub AreChangedOptions : Members → Members → Type 0
AreChangedOptions ms o =
    (sort fields : Members) × (after : Bool) × IsGiven (look_up (codes "sort") ms) sort × IsGiven (look_up (codes "fields") ms) fields
    × IsTruth false (look_up (codes "new") ms) after × (o ≡ changed_options sort fields after)

-- ---- `findAndModify`

-- neither an update, nor that the document is wanted as it is afterwards
abbrev pub AsksNoMore : Members → Type 0
AsksNoMore ms = IsTruth false (look_up (codes "new") ms) false × (look_up (codes "update") ms ≡ None)

abbrev pub finder : Bool → Command
finder true = command.FindAndUpdate
finder false = command.FindAndReplace

-- `{findAndModify: NAME, query: Q, remove: true, sort: S, fields: P}` is `["find-and-delete", NAME, Q, {"sort": S, "fields": P}]`; with
-- `update: U, new: A` it is `["find-and-update", NAME, Q, U, {"sort": S, "fields": P, "after": A}]`, or `find-and-replace`
abbrev pub IsFindAndModify : Bool → Members → List ℕ → Statement → Type 0
IsFindAndModify true ms n s =
    (q o : Members) × AsksNoMore ms × IsGiven (look_up (codes "query") ms) q × AreFoundOptions ms o × IsLine Relaxed command.FindAndDelete (line_of_three n q o) s
IsFindAndModify false ms n s =
    (q u o : Members) × IsGiven (look_up (codes "query") ms) q × IsThere (look_up (codes "update") ms) u × AreChangedOptions ms o × IsMixed (finder (is_update u)) n q u o s

-- ---- `findAndModify` with `upsert`

-- The change by which a document is put in, if none is found: `["update", NAME, Q, U, {"many": false, "upsert": true}]`, or
-- `["replace-one", NAME, Q, U, {"upsert": true}]`.
abbrev pub IsPut : Members → List ℕ → Statement → Type 0
IsPut ms n s = (q u : Members) × IsGiven (look_up (codes "query") ms) q × IsThere (look_up (codes "update") ms) u × ChangesBy (is_update u) n q u false true s

-- the `_id` of the document that a request puts in, if it makes one
abbrev pub id_of : Request → Option Value
id_of (request.Upsert q w many (otherwise.Insert id d)) = Some (view id)
id_of r = None

abbrev pub by_id : Value → Members
by_id id = member (codes "_id") (document (member (codes "$eq") id no_members)) no_members

abbrev pub fields_option : Members → Members
fields_option fields = member (codes "fields") (document fields) no_members

-- the document with that `_id` is found by `["find", NAME, {"_id": {"$eq": ID}}, {"fields": P}]`
abbrev pub IsShown : Members → List ℕ → Value → Statement → Type 0
IsShown ms n id s =
    (fields : Members) × (has_reserved (by_id id) ≡ false) × IsGiven (look_up (codes "fields") ms) fields × IsLine Relaxed command.Find (line_of_three n (by_id id) (fields_option fields)) s

-- it is, if it is wanted as it is afterwards, and one is made
abbrev pub IsShownIf : Bool → Option Value → Members → List ℕ → List Statement → Type 0
IsShownIf true (Some id) ms n (s ∷ []) = IsShown ms n id s
IsShownIf true (Some id) ms n ss = ⊥
IsShownIf after id ms n ss = ss ≡ []

-- what is done one after the other: a document is found and changed; if there is none, one is put in; and that is found
abbrev pub IsUpsert : Members → List ℕ → List Statement → Type 0
IsUpsert ms n (find ∷ put ∷ ss) = IsFindAndModify false ms n find × IsPut ms n put × ((after : Bool) × IsTruth false (look_up (codes "new") ms) after × IsShownIf after (id_of put.request) ms n ss)
IsUpsert ms n ss = ⊥

-- ---- `distinct`

abbrev pub line_with_path : List ℕ → List ℕ → Members → Items
line_with_path name path d = item (scalar (string name)) (item (scalar (string path)) (item (document d) no_items))

-- `{distinct: NAME, key: PATH, query: Q}` is `["distinct", NAME, PATH, Q]`
abbrev pub IsDistinct : Members → List ℕ → Statement → Type 0
IsDistinct ms n s =
    (path : List ℕ) × (q : Members) × (look_up (codes "key") ms ≡ Some (scalar (string path))) × IsGiven (look_up (codes "query") ms) q
    × IsLine Canonical command.Distinct (line_with_path n path q) s

-- ---- their parts

abbrev pub AreTwo : Members → List ℕ → List Statement → Type 0
AreTwo ms n (find ∷ put ∷ []) = IsFindAndModify false ms n find × IsPut ms n put
AreTwo ms n ss = ⊥

-- the `_id` of the document that the last of two statements puts in
abbrev pub id_in : List Statement → Option Value
id_in (find ∷ put ∷ []) = id_of put.request
id_in ss = None

-- behind these statements there is one more, which finds the document with this `_id`
abbrev pub IsShownBehind : Members → List ℕ → Value → List Statement → List Statement → Type 0
IsShownBehind ms n id list more = (s : Statement) × IsShown ms n id s × (more ≡ list ++ s ∷ [])
