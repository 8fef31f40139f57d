-- The documents that tell what the store returned (MongoDB's manual, the page of each command).
use Rattle.std.specs.Prelude.{ℕ, ℤ, pos, ◌-◌, ◌==◌, min, Bool, true, false, if◌then◌else◌, List, [], ◌∷◌, ◌++◌, length, map, codes, Option, Some, None}
use Rattle.std.specs.Str.{bytes_eq}
use Rattle.bson_pairs.specs.Keyed.{Key, put}
use Rattle.bson_model.specs.View.{items_of, view}
use Rattle.bson_model.specs.declared.bson.Bson.{Bson}
use Rattle.fallowtime_statements.specs.Codes.{code_name, code_number}
use Rattle.fallowtime_statements.specs.Told.{done}
use Rattle.fallowtime_statements.specs.declared.fault.Code.{Code}
use Rattle.fallowtime_statements.specs.declared.fault.Code.TheVariants as code
use Rattle.bson_base.specs.Value.{Value, Items, Members, array, boolean, document, double, int32, int64, item, member, no_items, no_members, scalar, string}

-- how many of those that are found are counted ("count")
abbrev pub counted : ℕ → ℕ → ℕ → ℕ
counted skip most n = min most (n - skip)

abbrev pub counts : ℤ → Members
counts n = member (codes "n") (scalar (int64 n)) done

-- The documents of a batch, under a key ("find", "getMore"), of a database and a collection with a point between them, and the number by
-- which more is asked for, or 0 if there is no more. The key is first, and is none of the others.
abbrev pub batch : List ℕ → ℤ → List ℕ → Items → Members
batch key id namespace ds =
    member (codes "cursor") (document (member key (array ds) (member (codes "id") (scalar (int64 id)) (member (codes "ns") (scalar (string namespace)) no_members)))) done

-- all of them
abbrev pub found : List ℕ → Items → Members
found namespace ds = batch (codes "firstBatch") (pos 0) namespace ds

-- the numbers of the finds that waited, and of those that didn't ("killCursors")
abbrev pub closed : Items → Items → Members
closed killed missing =
    member (codes "cursorsKilled") (array killed) (member (codes "cursorsNotFound") (array missing) (member (codes "cursorsAlive") (array no_items)
    (member (codes "cursorsUnknown") (array no_items) done)))

-- a group of that many, if there are some ("aggregate")
abbrev pub group_of : Value → ℤ → Value
group_of id n = document (member (codes "_id") id (member (codes "n") (scalar (int32 n)) no_members))

abbrev pub group : Value → ℕ → Items
group id n = if n == 0 then no_items else item (group_of id (pos n)) no_items

-- different values ("distinct")
abbrev pub values : Items → Members
values vs = member (codes "values") (array vs) done

-- collections ("listCollections")
abbrev pub collection : List ℕ → Value
collection name =
    document (member (codes "name") (scalar (string name)) (member (codes "type") (scalar (string (codes "collection"))) (member (codes "options") (document no_members) no_members)))

-- a collection is told if all are, or this one alone
abbrev pub is_wanted : Option (List ℕ) → List ℕ → Bool
is_wanted None name = true
is_wanted (Some only) name = bytes_eq name only

abbrev pub told_if : Bool → List ℕ → List Value
told_if true name = collection name ∷ []
told_if false name = []

abbrev pub wanted : Option (List ℕ) → List (List ℕ) → List Value
wanted only [] = []
wanted only (n ∷ ns) = told_if (is_wanted only n) n ++ wanted only ns

abbrev pub found_number : Bool → ℤ
found_number true = pos 1
found_number false = pos 0

-- what was done with the document that was found, if one was: it was removed, or is another one now
abbrev pub last : Bool → Bool → Members
last true is = member (codes "n") (scalar (int32 (found_number is))) no_members
last false is = member (codes "n") (scalar (int32 (found_number is))) (member (codes "updatedExisting") (scalar (boolean is)) no_members)

-- the document, or null if none was found ("findAndModify")
abbrev pub modified : Bool → Bool → Value → Members
modified removes is v = member (codes "lastErrorObject") (document (last removes is)) (member (codes "value") v done)

-- the document that was put in as none was found, or null if it isn't wanted ("findAndModify" with "upsert")
abbrev pub put_in : Value → Value → Members
put_in id v =
    member (codes "lastErrorObject") (document (member (codes "n") (scalar (int32 (pos 1))) (member (codes "updatedExisting") (scalar (boolean false)) (member (codes "upserted") id no_members))))
    (member (codes "value") v done)

-- a document of a list that wasn't written: its place in the list, and why
abbrev pub write_error : ℤ → Code → List ℕ → Value
write_error place c why =
    document (member (codes "index") (scalar (int32 place)) (member (codes "code") (scalar (int32 (code_number c))) (member (codes "errmsg") (scalar (string why)) no_members)))

-- a document that was put in as none answered: the place of its statement, and its `_id`
abbrev pub upserted : ℤ → Value → Value
upserted place id = document (member (codes "index") (scalar (int32 place)) (member (codes "_id") id no_members))

-- a list, if it has something
abbrev pub with_list : List ℕ → Items → Members → Members
with_list key no_items ms = ms
with_list key (item v vs) ms = member key (array (item v vs)) ms

-- how many of them are other ones now, if that is told
abbrev pub with_changed : Bool → ℤ → Members → Members
with_changed false n ms = ms
with_changed true n ms = member (codes "nModified") (scalar (int32 n)) ms

-- of how many documents the changes were, which were put in as none answered, and which changes aren't made ("insert", "update", "delete")
abbrev pub written : Bool → ℤ → ℤ → Items → Items → Members
written told n changed ids errors = member (codes "n") (scalar (int32 n)) (with_changed told changed (with_list (codes "upserted") ids (with_list (codes "writeErrors") errors done)))

-- a command that wasn't done: a text, the number of the error, and its name; the double 0.0
abbrev pub refused : List ℕ → Code → Members
refused why c =
    member (codes "ok") (scalar (double 0)) (member (codes "errmsg") (scalar (string why)) (member (codes "code") (scalar (int32 (code_number c)))
    (member (codes "codeName") (scalar (string (code_name c))) no_members)))

-- a collection with so many documents ("create")
abbrev pub made : ℕ → Members
made n = if n == 0 then done else refused (codes "create") code.NamespaceExists

-- a collection that had so many documents is removed ("drop")
abbrev pub dropped : List ℕ → ℕ → Members
dropped namespace n =
    if n == 0 then refused (codes "ns not found") code.NamespaceNotFound
    else member (codes "nIndexesWas") (scalar (int32 (pos 1))) (member (codes "ns") (scalar (string namespace)) done)

-- the index of the `_id`, which is the only one, as no other has an effect
abbrev pub id_index : Value
id_index =
    document (member (codes "v") (scalar (int32 (pos 2))) (member (codes "key") (document (member (codes "_id") (scalar (int32 (pos 1))) no_members))
    (member (codes "name") (scalar (string (codes "_id_"))) no_members)))

-- the indexes of a collection with so many documents ("listIndexes")
abbrev pub indexes : List ℕ → ℕ → Members
indexes namespace n = if n == 0 then refused (codes "ns does not exist") code.NamespaceNotFound else found namespace (item id_index no_items)

-- its indexes are dropped, all but that of the `_id`, or one, which isn't there ("dropIndexes")
abbrev pub unindexed : Bool → ℕ → Members
unindexed all n =
    if n == 0 then refused (codes "ns not found") code.NamespaceNotFound
    else if all then member (codes "nIndexesWas") (scalar (int32 (pos 1))) done
    else refused (codes "index not found") code.IndexNotFound

-- there is no memory for an answer, or it would be longer than a message may be; what was asked may have been done
abbrev pub no_room : Members
no_room = refused (codes "no room for the answer") code.ExceededMemoryLimit

-- ---- as an answer grows

abbrev pub after_changed : Option ℤ → List (Key × Value) → List (Key × Value)
after_changed None ps = ps
after_changed (Some n) ps = put (codes "nModified") (scalar (int32 n)) ps

abbrev pub after_list : List ℕ → List Bson → List (Key × Value) → List (Key × Value)
after_list key xs ps = if length xs == 0 then ps else put key (array (items_of (map view xs))) ps
