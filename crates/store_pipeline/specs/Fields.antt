-- What is left of a document where paths name the fields that are kept, or those that are left out (MongoDB, Project Fields to Return).
use Rattle.std.specs.Prelude.{ℕ, List, [], ◌∷◌, Bool, true, false, if◌then◌else◌, Option, Some, None, is_some}
use Rattle.std.specs.List.{filter_map, list_any}
use Rattle.std.specs.Str.{bytes_eq}
use Rattle.bson_base.specs.Value.{Value, array, document, Items, no_items, item, Members, no_members, member}
use Rattle.store_model.specs.Filter.{Path}
use Rattle.store_model.specs.State.{id_key}

-- the rest of a path that begins with the key
abbrev pub rest_of : List ℕ → Path → Option Path
rest_of k [] = None
rest_of k (l ∷ p) = if bytes_eq k l then Some p else None

-- the rests of the paths that begin with it
abbrev pub rests : List ℕ → List Path → List Path
rests k ps = filter_map (rest_of k) ps

-- one of them ends here, so the field itself is named
abbrev pub names_it : List Path → Bool
names_it [] = false
names_it ([] ∷ ps) = true
names_it ((l ∷ p) ∷ ps) = names_it ps

abbrev pub member_if : List ℕ → Option Value → Members → Members
member_if k None ms = ms
member_if k (Some v) ms = member k v ms

abbrev pub item_if : Option Value → Items → Items
item_if None vs = vs
item_if (Some v) vs = item v vs

-- what stays of a value that isn't gone into: all of it, if fields are left out
abbrev pub unless : Bool → Value → Option Value
unless true v = None
unless false v = Some v

-- `kept`: the named fields are kept, else left out
module _ (kept : Bool) where
  -- of a field and what is inside of it, where these are the rests of the paths: all, nothing, or what is inside
  abbrev pub named : List Path → Value → Option Value → Option Value
  named [] v part = unless kept v
  named (p ∷ ps) v part = if names_it (p ∷ ps) then (if kept then Some v else None) else part

  abbrev mutual
    -- a document is gone into, and so is each item of an array; of anything else there are no fields
    pub inside : List Path → Value → Option Value
    inside ps (document ms) = Some (document (fields ps ms))
    inside ps (array vs) = Some (array (items_inside ps vs))
    inside ps v = unless kept v

    pub items_inside : List Path → Items → Items
    items_inside ps no_items = no_items
    items_inside ps (item v vs) = item_if (inside ps v) (items_inside ps vs)

    pub fields : List Path → Members → Members
    fields ps no_members = no_members
    fields ps (member k v ms) = member_if k (named (rests k ps) v (inside (rests k ps) v)) (fields ps ms)

-- one of the paths begins with the key
abbrev pub is_begun : List ℕ → List Path → Bool
is_begun k ps = list_any (λ p. is_some (rest_of k p)) ps

-- with the path of the `_id`, if none begins there
abbrev pub with_id : List Path → List Path
with_id ps = if is_begun id_key ps then ps else (id_key ∷ []) ∷ ps

-- the fields that the paths name, and no others
abbrev pub fields_alone : List Path → Members → Members
fields_alone ps d = fields true ps d

-- these, and the `_id`
abbrev pub kept_fields : List Path → Members → Members
kept_fields ps d = fields true (with_id ps) d

-- those that the paths don't name
abbrev pub other_fields : List Path → Members → Members
other_fields ps d = fields false ps d
