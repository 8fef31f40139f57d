-- Reserved keys below the top of a document. There Extended JSON would read a typed value instead of the document that
-- was written.
use Rattle.std.specs.Prelude.{ℕ, suc, Bool, false, ◌||◌, if◌then◌else◌, List, ◌++◌, codes, decimal, Option, Some, None, option_map}
use Rattle.bson_model.specs.JsonKeys.{is_reserved}
use Rattle.bson_base.specs.Value.{Value, scalar, array, document, scoped_code, Items, no_items, item, Members, no_members, member}

-- among the keys of a document
abbrev pub some_reserved : Members → Bool
some_reserved no_members = false
some_reserved (member k v ms) = is_reserved k || some_reserved ms

abbrev mutual
  -- a document in the value, or the value itself, has one among its keys; the keys of a scope are free
  pub reserved_in : Value → Bool
  reserved_in (scalar s) = false
  reserved_in (array vs) = reserved_in_items vs
  reserved_in (document ms) = some_reserved ms || has_reserved ms
  reserved_in (scoped_code t ms) = has_reserved ms

  pub reserved_in_items : Items → Bool
  reserved_in_items no_items = false
  reserved_in_items (item v vs) = reserved_in v || reserved_in_items vs

  -- a document below these members has one
  pub has_reserved : Members → Bool
  has_reserved no_members = false
  has_reserved (member k v ms) = reserved_in v || has_reserved ms

-- ---- the path to the first one

-- among the keys of a document
abbrev pub first_reserved : Members → Option (List ℕ)
first_reserved no_members = None
first_reserved (member k v ms) = if is_reserved k then Some k else first_reserved ms

-- a path with one more step in front
abbrev pub behind_step : List ℕ → Option (List ℕ) → Option (List ℕ)
behind_step s path = option_map (λ p. s ++ codes "." ++ p) path

abbrev pub first_path : Option (List ℕ) → Option (List ℕ) → Option (List ℕ)
first_path (Some p) more = Some p
first_path None more = more

-- Keys, and places in arrays, with dots between them, down to the reserved key. The keys of a document come before what is
-- below them; a scope is no step of its own.
abbrev mutual
  pub reserved_path : Value → Option (List ℕ)
  reserved_path (scalar s) = None
  reserved_path (array vs) = reserved_path_in_items 0 vs
  reserved_path (document ms) = first_path (first_reserved ms) (reserved_path_below ms)
  reserved_path (scoped_code t ms) = reserved_path_below ms

  -- the number is the place of the first item
  pub reserved_path_in_items : ℕ → Items → Option (List ℕ)
  reserved_path_in_items n no_items = None
  reserved_path_in_items n (item v vs) = first_path (behind_step (decimal n) (reserved_path v)) (reserved_path_in_items (suc n) vs)

  pub reserved_path_below : Members → Option (List ℕ)
  reserved_path_below no_members = None
  reserved_path_below (member k v ms) = first_path (behind_step k (reserved_path v)) (reserved_path_below ms)
