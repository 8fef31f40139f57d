-- The keys of an index.
use Rattle.std.specs.Prelude.{◌≡◌, ℕ, List, drop, Option, None, Some, IsSomeAnd}
use Rattle.bson_base.specs.Value.{Value, document, Members}
use Rattle.bson_meaning.specs.Meaning.{key}
use Rattle.store_model.specs.Filter.{Path, at}
use Rattle.store_model.specs.Table.{only_id}

-- the key of a value: that of the document with this `_id` alone, from the value on; values of two kinds may have one
abbrev pub value_key : Value → List ℕ
value_key v = drop 9 (key (only_id v))

-- what the key of the value at a path is
abbrev pub KeyAt : Members → Path → Option (List ℕ) → Type 0
KeyAt d p None = at (document d) p ≡ None
KeyAt d p (Some k) = IsSomeAnd (at (document d) p) (λ v. k ≡ value_key v)
