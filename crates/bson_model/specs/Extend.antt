-- What a document's pairs are after pairs were put into it, one after the other.
use Rattle.std.specs.Prelude.{◌≡◌, ℕ, ◌<◌, List, ◌∷◌, ◌++◌, length, take, None, String, string_bytes}
use Rattle.std.specs.List.{fold}
use Rattle.std.specs.declared.alloc.Global.{Global}
use Rattle.bson_base.specs.Value.{Value}
use Rattle.bson_pairs.specs.Keyed.{Key, get, put}
use Rattle.bson_model.specs.View.{view}
use Rattle.bson_model.specs.declared.bson.Bson.{Bson}

-- each value under its key, one after the other
abbrev pub put_all : List (String Global × Bson) → List (Key × Value) → List (Key × Value)
put_all xs ps = fold (λ qs x. put (string_bytes x.0) (view x.1) qs) ps xs

-- qs is ps with some of xs put in, from the first on, but not all
abbrev pub PutsSome : List (String Global × Bson) → List (Key × Value) → List (Key × Value) → Type 0
PutsSome xs ps qs = (n : ℕ) × (n < length xs) × (qs ≡ put_all (take n xs) ps)

-- qs is ps with those of xs put in that come before one whose key is new
abbrev pub PutsUpToNew : List (String Global × Bson) → List (Key × Value) → List (Key × Value) → Type 0
PutsUpToNew xs ps qs = (before after : List (String Global × Bson)) × (x : String Global × Bson) × (xs ≡ before ++ x ∷ after) × (qs ≡ put_all before ps) × (get (string_bytes x.0) qs ≡ None)
