-- What a list of pairs is after pairs were put into it, one after the other.
use Rattle.std.specs.Prelude.{◌≡◌, List, ◌∷◌, ◌++◌, None, String, string_bytes}
use Rattle.std.specs.List.{fold}
use Rattle.std.specs.declared.alloc.Global.{Global}
use Rattle.bson_pairs.specs.Keyed.{Key, get, put}

module _ {V : Type 0} where
  -- each value under its key, one after the other
  abbrev pub put_each : List (String Global × V) → List (Key × V) → List (Key × V)
  put_each xs ps = fold (λ qs x. put (string_bytes x.0) x.1 qs) ps xs

  -- qs is ps with those of xs put in that are before one whose key is new
  abbrev pub PutsBeforeNew : List (String Global × V) → List (Key × V) → List (Key × V) → Type 0
  PutsBeforeNew xs ps qs = (before after : List (String Global × V)) × (x : String Global × V) × (xs ≡ before ++ x ∷ after) × (qs ≡ put_each before ps) × (get (string_bytes x.0) qs ≡ None)
