-- The names of the collections.
use Rattle.std.specs.Prelude.{ℕ, Bool, List, Vec, bytes_eq, codes}
use Rattle.std.specs.List.{list_any}
use Rattle.std.specs.declared.alloc.Global.{Global}

abbrev pub has_name : List (Vec ℕ Global) → List ℕ → Bool
has_name names c = list_any (λ (n : Vec ℕ Global). bytes_eq c n.items) names

abbrev pub is_same_name : List ℕ → List ℕ → Bool
is_same_name c name = bytes_eq c name

abbrev pub names_text : List ℕ
names_text = codes "SELECT coll FROM documents ORDER BY place"
