-- Trees of JSON as what they are taken apart into.
use Rattle.std.proofs.Common.{◌≡◌, ℕ, List, Some, None, Result, Ok, Err, MatchResult, Vec, inl, inr, refl, ap, sym, rules}
use Rattle.std.specs.declared.alloc.Global.{Global}
use Rattle.json.specs.Find.{as_array}
use Rattle.json.specs.Json.{Json, Items, array}
use Rattle.json.specs.Value.{items_view, value_view}
use Rattle.json.specs.declared.value.Value.{Value as Tree, Array, the_lemmas}
use Rattle.bson_base.specs.Value.{binary, scalar}
use Rattle.bson_base.specs.declared.spec.BinarySubtype.TheVariants.{Generic}
use Rattle.bson_json_read.specs.Reading.{read}
use Rattle.fallowtime_requests.specs.Inputs.{tree}
use Rattle.fallowtime_requests.specs.Reading.{StopsStream}
use Rattle.fallowtime_requests.specs.Requests.{IsStream}
use Rattle.fallowtime_requests.specs.Streams.{PutsAll, StopsBytes}
use Rattle.fallowtime_requests.specs.declared.stop.Stop.{Stop}
use Rattle.fallowtime_requests.specs.declared.stop.Stop.TheVariants.{Words, Memory}
use Rattle.cli_convert.specs.declared.made.IdMaker.{IdMaker}

array_seen : (v : Tree Global) (js : Vec (Tree Global) Global) (shown : List (Tree Global)) → v ≡ Array js → shown ≡ js.items → value_view v ≡ array (items_view shown)
array_seen v js shown h k = rw (h, k) (search (rules, the_lemmas))

pub items_seen : (v : Tree Global) (js : Vec (Tree Global) Global) (shown : List (Tree Global)) → v ≡ Array js → shown ≡ js.items → Some (items_view shown) ≡ as_array (value_view v)
items_seen v js shown h k = ap as_array (sym (array_seen v js shown h k))

-- ---- streams

pub of_trees : (m n : IdMaker) (j : Json) (js : Items) (r : Result (Vec ℕ Global) Stop) → Some js ≡ as_array j → PutsAll m n js r
    → MatchResult r (λ v. IsStream m n (tree j) v.items) (StopsStream m (tree j))
of_trees m n j js (Ok stream) is written = inr (js, sym is, written)
of_trees m n j js (Err (Words u)) is (i, first, said) = inr (js, i, sym is, first, said)
of_trees m n j js (Err Memory) is h = tt

pub of_bytes : (m : IdMaker) (j : Json) (r : Result (Vec ℕ Global) Stop) → None ≡ as_array j
    → MatchResult r (λ v. read j ≡ Ok (scalar (binary Generic v.items))) (StopsBytes (read j)) → MatchResult r (λ v. IsStream m m (tree j) v.items) (StopsStream m (tree j))
of_bytes m j (Ok stream) is read = inl (sym is, read, refl)
of_bytes m j (Err (Words u)) is (none, said) = inl (sym is, none, said)
of_bytes m j (Err Memory) is h = tt
