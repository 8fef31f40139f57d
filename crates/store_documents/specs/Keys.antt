-- Written keys, and the first that is there already.
use Rattle.std.specs.Prelude.{ℕ, suc, Bool, List, map, [], ◌∷◌, ◌++◌, Option, Some, None, if◌then◌else◌}
use Rattle.std.specs.List.{list_any}
use Rattle.std.specs.Str.{bytes_eq}
use Rattle.bson_meaning.specs.Meaning.{key}
use Rattle.store_model.specs.Reading.{Documents}
use Rattle.store_model.specs.Table.{own_id}
use Rattle.store_documents.specs.declared.write.KeptRow.{KeptRow}
use Rattle.store_documents.specs.declared.keys.Keys.{Keys}

-- the key is among those that were met
abbrev pub has_met : Keys → List ℕ → Bool
has_met s k = list_any (λ x. bytes_eq k x.now) s.met.keys

-- the written keys of rows
abbrev pub keys_of_rows : List KeptRow → List (List ℕ)
keys_of_rows = map (λ (w : KeptRow). w.key.items)

-- The keys are added in order to those that are there: the place, from i on, of the first that is there already.
abbrev pub first_taken : ℕ → List (List ℕ) → List (List ℕ) → Option ℕ
first_taken i there [] = None
first_taken i there (k ∷ ks) = if list_any (bytes_eq k) there then Some i else first_taken (suc i) (there ++ k ∷ []) ks

-- the written keys of the documents' ids
abbrev pub keys_of : Documents → List (List ℕ)
keys_of ds = map (λ d. key (own_id d)) ds
