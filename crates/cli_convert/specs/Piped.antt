-- What lines that were written of documents are read and written as.
use Rattle.std.specs.Prelude.{◌≤◌, ℕ, List, [], ◌∷◌, ◌++◌}
use Rattle.bson_base.specs.Value.{Members, document}
use Rattle.bson_bytes.specs.Encode.{encode}
use Rattle.bson_json.specs.Settled.{json_levels, settle_members}
use Rattle.bson_model.specs.declared.extjson.ser.Mode.TheVariants.{Canonical}

-- documents that have no more levels of JSON than the reader takes
abbrev pub AreShallow : List Members → Type 0
AreShallow [] = Unit {0}
AreShallow (d ∷ ds) = (json_levels (document d) ≤ 125) × AreShallow ds

-- the written forms of the documents, each settled, one after the other
abbrev pub settled_bytes : List Members → List ℕ
settled_bytes [] = []
settled_bytes (d ∷ ds) = encode (settle_members Canonical d) ++ settled_bytes ds
