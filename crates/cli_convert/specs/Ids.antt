-- Ids among the words of a command.
use Rattle.std.specs.Prelude.{ℕ, List, Option, Some, None, Result, Ok}
use Rattle.json.specs.Json.{Json}
use Rattle.bson_base.specs.Value.{Value, scalar, string}
use Rattle.bson_json_read.specs.Reading.{read}
use Rattle.bson_json_read.specs.declared.error.Error.{Error}

-- The id of a word that has this tree of JSON: what the tree reads as; without a tree the word itself, as a text.
abbrev pub id_of : List ℕ → Option Json → Result Value Error
id_of word None = Ok (scalar (string word))
id_of word (Some j) = read j
