-- What texts among the words stand for.
use Rattle.std.specs.Prelude.{◌≡◌, ◌⊎◌, ℕ, List, Some, None, Result, Ok, Err}
use Rattle.serde_json.specs.Data.{Data}
use Rattle.serde_json.specs.Read.{read as data_of_text}
use Rattle.serde_json.specs.View.{view as data_of}
use Rattle.serde_json.specs.declared.value.Value.{Value as Json}
use Rattle.bson_model.specs.JsonRead.{read as value_of}
use Rattle.bson_model.specs.View.{view}
use Rattle.bson_model.specs.declared.bson.Bson.{Bson}
use Rattle.bson_model.specs.declared.extjson.de.Error.{Error}
use Rattle.cli_commands.specs.declared.word_texts.TextError.{TextError}
use Rattle.cli_commands.specs.declared.word_texts.TextError.TheVariants.{Unreadable, Memory}

-- the tree of the text, or there is none; or out of memory
abbrev pub AnswersText : List ℕ → Result Json TextError → Type 0
AnswersText text (Ok j) = data_of_text text ≡ Some (data_of j)
AnswersText text (Err Unreadable) = data_of_text text ≡ None
AnswersText text (Err Memory) = Unit {0}

-- the tree stands for no value
abbrev pub HasNoValue : Data → Type 0
HasNoValue j = (fault : Error) × (value_of j ≡ Err fault)

-- the value of the Extended JSON text, or there is none; or out of memory
abbrev pub AnswersId : List ℕ → Result Bson TextError → Type 0
AnswersId text (Ok v) = (j : Data) × (data_of_text text ≡ Some j) × (value_of j ≡ Ok (view v))
AnswersId text (Err Unreadable) = (data_of_text text ≡ None) ⊎ ((j : Data) × (data_of_text text ≡ Some j) × HasNoValue j)
AnswersId text (Err Memory) = Unit {0}
