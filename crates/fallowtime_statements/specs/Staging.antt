-- The pipelines of `aggregate` as the line of `aggregate`, whatever stages they have.
use Rattle.std.specs.Prelude.{◌≡◌, ℕ, List, Option, Some}
use Rattle.std.specs.List.{AllZip}
use Rattle.bson_base.specs.Value.{Value, Items, Members, array, document, item, no_items, scalar, string}
use Rattle.bson_model.specs.View.{items_of}
use Rattle.bson_model.specs.declared.extjson.ser.Mode.TheVariants.{Relaxed}
use Rattle.fallowtime_words.specs.declared.command.Command.TheVariants as command
use Rattle.fallowtime_statements.specs.Lines.{IsGiven, IsLine}
use Rattle.fallowtime_statements.specs.declared.statement.Statement.{Statement}

-- a stage is a document that has no reserved key below its top
abbrev pub IsStage : Value → Value → Type 0
IsStage v w = (d : Members) × IsGiven (Some v) d × (w ≡ document d)

-- the stages of an array
abbrev pub AreStages : Option Value → List Value → Type 0
AreStages pipeline ws = (vs : List Value) × (pipeline ≡ Some (array (items_of vs))) × AllZip IsStage vs ws

abbrev pub line_of_stages : List ℕ → List Value → Items
line_of_stages name ws = item (scalar (string name)) (item (array (items_of ws)) no_items)

-- `{aggregate: NAME, pipeline: STAGES}` is `["aggregate", NAME, STAGES]`
abbrev pub IsAggregate : Option Value → List ℕ → Statement → Type 0
IsAggregate pipeline name s = (ws : List Value) × AreStages pipeline ws × IsLine Relaxed command.Aggregate (line_of_stages name ws) s
