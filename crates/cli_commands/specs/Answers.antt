-- What is printed of the results of the store's calls.
use Rattle.std.specs.Prelude.{Bool, ℕ, Result, Ok, Err, Vec, String}
use Rattle.std.specs.declared.alloc.Global.{Global}
use Rattle.serde_json.specs.declared.value.Value.{Value as Json}
use Rattle.store_model.specs.declared.error.StoreError.{StoreError}
use Rattle.cli_commands.specs.declared.answer.Answer.{Answer}
use Rattle.cli_commands.specs.declared.answer.Answer.TheVariants.{Nothing, Flag, Number, Tree, Documents, Names}
use Rattle.cli_commands.specs.declared.stop.Failure.{Failure}
use Rattle.cli_commands.specs.declared.stop.Failure.TheVariants.{Refused}

-- a result as the answer that it is
abbrev pub answer_by : {A : Type 0} → (A → Answer) → Result A StoreError → Result Answer Failure
answer_by f (Ok x) = Ok (f x)
answer_by f (Err e) = Err (Refused e)

abbrev pub as_nothing : Unit {0} → Answer
as_nothing x = Nothing

abbrev pub flag_answer : Bool → Answer
flag_answer b = Flag b

abbrev pub as_tree : Json → Answer
as_tree j = Tree j

abbrev pub number_answer : ℕ → Answer
number_answer n = Number n

abbrev pub as_documents : Vec (Vec ℕ Global) Global → Answer
as_documents v = Documents v

abbrev pub names_answer : Vec (String Global) Global → Answer
names_answer v = Names v
