-- The lines that commands are.
use Rattle.std.proofs.Common.{◌≡◌, ℕ, List, Option, Some, Result, Ok, Err, IfOk, codes, subst}
use Rattle.json.specs.Json.{Json, document as tree_of}
use Rattle.bson_base.specs.Value.{Items, Members, Value, array, look_up}
use Rattle.bson_json.specs.Prints.{IsTextOf}
use Rattle.bson_model.specs.declared.extjson.ser.Mode.{Mode}
use Rattle.bson_model.specs.declared.extjson.ser.Mode.TheVariants.{Relaxed}
use Rattle.fallowtime_words.specs.declared.command.Command.{Command}
use Rattle.fallowtime_words.specs.declared.command.Command.TheVariants as command
use Rattle.fallowtime_statements.specs.Lines.{AreOptions, IsCount, IsFind, IsGiven, IsLine, IsRead, StandsForLine, line_of_three, line_of_two}
use Rattle.fallowtime_statements.specs.declared.statement.Statement.{Statement}
use Rattle.fallowtime_statements.specs.declared.fault.Fault.{Fault}

module _ (r : Result Statement Fault) where
  -- what a text reads as
  pub text_read : (c : Command) (t : List ℕ) (j : Json) → tree_of t ≡ Some j → IfOk r (StandsForLine c j) → IfOk r (IsRead c t)
  text_read c t j tree stands = by r stands
    where
      by : (x : Result Statement Fault) → IfOk x (StandsForLine c j) → IfOk x (IsRead c t)
      by (Ok s) h = (j, tree, h)
      by (Err e) h = tt

  -- what is read of the text of a line
  pub line_read : (mode : Mode) (c : Command) (vs : Items) (t : List ℕ) → IsTextOf mode (array vs) t → IfOk r (IsRead c t) → IfOk r (IsLine mode c vs)
  line_read mode c vs t text read = by r read
    where
      by : (x : Result Statement Fault) → IfOk x (IsRead c t) → IfOk x (IsLine mode c vs)
      by (Ok s) h = (t, text, h)
      by (Err e) h = tt

  pub is_count : (query : Option Value) (n : List ℕ) (d : Members) (vs : Items) → IsGiven query d → vs ≡ line_of_two n d → IfOk r (IsLine Relaxed command.Count vs) → IfOk r (IsCount query n)
  is_count query n d vs given same line = by r line
    where
      by : (x : Result Statement Fault) → IfOk x (IsLine Relaxed command.Count vs) → IfOk x (IsCount query n)
      by (Ok s) h = (d, given, subst (λ ws. IsLine Relaxed command.Count ws s) same h)
      by (Err e) h = tt

  pub is_find : (ms : Members) (n : List ℕ) (d o : Members) (vs : Items) → IsGiven (look_up (codes "filter") ms) d → AreOptions ms o → vs ≡ line_of_three n d o → IfOk r (IsLine Relaxed command.Find vs) → IfOk r (IsFind ms n)
  is_find ms n d o vs given are same line = by r line
    where
      by : (x : Result Statement Fault) → IfOk x (IsLine Relaxed command.Find vs) → IfOk x (IsFind ms n)
      by (Ok s) h = (d, o, given, are, subst (λ ws. IsLine Relaxed command.Find ws s) same h)
      by (Err e) h = tt
