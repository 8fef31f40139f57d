-- What an error says of a fault, and what a question that was read stands for.
use Rattle.std.specs.Prelude.{◌≡◌, ℕ, List, map, Option, Some, None, Result, Ok, Err, Vec, IsSomeAnd, string_bytes}
use Rattle.std.specs.declared.alloc.Global.{Global}
use Rattle.json.specs.Json.{Json, document as tree_of}
use Rattle.json.specs.Strict.{HasUniqueKeys}
use Rattle.bson_base.specs.Value.{Value}
use Rattle.bson_raw.specs.Convert.{SpellsRawValue}
use Rattle.bson_raw.specs.Raw.{own_value}
use Rattle.bson_raw.specs.declared.bson.RawBson.{RawBson}
use Rattle.store_question.specs.Asked.{Asked, Askeds}
use Rattle.store_question.specs.Reads.{form_of, forms_of, Reads, ReadEach}
use Rattle.store_question.specs.declared.question.Question.{Question}
use Rattle.store_question_read.specs.Query.{Fault, no_operand, no_operator, no_query, query}
use Rattle.store_question_read.specs.declared.error.QueryError.{QueryError}
use Rattle.store_question_read.specs.declared.error.QueryError.TheVariants.{Json as NoJson, RepeatedKey, Query, Operator, Operand, Memory}

-- the error names the fault; out of memory stands for any fault
abbrev pub Names : QueryError → Fault → Type 0
Names Memory f = Unit {0}
Names Query f = f ≡ no_query
Names (Operator k) f = f ≡ no_operator (string_bytes k)
Names (Operand k) f = f ≡ no_operand (string_bytes k)
Names (NoJson n) f = ⊥
Names RepeatedKey f = ⊥

-- this fault is what reading gives; out of memory is reported whatever it gives
abbrev pub Fails : {Y : Type 0} → QueryError → Result Y Fault → Type 0
Fails Memory r = Unit {0}
Fails Query r = r ≡ Err no_query
Fails (Operator k) r = r ≡ Err (no_operator (string_bytes k))
Fails (Operand k) r = r ≡ Err (no_operand (string_bytes k))
Fails (NoJson n) r = ⊥
Fails RepeatedKey r = ⊥

-- what is returned stands, by R, for what reading gives, or its error names the fault
abbrev pub Gives : {X Y : Type 0} → (X → Y → Type 0) → Result X QueryError → Result Y Fault → Type 0
Gives R (Ok x) (Ok y) = R x y
Gives R (Ok x) (Err f) = ⊥
Gives R (Err e) r = Fails e r

abbrev pub Same : {X : Type 0} → X → X → Type 0
Same x y = x ≡ y

abbrev pub Spells : RawBson → Value → Type 0
Spells r v = SpellsRawValue (own_value r) v

-- the question asks this
abbrev pub Asks : Question → Asked → Type 0
Asks q t = Reads (form_of q) t

-- the question asks this, or there is nothing to be asked
abbrev pub AsksOf : Option Question → Option Asked → Type 0
AsksOf None o = o ≡ None
AsksOf (Some q) o = (t : Asked) × (o ≡ Some t) × Asks q t

abbrev pub AskEach : Vec Question Global → Askeds → Type 0
AskEach qs ts = ReadEach (forms_of (map form_of qs.items)) ts

-- what a text is as a query
abbrev pub IsQuery : List ℕ → Result Question QueryError → Type 0
IsQuery t (Ok q) = (j : Json) × (a : Asked) × (tree_of t ≡ Some j) × HasUniqueKeys j × (query j ≡ Ok a) × Asks q a
IsQuery t (Err Memory) = Unit {0}
IsQuery t (Err (NoJson n)) = tree_of t ≡ None
IsQuery t (Err RepeatedKey) = IsSomeAnd (tree_of t) (λ j. ¬ HasUniqueKeys j)
IsQuery t (Err e) = (j : Json) × (tree_of t ≡ Some j) × HasUniqueKeys j × Fails e (query j)
