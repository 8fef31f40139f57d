-- A query in MongoDB's language: what it asks of a document, or the first fault in the order of its text.
use Rattle.std.specs.Prelude.{ℕ, ℤ, pos, zero, negsuc, ◌==◌, ◌&&◌, ◌||◌, not, Bool, true, false, if◌then◌else◌, List, [], ◌∷◌, codes, Option, Some, None, is_some, Result, Ok, Err}
use Rattle.std.specs.List.{slice_split}
use Rattle.std.specs.Ordering.{int_eq}
use Rattle.std.specs.Str.{bytes_eq}
use Rattle.json.specs.Json as json
use Rattle.json.specs.Json.{Json, object}
use Rattle.bson_base.specs.Answer.{◌>>=◌}
use Rattle.bson_base.specs.Value.{Value, decimal, double, scalar}
use Rattle.bson_base.specs.declared.spec.ElementType.{ElementType}
use Rattle.bson_base.specs.declared.spec.ElementType.TheVariants as kinds
use Rattle.bson_json_read.specs.Reading.{read}
use Rattle.bson_json_read.specs.declared.error.Error.{Error}
use Rattle.bson_model.specs.JsonKeys.{is_reserved}
use Rattle.bson_json_read.specs.DoubleText.{double_of}
use Rattle.bson_order.specs.Wholes.{part_of, whole_of}
use Rattle.store_model.specs.Filter.{Path}
use Rattle.store_question.specs.Asked.{Asked, at, whole, exists, is_of, lies, has_size, leaves, has_item, no, all_of, any_of, Askeds, no_asked, asked}
use Rattle.store_question.specs.declared.question.Comparison.{Comparison}
use Rattle.store_question.specs.declared.question.Comparison.TheVariants.{Equal, Less, AtMost, AtLeast, Greater}
use Rattle.store_question_read.specs.Kinds.{is_number, kind_of}
use Rattle.store_question_read.specs.Patterns.{are_options, asked_of}
use Rattle.store_question_read.specs.Values.{can_be_held, decimal_in, is_expression, numeral_in, truth_of}
use Rattle.store_question_read.specs.declared.words.Joining.{Joining}
use Rattle.store_question_read.specs.declared.words.Joining.TheVariants.{And, Or, Nor, Comment}
use Rattle.store_question_read.specs.declared.words.Listed.{Listed}
use Rattle.store_question_read.specs.declared.words.Listed.TheVariants.{Queries, Values, Parts, Kinds}
use Rattle.store_question_read.specs.declared.words.Operator.{Operator}
use Rattle.store_question_read.specs.declared.words.Operator.TheVariants.{Eq, Ne, Lies, In, Nin, All, ElementMatch, Size, Exists, Kind, Mod, Regex, Options, Not}

pub data Fault : Type 0 where
  -- a query is an object
  no_query : Fault
  -- there is no operator of this name here
  no_operator : List ℕ → Fault
  -- the value under this path or operator doesn't belong there
  no_operand : List ℕ → Fault

-- ---- words

abbrev pub first_named : {A : Type 0} → List (List ℕ × A) → List ℕ → Option A
first_named [] k = None
first_named (e ∷ es) k = if bytes_eq k e.0 then Some e.1 else first_named es k

-- at the top of a query
unfoldable pub joining_of : List ℕ → Option Joining
joining_of k = first_named ((codes "$and", And) ∷ (codes "$or", Or) ∷ (codes "$nor", Nor) ∷ (codes "$comment", Comment) ∷ []) k

-- under a path
unfoldable pub operator_of : List ℕ → Option Operator
operator_of k =
    first_named
    ((codes "$eq", Eq) ∷ (codes "$ne", Ne) ∷ (codes "$gt", Lies Greater) ∷ (codes "$gte", Lies AtLeast) ∷ (codes "$lt", Lies Less)
    ∷ (codes "$lte", Lies AtMost) ∷ (codes "$in", In) ∷ (codes "$nin", Nin) ∷ (codes "$all", All) ∷ (codes "$elemMatch", ElementMatch)
    ∷ (codes "$size", Size) ∷ (codes "$exists", Exists) ∷ (codes "$type", Kind) ∷ (codes "$mod", Mod) ∷ (codes "$regex", Regex)
    ∷ (codes "$options", Options) ∷ (codes "$not", Not) ∷ [])
    k

abbrev pub begins_with_dollar : List ℕ → Bool
begins_with_dollar [] = false
begins_with_dollar (c ∷ cs) = c == 36

-- An object is one of operators by its first key, which begins with `$`, and marks neither a typed value of Extended JSON
-- nor a reference to a document.
abbrev pub names_operator : List ℕ → Bool
names_operator k = begins_with_dollar k && not (is_reserved k) && not (bytes_eq k (codes "$ref"))

abbrev pub are_operators : json.Members → Bool
are_operators json.no_members = false
are_operators (json.member k j js) = names_operator k

abbrev pub has_operators : Json → Bool
has_operators (object js) = are_operators js
has_operators _ = false

abbrev pub has_key : List ℕ → json.Members → Bool
has_key k json.no_members = false
has_key k (json.member l j js) = bytes_eq l k || has_key k js

-- options of no regular expression
abbrev pub has_lone_options : json.Members → Bool
has_lone_options js = has_key (codes "$options") js && not (has_key (codes "$regex") js)

abbrev pub text_or_none : Json → List ℕ
text_or_none (json.string t) = t
text_or_none _ = []

-- the options beside a pattern
abbrev pub options_in : json.Members → List ℕ
options_in json.no_members = []
options_in (json.member k j js) = if bytes_eq k (codes "$options") then text_or_none j else options_in js

-- what is between the dots
abbrev pub keys : List ℕ → Path
keys p = slice_split (λ b. b == 46) p

-- ---- values under a path or an operator k, which a fault names

abbrev pub some_or_fault : {A : Type 0} → List ℕ → Option A → Result A Fault
some_or_fault k (Some x) = Ok x
some_or_fault k None = Err (no_operand k)

abbrev pub only_if : {A : Type 0} → Bool → List ℕ → A → Result A Fault
only_if b k x = if b then Ok x else Err (no_operand k)

abbrev pub or_fault : List ℕ → Result Value Error → Result Value Fault
or_fault k (Ok v) = Ok v
or_fault k (Err e) = Err (no_operand k)

-- read as in a document; BSON has to be able to hold it
abbrev pub value : List ℕ → Json → Result Value Fault
value k j = or_fault k (read j) >>= λ v. only_if (can_be_held v) k v

-- by a regular expression alone MongoDB searches texts, which is done under `$regex` only
abbrev pub plain_value : List ℕ → Json → Result Value Fault
plain_value k j = value k j >>= λ v. only_if (not (is_expression v)) k v

abbrev pub number : List ℕ → Json → Result ℤ Fault
number k j = value k j >>= λ v. some_or_fault k (whole_of v)

-- a number cut off toward zero
abbrev pub part : List ℕ → Json → Result ℤ Fault
part k j = value k j >>= λ v. some_or_fault k (part_of v)

-- ---- what one operator asks of a path p

-- What is no double lies to the decimal that a numeral is; if none is, to the double that is nearest, but isn't equal to it.
abbrev pub others_lie : Comparison → ℕ → Option (List ℕ) → Asked
others_lie c n (Some bytes) = lies c (scalar (decimal bytes))
others_lie Equal n None = any_of no_asked
others_lie c n None = lies c (scalar (double n))

abbrev pub both : Asked → Asked → Asked
both q r = all_of (asked q (asked r no_asked))

abbrev pub either : Asked → Asked → Asked
either q r = any_of (asked q (asked r no_asked))

-- it lies so to a numeral: a double to the one that is nearest
abbrev pub lies_near : Comparison → ℕ → Option (List ℕ) → Asked
lies_near c n d = either (both (is_of kinds.Double) (lies c (scalar (double n)))) (both (no (is_of kinds.Double)) (others_lie c n d))

-- a numeral that is too large for a double doesn't belong there
abbrev pub near : Path → List ℕ → Comparison → List ℕ → Result Asked Fault
near p k c t = some_or_fault k (double_of t) >>= λ n. Ok (at p (lies_near c n (decimal_in t)))

abbrev pub compared_by : Path → List ℕ → Comparison → Json → Option (List ℕ) → Result Asked Fault
compared_by p k c j (Some t) = near p k c t
compared_by p k c j None = plain_value k j >>= λ v. Ok (at p (lies c v))

abbrev pub compared : Path → List ℕ → Comparison → Json → Result Asked Fault
compared p k c j = compared_by p k c j (numeral_in j)

abbrev pub equal : Path → List ℕ → Json → Result Asked Fault
equal p k j = compared p k Equal j

abbrev pub exactly_by : Path → List ℕ → Json → Option (List ℕ) → Result Asked Fault
exactly_by p k j (Some t) = near p k Equal t
exactly_by p k j None = value k j >>= λ v. Ok (at p (lies Equal v))

-- also a regular expression
abbrev pub exactly : Path → List ℕ → Json → Result Asked Fault
exactly p k j = exactly_by p k j (numeral_in j)

abbrev pub differs : Path → List ℕ → Json → Result Asked Fault
differs p k j = equal p k j >>= λ q. Ok (no q)

abbrev pub there : Path → Bool → Asked
there p b = if b then at p exists else no (at p exists)

abbrev pub existing : Path → List ℕ → Json → Result Asked Fault
existing p k j = value k j >>= λ v. some_or_fault k (truth_of v) >>= λ b. Ok (there p b)

abbrev pub is_a_number : Path → Asked
is_a_number p = any_of (asked (at p (is_of kinds.Double)) (asked (at p (is_of kinds.Int32)) (asked (at p (is_of kinds.Int64)) (asked (at p (is_of kinds.Decimal128)) no_asked))))

abbrev pub has_kind : Path → List ℕ → Value → Result Asked Fault
has_kind p k v = if is_number v then Ok (is_a_number p) else (some_or_fault k (kind_of v) >>= λ e. Ok (at p (is_of e)))

abbrev pub of_kind : Path → List ℕ → Json → Result Asked Fault
of_kind p k j = value k j >>= λ v. has_kind p k v

abbrev pub sized : Path → List ℕ → ℤ → Result Asked Fault
sized p k (pos n) = Ok (whole p (has_size n))
sized p k (negsuc n) = Err (no_operand k)

abbrev pub of_size : Path → List ℕ → Json → Result Asked Fault
of_size p k j = number k j >>= λ z. sized p k z

-- nothing is divided by zero
abbrev pub divisor : List ℕ → Json → Result ℤ Fault
divisor k j = part k j >>= λ d. only_if (not (int_eq d (pos zero))) k d

-- divisor and remainder
abbrev pub divided : Path → List ℕ → Json → Result Asked Fault
divided p k (json.array (json.item i (json.item j json.no_items))) = divisor k i >>= λ d. part k j >>= λ r. Ok (at p (leaves d r))
divided p k _ = Err (no_operand k)

-- a text in which a pattern under the options o finds something
abbrev pub found_by : Path → List ℕ → List ℕ → Json → Result Asked Fault
found_by p o k j = value k j >>= λ v. some_or_fault k (asked_of o v) >>= λ q. Ok (at p q)

abbrev pub is_text_of_options : Json → Bool
is_text_of_options (json.string t) = are_options t
is_text_of_options _ = false

-- the options of a pattern, which ask nothing by themselves
abbrev pub with_options : List ℕ → Json → Result Asked Fault
with_options k j = only_if (is_text_of_options j) k (all_of no_asked)

abbrev pub filled : List ℕ → Askeds → Result Askeds Fault
filled k no_asked = Err (no_operand k)
filled k (asked q qs) = Ok (asked q qs)

abbrev pub one_at_least : List ℕ → Result Askeds Fault → Result Askeds Fault
one_at_least k list = list >>= λ qs. filled k qs

-- all of them, if there are any
abbrev pub every : Askeds → Asked
every no_asked = any_of no_asked
every (asked q qs) = all_of (asked q qs)

-- an array or a document that answers a query
abbrev pub holds : Askeds → Asked
holds qs = both (either (is_of kinds.EmbeddedDocument) (is_of kinds.Array)) (all_of qs)

abbrev pub is_array : Json → Bool
is_array (json.array js) = true
is_array _ = false

abbrev pub kind_or_kinds : Path → List ℕ → Json → Result Askeds Fault → Result Asked Fault
kind_or_kinds p k j list = if is_array j then (one_at_least k list >>= λ qs. Ok (any_of qs)) else of_kind p k j

-- The operator k with what is under it, and the options o of a pattern beside it. The last three are what that gives as an array of such items, as an object of
-- operators, and as what an item has to match.
abbrev pub test : Path → List ℕ → List ℕ → Option Operator → Json → (Listed → Result Askeds Fault) → Result Asked Fault → Result Asked Fault → Result Asked Fault
test p o k None j list operators match = Err (no_operator k)
test p o k (Some Eq) j list operators match = exactly p k j
test p o k (Some Ne) j list operators match = differs p k j
test p o k (Some (Lies c)) j list operators match = compared p k c j
test p o k (Some In) j list operators match = list Values >>= λ qs. Ok (any_of qs)
test p o k (Some Nin) j list operators match = list Values >>= λ qs. Ok (no (any_of qs))
test p o k (Some All) j list operators match = list Parts >>= λ qs. Ok (every qs)
test p o k (Some ElementMatch) j list operators match = match
test p o k (Some Size) j list operators match = of_size p k j
test p o k (Some Exists) j list operators match = existing p k j
test p o k (Some Kind) j list operators match = kind_or_kinds p k j (list Kinds)
test p o k (Some Mod) j list operators match = divided p k j
test p o k (Some Regex) j list operators match = found_by p o k j
test p o k (Some Options) j list operators match = with_options k j
test p o k (Some Not) j list operators match = operators >>= λ q. Ok (no q)

-- options without a pattern beside them are refused in front of all else
abbrev pub together : json.Members → Result Askeds Fault → Result Askeds Fault
together js list = if has_lone_options js then Err (no_operand (codes "$options")) else list

-- an entry of a query: its body as a list of queries, and what it asks of its path
abbrev pub entry : List ℕ → Option Joining → Result Askeds Fault → Result Asked Fault → Result Asked Fault
entry k None list condition = if begins_with_dollar k then Err (no_operator k) else condition
entry k (Some And) list condition = one_at_least k list >>= λ qs. Ok (all_of qs)
entry k (Some Or) list condition = one_at_least k list >>= λ qs. Ok (any_of qs)
entry k (Some Nor) list condition = one_at_least k list >>= λ qs. Ok (no (any_of qs))
entry k (Some Comment) list condition = Ok (all_of no_asked)

-- an item of an array under k: a query, a value, what `$all` asks for, a kind
abbrev pub listed : Path → List ℕ → Listed → Json → Result Asked Fault → Result Asked Fault → Result Asked Fault
listed p k Queries j query match = query
listed p k Values j query match = if has_operators j then Err (no_operand k) else equal p k j
listed p k Parts j query match = if has_operators j then match else equal p k j
listed p k Kinds j query match = of_kind p k j

-- ---- objects and arrays

-- whether the first key is an operator that is asked of each item itself
abbrev pub are_of_items : json.Members → Bool
are_of_items json.no_members = false
are_of_items (json.member k j js) = is_some (operator_of k)

-- a query: all of its entries are asked
abbrev mutual
  pub query : Json → Result Asked Fault
  query (object js) = entries js >>= λ qs. Ok (all_of qs)
  query json.null = Err no_query
  query (json.boolean b) = Err no_query
  query (json.number t) = Err no_query
  query (json.string t) = Err no_query
  query (json.array js) = Err no_query

  pub entries : json.Members → Result Askeds Fault
  entries json.no_members = Ok no_asked
  entries (json.member k j js) =
      entry k (joining_of k) (items [] k Queries j) (if has_operators j then operators (keys k) k j else equal (keys k) k j)
      >>= λ q. entries js >>= λ qs. Ok (asked q qs)

  -- an object of operators: all of them are asked
  pub operators : Path → List ℕ → Json → Result Asked Fault
  operators p k (object js) = if are_operators js then (together js (tests p (options_in js) js) >>= λ qs. Ok (all_of qs)) else Err (no_operand k)
  operators p k json.null = Err (no_operand k)
  operators p k (json.boolean b) = Err (no_operand k)
  operators p k (json.number t) = Err (no_operand k)
  operators p k (json.string t) = Err (no_operand k)
  operators p k (json.array js) = Err (no_operand k)

  pub tests : Path → List ℕ → json.Members → Result Askeds Fault
  tests p o json.no_members = Ok no_asked
  tests p o (json.member k j js) =
      test p o k (operator_of k) j (λ l. items p k l j) (operators p k j) (matching p k j) >>= λ q. tests p o js >>= λ qs. Ok (asked q qs)

  -- what an item of an array has to match: operators, or a query
  pub matching : Path → List ℕ → Json → Result Asked Fault
  matching p k (object js) =
      if are_of_items js then (together js (tests [] (options_in js) js) >>= λ qs. Ok (whole p (has_item (all_of qs))))
      else (entries js >>= λ qs. Ok (whole p (has_item (holds qs))))
  matching p k json.null = Err (no_operand k)
  matching p k (json.boolean b) = Err (no_operand k)
  matching p k (json.number t) = Err (no_operand k)
  matching p k (json.string t) = Err (no_operand k)
  matching p k (json.array js) = Err (no_operand k)

  -- `$elemMatch` alone, as an item of `$all`
  pub match_alone : Path → List ℕ → Json → Result Asked Fault
  match_alone p k (object (json.member l j json.no_members)) = if bytes_eq l (codes "$elemMatch") then matching p l j else Err (no_operand k)
  match_alone p k (object json.no_members) = Err (no_operand k)
  match_alone p k (object (json.member l j (json.member m i js))) = Err (no_operand k)
  match_alone p k json.null = Err (no_operand k)
  match_alone p k (json.boolean b) = Err (no_operand k)
  match_alone p k (json.number t) = Err (no_operand k)
  match_alone p k (json.string t) = Err (no_operand k)
  match_alone p k (json.array js) = Err (no_operand k)

  pub items : Path → List ℕ → Listed → Json → Result Askeds Fault
  items p k l (json.array js) = each p k l js
  items p k l json.null = Err (no_operand k)
  items p k l (json.boolean b) = Err (no_operand k)
  items p k l (json.number t) = Err (no_operand k)
  items p k l (json.string t) = Err (no_operand k)
  items p k l (object js) = Err (no_operand k)

  pub each : Path → List ℕ → Listed → json.Items → Result Askeds Fault
  each p k l json.no_items = Ok no_asked
  each p k l (json.item j js) = listed p k l j (query j) (match_alone p k j) >>= λ q. each p k l js >>= λ qs. Ok (asked q qs)

-- what is asked of the path that a key is
abbrev pub condition : List ℕ → Json → Result Asked Fault
condition k j = if has_operators j then operators (keys k) k j else equal (keys k) k j
