-- What a question asks of a value, or of nothing.
use Rattle.std.specs.Prelude.{◌≡◌, ◌⊎◌, ℕ, zero, suc, ℤ, pos, int_rem, List, [], ◌∷◌, Bool, true, false, nat_eq, ◌==◌, if◌then◌else◌, Option, Some, None, unwrap_or, option_and_then, IsTrue, IsSomeAnd, MatchOption}
use Rattle.std.specs.List.{starts_with}
use Rattle.std.specs.Ordering.{is_lt, is_le, is_eq, is_ge, is_gt, int_eq}
use Rattle.std.specs.declared.cmp.Ordering.{Ordering}
use Rattle.std.specs.declared.cmp.Ordering.TheVariants.{Less, Greater}
use Rattle.bson_base.specs.declared.spec.ElementType.{ElementType}
use Rattle.bson_base.specs.Value.{null, min_key, max_key, string, symbol, Value, scalar, array, document, Members, no_members, member, look_up, value_kind}
use Rattle.bson_order.specs.Wholes.{part_of}
use Rattle.bson_order.specs.Order.{rank, is_no_number, order}
use Rattle.store_model.specs.Filter.{pairs, under_places, Path}
use Rattle.store_question.specs.Patterns.{matches_so}
use Rattle.store_question.specs.declared.question.Comparison.{Comparison}
use Rattle.store_question.specs.declared.question.Comparison.TheVariants as lies_so

mutual
  pub data Asked : Type 0 where
    -- something that the path leads to answers; of an array at its end, the array or one of its items
    at : Path → Asked → Asked
    -- the same, with an array at the end taken whole
    whole : Path → Asked → Asked
    exists : Asked
    is_of : ElementType → Asked
    -- it lies so to the value
    lies : Comparison → Value → Asked
    has_size : ℕ → Asked
    -- its whole part, divided by the first, leaves the second
    leaves : ℤ → ℤ → Asked
    -- it is a text that begins with these bytes
    begins : List ℕ → Asked
    -- it is a text in which a pattern finds something: its options, and its source
    matches : List ℕ → List ℕ → Asked
    -- an item of the array answers
    has_item : Asked → Asked
    no : Asked → Asked
    all_of : Askeds → Asked
    any_of : Askeds → Asked

  pub data Askeds : Type 0 where
    no_asked : Askeds
    asked : Asked → Askeds → Askeds

-- ---- one value

abbrev pub holds : Comparison → Ordering → Bool
holds lies_so.Less r = is_lt r
holds lies_so.AtMost r = is_le r
holds lies_so.Equal r = is_eq r
holds lies_so.AtLeast r = is_ge r
holds lies_so.Greater r = is_gt r

-- how a value of another rank lies: above the least key, and below the greatest
abbrev pub lies_apart : Comparison → Value → Bool
lies_apart c (scalar min_key) = holds c Greater
lies_apart c (scalar max_key) = holds c Less
lies_apart c w = false

abbrev pub same_truth : Bool → Bool → Bool
same_truth true b = b
same_truth false true = false
same_truth false false = true

abbrev pub lies_to : Comparison → Value → Value → Bool
lies_to c v w =
    if rank (value_kind v) == rank (value_kind w)
    then (if same_truth (is_no_number v) (is_no_number w) then holds c (order v w) else false)
    else lies_apart c w

-- Q holds of one of the members, with its key
abbrev pub AnyMember : (List ℕ → Value → Type 0) → Members → Type 0
AnyMember Q no_members = ⊥
AnyMember Q (member k v ms) = Q k v ⊎ AnyMember Q ms

abbrev pub count : Members → ℕ
count no_members = 0
count (member k v ms) = suc (count ms)

-- the items of an array are the members under its places
abbrev pub HasItem : (Value → Type 0) → Option Value → Type 0
HasItem Q (Some (array vs)) = AnyMember (λ k v. Q v) (under_places 0 vs)
HasItem Q o = ⊥

abbrev pub HasSize : ℕ → Option Value → Type 0
HasSize n (Some (array vs)) = count (under_places 0 vs) ≡ n
HasSize n o = ⊥

-- what a whole number leaves, with its own sign; nothing is divided by zero
abbrev pub leaves_so : ℤ → ℤ → Option ℤ → Bool
leaves_so d r (Some z) = if int_eq d (pos zero) then false else int_eq (int_rem z d) r
leaves_so d r None = false

-- the text that a value is; a symbol is one, as in the order of values
abbrev pub text_in : Value → Option (List ℕ)
text_in (scalar (string t)) = Some t
text_in (scalar (symbol t)) = Some t
text_in v = None

abbrev pub begins_so : List ℕ → Option (List ℕ) → Bool
begins_so t (Some u) = starts_with nat_eq u t
begins_so t None = false

-- ---- along a path

-- whether arrays at the end of a path are opened, and what is asked of what it leads to
module _ (opens : Bool) (P : Option Value → Type 0) where
  abbrev pub AtEnd : Value → Type 0
  AtEnd v = (IsTrue opens × HasItem (λ w. P (Some w)) (Some v)) ⊎ P (Some v)

  abbrev pub Under : List ℕ → (Value → Type 0) → Members → Type 0
  Under k On ms = MatchOption (look_up k ms) (P None) On

  -- a document is gone into, and On is asked of what is under its key
  abbrev pub IntoDocument : List ℕ → (Value → Type 0) → Value → Type 0
  IntoDocument k On (document ms) = Under k On ms
  IntoDocument k On v = ⊥

  -- an item of an array: a document is gone into, and Here is asked of the item whose place is the key
  abbrev pub Through : List ℕ → (Value → Type 0) → (Value → Type 0) → List ℕ → Value → Type 0
  Through k On Here place v = IntoDocument k On v ⊎ ((place ≡ k) × Here v)

  abbrev mutual
    -- on from what a document has under a key
    pub AtMember : Path → Value → Type 0
    AtMember [] v = AtEnd v
    AtMember (k ∷ path) (document ms) = Under k (AtMember path) ms
    AtMember (k ∷ path) (array vs) = AnyMember (Through k (AtMember path) (AtPlace path)) (under_places 0 vs)
    AtMember (k ∷ path) v = P None

    -- on from an item that was reached by its place
    pub AtPlace : Path → Value → Type 0
    AtPlace [] v = P (Some v)
    AtPlace (k ∷ path) (document ms) = Under k (AtMember path) ms
    AtPlace (k ∷ path) (array vs) = AnyMember (Through k (AtMember path) (AtPlace path)) (under_places 0 vs)
    AtPlace (k ∷ path) v = ⊥

  abbrev pub Along : Path → Option Value → Type 0
  Along [] o = P o
  Along (k ∷ path) None = P None
  Along (k ∷ path) (Some v) = Under k (AtMember path) (pairs v)

-- ---- a question

abbrev mutual
  pub Answers : Asked → Option Value → Type 0
  Answers (at p q) o = Along true (Answers q) p o
  Answers (whole p q) o = Along false (Answers q) p o
  Answers exists o = IsSomeAnd o (λ v. Unit {0})
  Answers (is_of k) o = IsSomeAnd o (λ v. value_kind v ≡ k)
  Answers (lies c w) o = IsTrue (lies_to c (unwrap_or o (scalar null)) w)
  Answers (has_size n) o = HasSize n o
  Answers (leaves d r) o = IsTrue (leaves_so d r (option_and_then part_of o))
  Answers (begins t) o = IsTrue (begins_so t (option_and_then text_in o))
  Answers (matches options source) o = IsTrue (matches_so options source (option_and_then text_in o))
  Answers (has_item q) o = HasItem (λ v. Answers q (Some v)) o
  Answers (no q) o = Answers q o → ⊥
  Answers (all_of qs) o = AnswersAll qs o
  Answers (any_of qs) o = AnswersAny qs o

  pub AnswersAll : Askeds → Option Value → Type 0
  AnswersAll no_asked o = Unit {0}
  AnswersAll (asked q qs) o = Answers q o × AnswersAll qs o

  pub AnswersAny : Askeds → Option Value → Type 0
  AnswersAny no_asked o = ⊥
  AnswersAny (asked q qs) o = Answers q o ⊎ AnswersAny qs o
