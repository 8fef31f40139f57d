-- What a question of the code stands for, and which value a view shows.
use Rattle.std.specs.Prelude.{ℕ, ℤ, ◌≡◌, ◌↔◌, ◌≤◌, ◌⊎◌, Bool, IsTrue, List, [], ◌∷◌, Option, Some, None, Result, Ok, Err}
use Rattle.std.specs.declared.alloc.AllocError.{AllocError}
use Rattle.bson_base.specs.Value.{Value, array, Items, Members, levels, members_levels}
use Rattle.bson_bytes.specs.Encode.{encode}
use Rattle.bson_frame.specs.Frame.{Element}
use Rattle.bson_raw.specs.View.{bytes_of}
use Rattle.bson_raw.specs.declared.document.RawDocument.{RawDocument}
use Rattle.store_model.specs.Filter.{under_places, Path}
use Rattle.bson_base.specs.declared.spec.ElementType.{ElementType}
use Rattle.store_question.specs.declared.question.Comparison.{Comparison}
use Rattle.bson_raw.specs.Convert.{SpellsRawValue}
use Rattle.bson_raw.specs.Raw.{own_value, RawValue}
use Rattle.bson_raw.specs.declared.bson_ref.RawBsonRef.{RawBsonRef}
use Rattle.store_question.specs.Filters.{path_of}
use Rattle.regex.specs.Patterns.{Re}
use Rattle.regex.specs.Strings.{regex_pattern}
use Rattle.store_question.specs.Patterns.{IsReadFrom}
use Rattle.store_question.specs.Views.{Encodes, ComesBack, ComeBack, IsWrittenFor}
use Rattle.store_question.specs.Asked.{Asked, at, whole, exists, is_of, lies, has_size, leaves, begins, matches, has_item, no, all_of, any_of, Askeds, no_asked, asked}
use Rattle.store_question.specs.declared.question.Question.{Question, fold-Question}
use Rattle.store_question.specs.declared.question.Question.TheOpen.{Question-F}

-- a question, with each value as it is held
mutual
  pub data Form : Type 0 where
    at_form : Path → Form → Form
    whole_form : Path → Form → Form
    exists_form : Form
    kind_form : ElementType → Form
    compare_form : Comparison → RawValue → Form
    size_form : ℕ → Form
    remainder_form : ℤ → ℤ → Form
    begins_form : List ℕ → Form
    matches_form : Re → Form
    item_form : Form → Form
    not_form : Form → Form
    all_form : Forms → Form
    any_form : Forms → Form

  pub data Forms : Type 0 where
    no_forms : Forms
    form : Form → Forms → Forms

abbrev pub forms_of : List Form → Forms
forms_of [] = no_forms
forms_of (f ∷ fs) = form f (forms_of fs)

-- one level, with each question inside already seen
abbrev pub form_step : Question-F Form → Form
form_step (Question-F.At path q) = at_form (path_of path.items) q.value
form_step (Question-F.Whole path q) = whole_form (path_of path.items) q.value
form_step Question-F.Exists = exists_form
form_step (Question-F.Kind k) = kind_form k
form_step (Question-F.Compare c r) = compare_form c (own_value r)
form_step (Question-F.Size n) = size_form n
form_step (Question-F.Remainder d r) = remainder_form d r
form_step (Question-F.Begins t) = begins_form t.items
form_step (Question-F.Matches r) = matches_form (regex_pattern r.value)
form_step (Question-F.Item q) = item_form q.value
form_step (Question-F.Not q) = not_form q.value
form_step (Question-F.All qs) = all_form (forms_of qs.items)
form_step (Question-F.Any qs) = any_form (forms_of qs.items)

abbrev pub form_of : Question → Form
form_of = fold-Question Form form_step

-- the question stands for this one: each value that it holds spells that of the other
abbrev mutual
  pub Reads : Form → Asked → Type 0
  Reads (at_form p q) t = (a : Asked) × (t ≡ at p a) × Reads q a
  Reads (whole_form p q) t = (a : Asked) × (t ≡ whole p a) × Reads q a
  Reads exists_form t = t ≡ exists
  Reads (kind_form k) t = t ≡ is_of k
  Reads (compare_form c r) t = (w : Value) × (t ≡ lies c w) × SpellsRawValue r w
  Reads (size_form n) t = t ≡ has_size n
  Reads (remainder_form d r) t = t ≡ leaves d r
  Reads (begins_form b) t = t ≡ begins b
  Reads (matches_form re) t = (options : List ℕ) × (source : List ℕ) × (t ≡ matches options source) × IsReadFrom options source re
  Reads (item_form q) t = (a : Asked) × (t ≡ has_item a) × Reads q a
  Reads (not_form q) t = (a : Asked) × (t ≡ no a) × Reads q a
  Reads (all_form qs) t = (ts : Askeds) × (t ≡ all_of ts) × ReadEach qs ts
  Reads (any_form qs) t = (ts : Askeds) × (t ≡ any_of ts) × ReadEach qs ts

  pub ReadEach : Forms → Askeds → Type 0
  ReadEach no_forms ts = ts ≡ no_asked
  ReadEach (form q qs) ts = (a : Asked) × (more : Askeds) × (ts ≡ asked a more) × Reads q a × ReadEach qs more

-- a value that comes back from its bytes and isn't too deep
pub record Found (raw : RawBsonRef) (v : Value) : Type 0 where
  pub encodes : Encodes raw v
  pub back : ComesBack v
  pub low : levels v ≤ 200

-- nothing, or the view is of the value
abbrev pub Shows : Option RawBsonRef → Option Value → Type 0
Shows None o = o ≡ None
Shows (Some raw) o = (v : Value) × (o ≡ Some v) × Found raw v

-- what was found, or that nothing was
abbrev pub FindsMember : Option RawBsonRef → Option Value → Type 0
FindsMember None o = o ≡ None
FindsMember (Some raw) o = (w : Value) × (o ≡ Some w) × Found raw w

-- no array
abbrev pub IsNoArray : Option Value → Type 0
IsNoArray (Some (array vs)) = ⊥
IsNoArray o = Unit {0}

-- the document has the items of the array as its members
abbrev pub HoldsItems : Option RawDocument → Option Value → Type 0
HoldsItems None o = IsNoArray o
HoldsItems (Some d) o = (vs : Items) × (o ≡ Some (array vs)) × (bytes_of d ≡ encode (under_places 0 vs)) × ComeBack (under_places 0 vs) × (members_levels (under_places 0 vs) ≤ 200)

-- P holds of the members whose written form the bytes are, if they come back and aren't too deep
abbrev pub OfMembers : List ℕ → (Members → Type 0) → Type 0
OfMembers bytes P = (ms : Members) → bytes ≡ encode ms → ComeBack ms → members_levels ms ≤ 200 → P ms

-- P holds of the key and the value for which the element is written, if the value comes back and isn't too deep
abbrev pub OfElement : Element → (List ℕ → Value → Type 0) → Type 0
OfElement e P = (v : Value) → IsWrittenFor e v → ComesBack v → levels v ≤ 200 → P e.key v

-- a pattern is asked for somewhere in the question: a search for it takes memory
abbrev mutual
  pub HasPattern : Form → Type 0
  HasPattern (at_form p q) = HasPattern q
  HasPattern (whole_form p q) = HasPattern q
  HasPattern exists_form = ⊥
  HasPattern (kind_form k) = ⊥
  HasPattern (compare_form c r) = ⊥
  HasPattern (size_form n) = ⊥
  HasPattern (remainder_form d r) = ⊥
  HasPattern (begins_form b) = ⊥
  HasPattern (matches_form re) = Unit {0}
  HasPattern (item_form q) = HasPattern q
  HasPattern (not_form q) = HasPattern q
  HasPattern (all_form qs) = OneHasPattern qs
  HasPattern (any_form qs) = OneHasPattern qs

  pub OneHasPattern : Forms → Type 0
  OneHasPattern no_forms = ⊥
  OneHasPattern (form q qs) = HasPattern q ⊎ OneHasPattern qs

-- it is told whether A holds, or memory ran out, which takes P
abbrev pub Tells : Type 0 → Result Bool AllocError → Type 0 → Type 0
Tells P (Ok b) A = IsTrue b ↔ A
Tells P (Err e) A = P
