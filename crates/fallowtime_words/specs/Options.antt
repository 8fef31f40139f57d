-- The options after the places: what their words are, and which a command has.
use Rattle.std.specs.Prelude.{◌≡◌, ◌≢◌, ◌<◌, ◌^◌, ◌⊎◌, ℕ, List, [], ◌∷◌, ◌++◌, codes, true, false, if◌then◌else◌, is_some, length, Option, Some, None, option_and_then}
use Rattle.std.specs.Str.{bytes_eq}
use Rattle.std.specs.Str.Parse.{IsNumeral, digits_value}
use Rattle.fallowtime_words.specs.declared.command.Command.{Command}
use Rattle.fallowtime_words.specs.Commands.{allowed, place}
use Rattle.fallowtime_words.specs.declared.table.Allowed.{Allowed}
use Rattle.fallowtime_words.specs.declared.table.Place.TheVariants.{Alone, Script, Session}
use Rattle.fallowtime_words.specs.declared.options.Given.{Given}
use Rattle.fallowtime_words.specs.declared.options.OptionValue.{OptionValue}
use Rattle.fallowtime_words.specs.declared.options.OptionValue.TheVariants.{Nothing, Number, Text}
use Rattle.fallowtime_words.specs.declared.options.OptionName.{OptionName}
use Rattle.fallowtime_words.specs.declared.options.OptionName.TheVariants.{Canonical, Bytes, Lines, Many, After, Upsert, SkipExisting, Counts, Literal, Drops, Messages, Wait, Sort, Skip, Limit, Fields, Without}
use Rattle.fallowtime_words.specs.declared.options.Options.{Options}

-- decimal digits, and the number that they write
abbrev pub IsNumber : List ℕ → ℕ → Type 0
IsNumber text n = IsNumeral 10 text × (digits_value 10 text ≡ n) × (n < 2 ^ 64)

-- the option that a word names, without its hyphens
abbrev pub option_named : List ℕ → Option OptionName
option_named word =
    if bytes_eq word (codes "canonical") then Some Canonical
    else if bytes_eq word (codes "bson") then Some Bytes
    else if bytes_eq word (codes "json") then Some Lines
    else if bytes_eq word (codes "many") then Some Many
    else if bytes_eq word (codes "after") then Some After
    else if bytes_eq word (codes "upsert") then Some Upsert
    else if bytes_eq word (codes "skip-existing") then Some SkipExisting
    else if bytes_eq word (codes "count") then Some Counts
    else if bytes_eq word (codes "key") then Some Literal
    else if bytes_eq word (codes "drop") then Some Drops
    else if bytes_eq word (codes "messages") then Some Messages
    else if bytes_eq word (codes "wait") then Some Wait
    else if bytes_eq word (codes "sort") then Some Sort
    else if bytes_eq word (codes "skip") then Some Skip
    else if bytes_eq word (codes "limit") then Some Limit
    else if bytes_eq word (codes "fields") then Some Fields
    else if bytes_eq word (codes "without") then Some Without
    else None

abbrev pub value_taken_by : OptionName → OptionValue
value_taken_by Wait = Number
value_taken_by Skip = Number
value_taken_by Limit = Number
value_taken_by Sort = Text
value_taken_by Fields = Text
value_taken_by Without = Text
value_taken_by _ = Nothing

-- the first word names an option
abbrev pub IsNamed : List (List ℕ) → OptionName → List (List ℕ) → Type 0
IsNamed words name rest = (word : List ℕ) × (words ≡ (codes "--" ++ word) ∷ rest) × (option_named word ≡ Some name)

-- the words begin with what follows the name of an option: a number, or a text, of which it is given how many words are behind it
abbrev pub HasValue : OptionValue → ℕ → List (List ℕ) → List (List ℕ) → Type 0
HasValue Nothing n words behind = (n ≡ 0) × (words ≡ behind)
HasValue Number n words behind = (text : List ℕ) × (words ≡ text ∷ behind) × IsNumber text n
HasValue Text n words behind = (text : List ℕ) × (words ≡ text ∷ behind) × (n ≡ length behind)

-- the words begin with those of an option
abbrev pub Lead : List (List ℕ) → Given → List (List ℕ) → Type 0
Lead words g behind = (rest : List (List ℕ)) × IsNamed words g.name rest × HasValue (value_taken_by g.name) g.number rest behind

-- the words are those of options, one after the other
abbrev pub Spell : List (List ℕ) → List Given → Type 0
Spell words [] = words ≡ []
Spell words (g ∷ gs) = (behind : List (List ℕ)) × Lead words g behind × Spell behind gs

abbrev pub no_options : Options
no_options = record { canonical = false; bytes = false; lines = false; many = false; after = false; upsert = false; skip_existing = false; counts = false; literal = false; drops = false; messages = false; seconds = None; sort = None; skip = None; limit = None; fields = None; without = None }

-- the options and one more, if it isn't among them: one that says in which form, and which, documents are read or printed
abbrev pub with_form : OptionName → Options → Option Options
with_form Canonical o = if o.canonical then None else Some (record o { canonical = true })
with_form Bytes o = if o.bytes then None else Some (record o { bytes = true })
with_form Lines o = if o.lines then None else Some (record o { lines = true })
with_form Counts o = if o.counts then None else Some (record o { counts = true })
with_form Messages o = if o.messages then None else Some (record o { messages = true })
with_form _ o = None

-- one that says what a change does
abbrev pub with_change : OptionName → Options → Option Options
with_change Many o = if o.many then None else Some (record o { many = true })
with_change After o = if o.after then None else Some (record o { after = true })
with_change Upsert o = if o.upsert then None else Some (record o { upsert = true })
with_change SkipExisting o = if o.skip_existing then None else Some (record o { skip_existing = true })
with_change Literal o = if o.literal then None else Some (record o { literal = true })
with_change Drops o = if o.drops then None else Some (record o { drops = true })
with_change _ o = None

-- one that has a number
abbrev pub with_number : OptionName → ℕ → Options → Option Options
with_number Wait n o = if is_some o.seconds then None else Some (record o { seconds = Some n })
with_number Sort n o = if is_some o.sort then None else Some (record o { sort = Some n })
with_number Skip n o = if is_some o.skip then None else Some (record o { skip = Some n })
with_number Limit n o = if is_some o.limit then None else Some (record o { limit = Some n })
with_number Fields n o = if is_some o.fields then None else Some (record o { fields = Some n })
with_number Without n o = if is_some o.without then None else Some (record o { without = Some n })
with_number _ n o = None

abbrev pub with_option : OptionName → ℕ → Options → Option Options
with_option Canonical n o = with_form Canonical o
with_option Bytes n o = with_form Bytes o
with_option Lines n o = with_form Lines o
with_option Counts n o = with_form Counts o
with_option Messages n o = with_form Messages o
with_option Many n o = with_change Many o
with_option After n o = with_change After o
with_option Upsert n o = with_change Upsert o
with_option SkipExisting n o = with_change SkipExisting o
with_option Literal n o = with_change Literal o
with_option Drops n o = with_change Drops o
with_option name n o = with_number name n o

abbrev pub added : Given → Options → Option Options
added g o = with_option g.name g.number o

-- the options and those that are given beside them; none if one is given twice
abbrev pub with_all : List Given → Options → Option Options
with_all [] o = Some o
with_all (g ∷ gs) o = option_and_then (λ more. with_all gs more) (added g o)

-- the words are those of the options, in any order, each at most once
abbrev pub AreOptions : List (List ℕ) → Options → Type 0
AreOptions words o = (gs : List Given) × Spell words gs × (with_all gs no_options ≡ Some o)

-- an order or fields are asked for
abbrev pub IsArranged : Options → Type 0
IsArranged o = (is_some o.sort ≡ true) ⊎ (is_some o.fields ≡ true) ⊎ (is_some o.without ≡ true)

-- a part is asked for
abbrev pub IsPart : Options → Type 0
IsPart o = (is_some o.skip ≡ true) ⊎ (is_some o.limit ≡ true)

-- no option except `--messages` and `--wait`
abbrev pub IsOfSession : Options → Type 0
IsOfSession o = (o.canonical ≡ false) × (o.bytes ≡ false) × (o.lines ≡ false) × (o.many ≡ false) × (o.after ≡ false) × (o.upsert ≡ false) × (o.skip_existing ≡ false) × (o.counts ≡ false) × (o.literal ≡ false) × (o.drops ≡ false) × (IsArranged o → ⊥) × (IsPart o → ⊥)

-- a row allows the options that say in which form, and which, documents are read or printed
pub record FormsAreAllowed (row : Allowed) (o : Options) : Type 0 where
  pub canonical : o.canonical ≡ true → row.canonical ≡ true
  pub bytes : o.bytes ≡ true → row.bytes ≡ true
  pub lines : o.lines ≡ true → row.lines ≡ true
  pub counts : o.counts ≡ true → row.counts ≡ true
  pub arranged : IsArranged o → row.arranged ≡ true
  pub part : IsPart o → row.part ≡ true

-- it allows those that say what a change does
pub record ChangesAreAllowed (row : Allowed) (o : Options) : Type 0 where
  pub many : o.many ≡ true → row.many ≡ true
  pub after : o.after ≡ true → row.after ≡ true
  pub upsert : o.upsert ≡ true → row.upsert ≡ true
  pub skip_existing : o.skip_existing ≡ true → row.skip_existing ≡ true
  pub literal : o.literal ≡ true → row.literal ≡ true
  pub drops : o.drops ≡ true → row.drops ≡ true

-- the options are among those that a row allows; none allows `--messages`
pub record AreAllowed (row : Allowed) (o : Options) : Type 0 where
  pub forms : FormsAreAllowed row o
  pub changes : ChangesAreAllowed row o
  pub messages : o.messages ≡ false

-- The options that a command has on a command line. Documents are printed as canonical Extended JSON or written as BSON; of an import
-- they take the place of those with their ids or leave these.
pub record Takes (command : Command) (o : Options) : Type 0 where
  pub is_one : place command ≢ Session
  pub has_file : place command ≢ Alone
  pub is_done_here : place command ≢ Script
  pub among : AreAllowed (allowed command) o
  pub one_form : (o.canonical ≡ false) ⊎ (o.bytes ≡ false)
  pub one_way : (o.upsert ≡ false) ⊎ (o.skip_existing ≡ false)
