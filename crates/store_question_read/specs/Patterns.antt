-- The patterns that are taken (MongoDB Manual, "$regex"): those of a fixed beginning, which spell its bytes, and others.
use Rattle.std.specs.Prelude.{◌≡◌, ◌⊎◌, ℕ, ◌==◌, ◌&&◌, not, nat_eq, Bool, true, false, IsTrue, if◌then◌else◌, List, [], ◌∷◌, codes, Option, Some, None, is_some, option_and_then, option_map}
use Rattle.std.specs.Char.{is_ascii_punctuation}
use Rattle.std.specs.List.{list_any}
use Rattle.bson_base.specs.Value.{regex, string, Value, scalar}
use Rattle.regex.specs.Patterns.{Re}
use Rattle.regex.specs.declared.error.Error.{Error}
use Rattle.regex.specs.declared.error.Error.TheVariants.{Syntax, CompiledTooBig, Internal, OutOfMemory}
use Rattle.store_question.specs.Asked.{Asked, begins, matches}
use Rattle.store_question.specs.Patterns.{pattern_in}

-- the bytes that stand for something else in a pattern
abbrev pub is_special : ℕ → Bool
is_special b = list_any (λ s. nat_eq s b) (codes ".^$*+?()[]{}|\\")

-- whether a byte stands for itself, behind a backslash or not
abbrev pub stands : Bool → ℕ → Bool
stands true b = is_ascii_punctuation b
stands false b = not (is_special b)

-- ---- as a relation

-- the pattern begins with a byte that stands for itself, as it is or behind a backslash, and goes on so
abbrev pub IsWritten : ℕ → List ℕ → List ℕ → Type 0
IsWritten b pattern rest =
    ((pattern ≡ b ∷ rest) × IsTrue (stands false b)) ⊎ ((pattern ≡ 92 ∷ b ∷ rest) × IsTrue (stands true b))

-- the pattern is these bytes, one after the other
abbrev pub AreWritten : List ℕ → List ℕ → Type 0
AreWritten [] pattern = pattern ≡ []
AreWritten (b ∷ bs) pattern = (rest : List ℕ) × IsWritten b pattern rest × AreWritten bs rest

-- the pattern is `^`, and then these bytes
abbrev pub IsBeginning : List ℕ → List ℕ → Type 0
IsBeginning bs pattern = (rest : List ℕ) × (pattern ≡ 94 ∷ rest) × AreWritten bs rest

-- ---- as it is read

abbrev pub opens : Bool → ℕ → Bool
opens escaped b = not escaped && b == 92

-- what is left of a pattern, behind a backslash or not
abbrev pub literal : Bool → List ℕ → Option (List ℕ)
literal escaped [] = if escaped then None else Some []
literal escaped (b ∷ bs) =
    if opens escaped b then literal true bs
    else (if stands escaped b then option_map (λ t. b ∷ t) (literal false bs) else None)

abbrev pub beginning_in : List ℕ → Option (List ℕ)
beginning_in [] = None
beginning_in (b ∷ bs) = if b == 94 then literal false bs else None

-- without options; with some a pattern isn't looked at for it
abbrev pub beginning_under : List ℕ → List ℕ → Option (List ℕ)
beginning_under [] source = beginning_in source
beginning_under (c ∷ cs) source = None

-- ---- in general

-- The letters that stand for options (MongoDB Manual, "$options"): `u` asks for what is done anyway. The others are those of
-- `config_of`.
abbrev pub is_option : ℕ → Bool
is_option b = list_any (λ o. nat_eq o b) (codes "imsux")

abbrev pub are_options : List ℕ → Bool
are_options [] = true
are_options (b ∷ bs) = is_option b && are_options bs

-- what an error of the kit's says: one of syntax that the text is no pattern, or one that nests too deep
abbrev pub Denies : Error → Option Re → Type 0
Denies (Syntax e) o = o ≡ None
Denies Internal o = ⊥
Denies CompiledTooBig o = Unit {0}
Denies OutOfMemory o = Unit {0}

-- what is asked of a text by its pattern, if it has one
abbrev pub searched : List ℕ → List ℕ → Option Asked
searched options source = if is_some (pattern_in options source) then Some (matches options source) else None

abbrev pub begun_or : Option (List ℕ) → Option Asked → Option Asked
begun_or (Some t) o = Some (begins t)
begun_or None o = o

-- what is asked of a text by a source under options: a fixed beginning, or else a pattern
abbrev pub asked_by : List ℕ → List ℕ → Option Asked
asked_by options source = begun_or (beginning_under options source) (searched options source)

-- ---- as a value

abbrev pub with_own : List ℕ → List ℕ → Option (List ℕ × List ℕ)
with_own source options = if are_options options then Some (source, options) else None

-- the source and the options of a text, or of a regular expression
abbrev pub expression_of : Value → Option (List ℕ × List ℕ)
expression_of (scalar (string t)) = Some (t, [])
expression_of (scalar (regex t o)) = with_own t o
expression_of v = None

-- options are in one place: those of the expression, or those beside it
abbrev pub one_of : List ℕ → List ℕ → Option (List ℕ)
one_of [] beside = Some beside
one_of (c ∷ cs) [] = Some (c ∷ cs)
one_of (c ∷ cs) (d ∷ ds) = None

abbrev pub asked_beside : List ℕ → List ℕ × List ℕ → Option Asked
asked_beside beside (source, own) = option_and_then (λ options. asked_by options source) (one_of own beside)

-- what a value asks of a text as a pattern, with the options beside it
abbrev pub asked_of : List ℕ → Value → Option Asked
asked_of beside v = option_and_then (asked_beside beside) (expression_of v)
