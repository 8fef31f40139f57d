-- Patterns of texts, and in which texts they find something (MongoDB Manual, "$regex"). What a text is as a pattern, and what
-- that finds, are the kit's: its crate `regex` has the grammar and the search.
use Rattle.std.specs.Prelude.{ℕ, Bool, true, false, if◌then◌else◌, nat_eq, nat_le, List, Option, Some, None, IsSomeAnd, chars, is_some, option_and_then}
use Rattle.std.specs.List.{list_any}
use Rattle.regex.specs.Patterns.{Config, Re, SameCaptures, find_str}
use Rattle.regex_syntax.specs.Brackets.{Nested}
use Rattle.regex_syntax.specs.Grammar.{Names, read}
use Rattle.regex_syntax.specs.Verdict.{default_config, default_flags}

abbrev pub has_option : List ℕ → ℕ → Bool
has_option options b = list_any (λ o. nat_eq o b) options

-- how a pattern is read: with `i` letters stand for either case, with `m` there are `^` and `$` at the ends of each line, with
-- `s` a `.` stands for a line feed, too, and with `x` spaces and comments are passed over
abbrev pub config_of : List ℕ → Config
config_of options = record default_config {
  flags = record default_flags {
    case_insensitive = has_option options 105;
    multi_line = has_option options 109;
    dot_matches_new_line = has_option options 115;
    ignore_whitespace = has_option options 120;
  };
}

abbrev pub within : ℕ → Nested Re × Names → Option Re
within most (re, names) = if nat_le re.depth most then Some re.value else None

-- the pattern that a text is under options, if it is one that nests no deeper than is taken
unfoldable pub pattern_in : List ℕ → List ℕ → Option Re
pattern_in options source = option_and_then (within (config_of options).nest_limit) (read (config_of options) (chars source))

-- whether a pattern finds something, wherever it is
abbrev pub finds : Re → Option (List ℕ) → Bool
finds re None = false
finds re (Some t) = is_some (find_str re t 0)

abbrev pub matched_by : Option Re → Option (List ℕ) → Bool
matched_by None o = false
matched_by (Some re) o = finds re o

-- whether there is a text in which the pattern of the source finds something
abbrev pub matches_so : List ℕ → List ℕ → Option (List ℕ) → Bool
matches_so options source o = matched_by (pattern_in options source) o

-- the pattern finds what that of the source does
abbrev pub IsReadFrom : List ℕ → List ℕ → Re → Type 0
IsReadFrom options source re = IsSomeAnd (pattern_in options source) (SameCaptures re)
