-- Patterns of the kit's, and those of a source.
use Rattle.std.proofs.Common.{◌≡◌, ◌⊎◌, inl, inr, ℕ, ◌<◌, ◌≤◌, List, length, All, Bool, true, false, Option, Some, None, IsSomeAnd, IfSome, is_some, refl, sym, ap, ◌∙◌, subst, arith}
use Rattle.std.specs.Prelude.{chars, nat_le, option_and_then, if◌then◌else◌}
use Rattle.std.proofs.lemmas.Bool.Decides.{nat_tests}
use Rattle.regex.specs.Patterns.{Config, Re, SameCaptures, find_str, Reads, Refuses}
use Rattle.regex_hir.specs.Meaning.{meaning}
use Rattle.regex_hir.specs.declared.hir.Hir.{Hir}
use Rattle.regex_syntax.specs.Brackets.{Nested}
use Rattle.regex_syntax.specs.Grammar.{Names, group_count, read}
use Rattle.regex_syntax.specs.declared.error.ErrorKind.{ErrorKind}
use Rattle.regex_syntax.specs.declared.error.ErrorKind.TheVariants.{OutOfMemory, NestLimitExceeded}
use Rattle.regex_syntax.proofs.CapturesLemmas.{spans, find_str_alike}
use Rattle.regex_syntax.proofs.Written.{is_some-option_map}
use Rattle.store_question.specs.Patterns.{IsReadFrom, config_of, matched_by, matches_so, pattern_in, within}

-- ---- what a search finds

same_found : (a b : Re) → SameCaptures a b → (t : List ℕ) → All (λ x. x < 256) t → is_some (find_str a t 0) ≡ is_some (find_str b t 0)
same_found a b s t bytes = sym (is_some-option_map spans (find_str a t 0)) ∙ ap is_some (find_str_alike a b s t bytes 0) ∙ is_some-option_map spans (find_str b t 0)

found_under : (o : Option Re) (re : Re) → IsSomeAnd o (SameCaptures re) → (t : List ℕ) → All (λ x. x < 256) t → is_some (find_str re t 0) ≡ matched_by o (Some t)
found_under None re s t bytes = absurd s
found_under (Some p) re s t bytes = same_found re p s t bytes

pub found_so : (options source : List ℕ) (re : Re) → IsReadFrom options source re → (t : List ℕ) → All (λ x. x < 256) t → is_some (find_str re t 0) ≡ matches_so options source (Some t)
found_so options source re s t bytes = found_under (pattern_in options source) re s t bytes

-- ---- what a source is read as

within_read : (most : ℕ) (hir : Hir) (names : Names) (o : Option (Nested Re × Names))
    → IsSomeAnd o (λ (re, found). (re.depth ≤ most) × SameCaptures (meaning hir) re.value × (names ≡ found) × (group_count (meaning hir) ≤ length names))
    → IsSomeAnd (option_and_then (within most) o) (SameCaptures (meaning hir))
within_read most hir names None h = absurd h
within_read most hir names (Some (re, found)) h = by (nat_le re.depth most) refl
  where
    by : (b : Bool) → nat_le re.depth most ≡ b → IsSomeAnd (if nat_le re.depth most then Some re.value else None) (SameCaptures (meaning hir))
    by true e = rw e h.1
    by false e = let over : re.depth ≤ most = h.0 in absurd (grind (arith, nat_tests))

pub read_from : (options source : List ℕ) (hir : Hir) (names : Names) → Reads (config_of options) source hir names → IsReadFrom options source (meaning hir)
unfolding Reads pattern_in
read_from options source hir names h = within_read (config_of options).nest_limit hir names (read (config_of options) (chars source)) h

none_within : (most : ℕ) (kind : ErrorKind) (o : Option (Nested Re × Names)) → (o ≡ None) ⊎ ((kind ≡ NestLimitExceeded) × IfSome o (λ (re, _). most < re.depth))
    → option_and_then (within most) o ≡ None
none_within most kind None h = refl
none_within most kind (Some (re, found)) (inl e) = absurd cc
none_within most kind (Some (re, found)) (inr h) = by (nat_le re.depth most) refl
  where
    by : (b : Bool) → nat_le re.depth most ≡ b → (if nat_le re.depth most then Some re.value else None) ≡ None
    by true e = let over : most < re.depth = h.1 in absurd (grind (arith, nat_tests))
    by false e = rw e refl

pub read_as_none : (options source : List ℕ) (kind : ErrorKind) → (kind ≡ OutOfMemory → ⊥) → Refuses (config_of options) source kind → pattern_in options source ≡ None
unfolding Refuses pattern_in
read_as_none options source kind never (inl e) = absurd (never e)
read_as_none options source kind never (inr h) = none_within (config_of options).nest_limit kind (read (config_of options) (chars source)) h
