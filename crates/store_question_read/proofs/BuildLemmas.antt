-- What the kit's builder makes of a source under options, and what is asked by it.
use Rattle.std.proofs.Common.{◌≡◌, ℕ, ◌≤◌, ◌^◌, List, Bool, true, Option, Some, None, IsSomeAnd, Result, Ok, Err, Vec, Global, is_some, refl, sym, ap, ◌∙◌, subst}
use Rattle.std.specs.Prelude.{if◌then◌else◌, IfErr, IfOk, MatchOption}
use Rattle.regex.specs.Failures.{IsRightKind}
use Rattle.regex.specs.Names.{names_of}
use Rattle.regex.specs.Patterns.{Config, Re, Reads, Refuses, SameCaptures}
use Rattle.regex.specs.Sources.{IsRefusal}
use Rattle.regex.specs.Strings.{IsReadFromSource, regex_config, regex_pattern, regex_source}
use Rattle.regex.specs.Views.{builder_config, builder_flags, builder_size_limit, builder_source, with_flags}
use Rattle.regex.specs.declared.builder.RegexBuilder.{RegexBuilder}
use Rattle.regex.specs.declared.error.Error.{Error}
use Rattle.regex.specs.declared.error.Error.TheVariants.{Syntax, CompiledTooBig, Internal, OutOfMemory as NoMemory}
use Rattle.regex.specs.declared.string.regex.Regex.{Regex}
use Rattle.regex_syntax.specs.Verdict.{default_config}
use Rattle.store_question.specs.Asked.{Asked, begins, matches}
use Rattle.store_question.specs.Patterns.{IsReadFrom, config_of, has_option, pattern_in}
use Rattle.store_question.specs.declared.question.Question.{Question}
use Rattle.store_question.proofs.PatternLemmas.{read_as_none, read_from}
use Rattle.store_question_read.specs.Outcome.{Asks, AsksOf}
use Rattle.store_question_read.specs.Patterns.{Denies, begun_or, searched}

-- ---- what a builder makes

pub config_built : (options : List ℕ) (b0 b1 b2 b3 b4 : RegexBuilder) (i m s x : Bool) → builder_config b0 ≡ default_config
    → b1 ≡ with_flags b0 (record (builder_flags b0) { case_insensitive = i }) → b2 ≡ with_flags b1 (record (builder_flags b1) { multi_line = m })
    → b3 ≡ with_flags b2 (record (builder_flags b2) { dot_matches_new_line = s }) → b4 ≡ with_flags b3 (record (builder_flags b3) { ignore_whitespace = x })
    → i ≡ has_option options 105 → m ≡ has_option options 109 → s ≡ has_option options 115 → x ≡ has_option options 120
    → record (builder_config b4) { utf8 = true } ≡ config_of options
config_built options b0 b1 b2 b3 b4 i m s x e0 e1 e2 e3 e4 hi hm hs hx = rw (e4, e3, e2, e1, e0, hi, hm, hs, hx) refl

pub source_built : (source : List ℕ) (b0 b1 b2 b3 b4 : RegexBuilder) (i m s x : Bool) → builder_source b0 ≡ source
    → b1 ≡ with_flags b0 (record (builder_flags b0) { case_insensitive = i }) → b2 ≡ with_flags b1 (record (builder_flags b1) { multi_line = m })
    → b3 ≡ with_flags b2 (record (builder_flags b2) { dot_matches_new_line = s }) → b4 ≡ with_flags b3 (record (builder_flags b3) { ignore_whitespace = x })
    → builder_source b4 ≡ source
source_built source b0 b1 b2 b3 b4 i m s x e0 e1 e2 e3 e4 = rw (e4, e3, e2, e1) e0

pub limit_built : (limit : ℕ) (b0 b1 b2 b3 b4 : RegexBuilder) (i m s x : Bool) → builder_size_limit b0 ≡ limit
    → b1 ≡ with_flags b0 (record (builder_flags b0) { case_insensitive = i }) → b2 ≡ with_flags b1 (record (builder_flags b1) { multi_line = m })
    → b3 ≡ with_flags b2 (record (builder_flags b2) { dot_matches_new_line = s }) → b4 ≡ with_flags b3 (record (builder_flags b3) { ignore_whitespace = x })
    → limit ≤ 2 ^ 34 → builder_size_limit b4 ≤ 2 ^ 34
limit_built limit b0 b1 b2 b3 b4 i m s x e0 e1 e2 e3 e4 h = rw (e4, e3, e2, e1, e0) h

module _ (options source : List ℕ) (config : Config) (given : List ℕ) (is_config : config ≡ config_of options) (is_source : given ≡ source) where
  pub built_reads : (r : Result Regex Error) → IfOk r (λ x. regex_source x ≡ given) → IfOk r (λ x. regex_config x ≡ config) → IfOk r IsReadFromSource
      → IfOk r (λ x. IsReadFrom options source (regex_pattern x))
  built_reads (Err e) s c h = tt
  built_reads (Ok x) s c h =
      read_from options source x.pattern.program.hir (names_of x.pattern.names.items)
      (subst (λ (k : Config). Reads k source x.pattern.program.hir (names_of x.pattern.names.items)) (c ∙ is_config)
      (subst (λ (l : List ℕ). Reads x.pattern.config l x.pattern.program.hir (names_of x.pattern.names.items)) (s ∙ is_source) h))

  pub built_denies : (r : Result Regex Error) → IfErr r (IsRefusal config given) → IfErr r (IsRightKind config given) → IfErr r (λ e. e ≡ Internal → ⊥)
      → IfErr r (λ e. Denies e (pattern_in options source))
  built_denies (Ok x) r k n = tt
  built_denies (Err (Syntax e)) r k n =
      read_as_none options source e.kind k
      (subst (λ (c : Config). Refuses c source e.kind) is_config (subst (λ (l : List ℕ). Refuses config l e.kind) is_source (r e refl)))
  built_denies (Err Internal) r k n = absurd (n refl)
  built_denies (Err CompiledTooBig) r k n = tt
  built_denies (Err NoMemory) r k n = tt

-- ---- what is asked

searched_under : (options source : List ℕ) (o : Option Re) (re : Re) (q : Question) → IsSomeAnd o (SameCaptures re) → Asks q (matches options source) → AsksOf (Some q) (if is_some o then Some (matches options source) else None)
searched_under options source None re q r a = absurd r
searched_under options source (Some p) re q r a = (matches options source, refl, a)

pub asks_searched : (options source : List ℕ) (re : Re) (q : Question) → IsReadFrom options source re → Asks q (matches options source) → AsksOf (Some q) (searched options source)
asks_searched options source re q r a = searched_under options source (pattern_in options source) re q r a

pub asks_nothing : (options source : List ℕ) → pattern_in options source ≡ None → AsksOf None (searched options source)
asks_nothing options source e = ap (λ (o : Option Re). if is_some o then Some (matches options source) else None) e

pub asks_begun : (bytes : Vec ℕ Global) (b : Option (List ℕ)) (o : Option Asked) (q : Question) → Some bytes.items ≡ b → Asks q (begins bytes.items) → AsksOf (Some q) (begun_or b o)
asks_begun bytes b o q e a = subst (λ (x : Option (List ℕ)). AsksOf (Some q) (begun_or x o)) e (begins bytes.items, refl, a)
