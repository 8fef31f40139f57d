-- Names at the front of bytes, and why there are none.
use Rattle.std.proofs.Common.{◌≡◌, ◌⊎◌, ℕ, List, ◌∷◌, ◌++◌, sym, ◌∙◌, subst, inl, inr}
use Rattle.std.specs.Prelude.{IsUtf8}
use Rattle.bson_frame.specs.declared.error.ErrorKind.{ErrorKind}
use Rattle.bson_frame.specs.declared.error.ErrorKind.TheVariants.{MalformedValue, Utf8EncodingError, OutOfMemory}
use Rattle.bson_base.specs.Kinds.{HasNo00}
use Rattle.bson_frame.specs.Frame.{IsCstring, IsRegexSize, NoTextAfter}
use Rattle.bson_frame.specs.Reader.{NameFault, IsNeverWhole, RegexFault}
use Rattle.bson_frame.proofs.RunLemmas.{run_is_one, no_zero_within}

-- bytes without 00 hold no run that a 00 ends
pub no_run : (bytes run rest : List ℕ) → HasNo00 bytes → bytes ≡ run ++ 0 ∷ rest → ⊥
no_run bytes run rest h e = no_zero_within run rest (subst HasNo00 e h)

-- bytes that begin with no text begin with no name
pub no_name : (bytes name rest : List ℕ) → NoTextAfter 0 bytes → IsCstring name → bytes ≡ name ++ 0 ∷ rest → ⊥
no_name bytes name rest (run, more, parts, no_zero, no_text) n e =
    let same = run_is_one run name more rest no_zero n.no_zero (sym parts ∙ e) in
    no_text (subst IsUtf8 (sym same.0) n.text)

-- what follows a name is one
pub rest_is_one : (bytes a b x y : List ℕ) → IsCstring a → IsCstring b → bytes ≡ a ++ 0 ∷ x → bytes ≡ b ++ 0 ∷ y → x ≡ y
rest_is_one bytes a b x y p q d e = (run_is_one a b x y p.no_zero q.no_zero (sym d ∙ e)).1

pub name_is_one : (bytes a b x y : List ℕ) → IsCstring a → IsCstring b → bytes ≡ a ++ 0 ∷ x → bytes ≡ b ++ 0 ∷ y → a ≡ b
name_is_one bytes a b x y p q d e = (run_is_one a b x y p.no_zero q.no_zero (sym d ∙ e)).0

-- there is no name, so no later text that is bad
no_regex_text : (bytes : List ℕ) → HasNo00 bytes → NoTextAfter 0 bytes ⊎ NoTextAfter 1 bytes → ⊥
no_regex_text bytes h (inl (run, rest, parts, no_zero, f)) = no_run bytes run rest h parts
no_regex_text bytes h (inr (name, rest, parts, is_name, f)) = no_run bytes name rest h parts

pub no_pattern : (bytes : List ℕ) (kind : ErrorKind) → NameFault bytes kind → IsNeverWhole IsRegexSize bytes × RegexFault bytes kind
no_pattern bytes MalformedValue h = (λ size r le. no_run bytes r.pattern (r.options ++ 0 ∷ r.rest) h r.parts, no_regex_text bytes h)
no_pattern bytes Utf8EncodingError f = (λ size r le. no_name bytes r.pattern (r.options ++ 0 ∷ r.rest) f r.pattern_name r.parts, inl f)
no_pattern bytes OutOfMemory h = absurd h

options_text : (bytes name rest : List ℕ) → IsCstring name → bytes ≡ name ++ 0 ∷ rest → HasNo00 rest → NoTextAfter 0 bytes ⊎ NoTextAfter 1 bytes → ⊥
options_text bytes name rest n e h (inl f) = no_name bytes name rest f n e
options_text bytes name rest n e h (inr (first, more, parts, is_name, (run, last, ends, no_zero, f))) =
    let same : more ≡ rest = rest_is_one bytes first name more rest is_name n parts e in
    no_run more run last (subst HasNo00 (sym same) h) ends

pub no_options : (bytes name rest : List ℕ) (kind : ErrorKind) → IsCstring name → bytes ≡ name ++ 0 ∷ rest → NameFault rest kind → IsNeverWhole IsRegexSize bytes × RegexFault bytes kind
no_options bytes name rest MalformedValue n e h =
    (λ size r le. no_run rest r.options r.rest h (rest_is_one bytes name r.pattern rest (r.options ++ 0 ∷ r.rest) n r.pattern_name e r.parts), options_text bytes name rest n e h)
no_options bytes name rest Utf8EncodingError n e f = (
  λ size r le. no_name rest r.options r.rest f r.options_name (rest_is_one bytes name r.pattern rest (r.options ++ 0 ∷ r.rest) n r.pattern_name e r.parts),
  inr (name, rest, e, n, f),
)
no_options bytes name rest OutOfMemory n e h = absurd h
