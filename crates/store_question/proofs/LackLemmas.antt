-- A document that has nowhere the text that a question asks for.
use Rattle.std.proofs.Common.{◌≡◌, ◌⊎◌, inl, inr, ℕ, ◌+◌, ◌-◌, ◌<◌, List, ◌++◌, map, drop, length, get_or, Bool, true, false, IsTrue, Option, Some, None, is_some, sym, ap, ◌∙◌, subst, arith}
use Rattle.std.specs.Prelude.{unwrap_or}
use Rattle.std.proofs.lemmas.List.{get_or-append-add, get_or_append_left, length-append}
use Rattle.memchr.specs.Find.{FindsNeedle, Nowhere, OccursAt}
use Rattle.memchr.specs.Pairs.{HasPair, IsPairFinderOf, reach_of}
use Rattle.memchr.specs.declared.arch.all.packedpair.Finder.{Finder}
use Rattle.bson_base.specs.Value.{Scalar, Value, scalar, null, string, symbol}
use Rattle.bson_bytes.specs.Encode.{value_bytes}
use Rattle.store_model.specs.Filter.{Path}
use Rattle.store_question.specs.Asked.{Along, Answers, AnswersAll, Asked, Askeds, lies_to, text_in}
use Rattle.store_question.specs.Lacking.{IsTextBeyond, StandsIn}
use Rattle.store_question.specs.Reads.{ReadEach, Reads, form, form_of, forms_of}
use Rattle.store_question.specs.declared.question.Comparison.{Comparison}
use Rattle.store_question.specs.declared.question.Comparison.TheVariants.{Equal}
use Rattle.store_question.specs.declared.question.Question.{Question}
use Rattle.store_question.proofs.AskLemmas.{front}
use Rattle.store_question.proofs.EqualLemmas.{level_scalar, text_found}
use Rattle.store_question.proofs.StandLemmas.{Met, along_bytes, along_met, text_there}

pub occurs : (t bytes a b : List ℕ) → bytes ≡ a ++ (t ++ b) → OccursAt bytes t (length a)
occurs t bytes a b e = subst (λ (l : List ℕ). OccursAt l t (length a)) (sym e) (record {
  fits = omega (arith, length-append a (t ++ b), length-append t b);
  reads = λ j h. get_or-append-add a (t ++ b) j 0 ∙ get_or_append_left t b 0 j h;
})

-- where a search finds nothing, the text doesn't stand
pub not_there : (t bytes : List ℕ) (r : Option ℕ) → FindsNeedle bytes t 0 r → is_some r ≡ false → StandsIn t bytes → ⊥
not_there t bytes None f e (a, b, is) = f (length a) (omega arith) (omega (arith, ap length is, length-append a (t ++ b))) (occurs t bytes a b is)
not_there t bytes (Some k) f e s = absurd cc

-- where its pair of bytes stands nowhere, the text doesn't
pub no_pair : (f : Finder) (t bytes : List ℕ) → IsPairFinderOf f t → Nowhere (HasPair f bytes) 0 (length bytes - reach_of f) → StandsIn t bytes → ⊥
no_pair f t bytes is none (a, b, e) =
    let there = occurs t bytes a b e in
    let fits = there.fits in
    let one = is.pair.first in
    let two = is.pair.second in
    none (length a) (omega arith) (omega (arith, fits, one, two)) (record {
      first = there.reads f.pair.index1 one ∙ sym is.byte1;
      second = there.reads f.pair.index2 two ∙ sym is.byte2;
    })

text_same : (s : List ℕ) (u : Value) (other : Scalar) → u ≡ scalar other → (other ≡ string s) ⊎ (other ≡ symbol s) → text_in u ≡ Some s
text_same s u other is (inl e) = ap text_in (is ∙ ap scalar e)
text_same s u other is (inr e) = ap text_in (is ∙ ap scalar e)

-- what is equal to a text is this text
text_equal : (w u : Value) (t : List ℕ) → text_in w ≡ Some t → IsTrue (lies_to Equal u w) → text_in u ≡ Some t
text_equal (scalar (string s)) u t e h = let l = level_scalar (string s) u h in text_same s u l.other l.is (text_found s l.other l.ranks l.same.text) ∙ e
text_equal (scalar (symbol s)) u t e h = let l = level_scalar (symbol s) u h in text_same s u l.other l.is (text_found s l.other l.ranks l.same.text) ∙ e
text_equal w u t e h = absurd cc

pub text_beyond : (w u : Value) (t bytes : List ℕ) → text_in w ≡ Some t → (StandsIn t bytes → ⊥) → IsTrue (lies_to Equal u w) → IsTextBeyond bytes u
text_beyond w u t bytes e none h = (t, text_equal w u t e h, none)

-- no value along a path answers, if each that does is a text that stands nowhere
pub none_along : (opens : Bool) (c : Comparison) (w : Value) (p : Path) (v : Value) (bytes : List ℕ) → bytes ≡ value_bytes v → ((u : Value) → IsTrue (lies_to c u w) → IsTextBeyond bytes u)
    → Along opens (λ o. IsTrue (lies_to c (unwrap_or o (scalar null)) w)) p (Some v) → ⊥
none_along opens c w p v bytes is beyond h = by (along_met opens (λ o. IsTrue (lies_to c (unwrap_or o (scalar null)) w)) p v h)
  where
    by : Met opens (λ o. IsTrue (lies_to c (unwrap_or o (scalar null)) w)) (value_bytes v) → ⊥
    by (inl n) = let b = beyond (scalar null) n in let e = b.1 in absurd cc
    by (inr (u, q, s)) = let b = beyond u q in b.2 (subst (λ (l : List ℕ). StandsIn b.0 l) (sym is) (along_bytes b.0 (value_bytes u) (value_bytes v) (text_there u b.0 b.1) s))

-- ---- lists of questions

-- who answers all, answers those that are left
pub record LeftOf (whole : Askeds) (list : List Question) : Type 0 where
  pub left : Askeds
  pub read : ReadEach (forms_of (map form_of list)) left
  pub each : (o : Option Value) → AnswersAll whole o → AnswersAll left o

pub all_left : (whole : Askeds) (list : List Question) → ReadEach (forms_of (map form_of list)) whole → LeftOf whole list
all_left whole list r = record { left = whole; read = r; each = λ o a. a }

module _ (whole : Askeds) (list : List Question) (i : ℕ) (q : Question) (e : q ≡ get_or list i q) (h : i < length list) (l : LeftOf whole (drop i list)) where
  split : ReadEach (form (form_of q) (forms_of (map form_of (drop (i + 1) list)))) l.left
  split = subst (λ (qs : List Question). ReadEach (forms_of (map form_of qs)) l.left) (front list i q e h) l.read

  opened : (o : Option Value) → AnswersAll whole o → Answers split.0 o × AnswersAll split.1 o
  opened o a = subst (λ (ts : Askeds). AnswersAll ts o) split.2 (l.each o a)

  pub first_left : (t : Asked) × Reads (form_of q) t × ((o : Option Value) → AnswersAll whole o → Answers t o)
  first_left = (split.0, split.3, λ o a. (opened o a).0)

  pub others_left : LeftOf whole (drop (i + 1) list)
  others_left = record { left = split.1; read = split.4; each = λ o a. (opened o a).1 }
