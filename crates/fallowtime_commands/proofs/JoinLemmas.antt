-- The lines of an input, one after the other.
use Rattle.std.proofs.Common.{◌≡◌, ◌⊎◌, ◌+◌, ℕ, zero, suc, List, [], ◌∷◌, ◌++◌, inl, inr, length, Ok, Err, Option, None, Some, Result, String, string_bytes, refl, ap, sym, ◌∙◌, subst, append_assoc, append-nil, length-append, arith, IsUtf8, IsSomeAnd, codes}
use Rattle.std.specs.Str.{IsValidUpTo}
use Rattle.json.specs.Json.{Json, document as tree_of}
use Rattle.json.specs.Strict.{HasUniqueKeys}
use Rattle.fallowtime_commands.specs.Joining.{AreTexts, AreUnbroken, Begin, BeginsWithLine, HasNoTreeAt, JoinsAll, StopsLine, TakesLine, with_feeds}
use Rattle.fallowtime_commands.specs.ListAnswers.{separated}
use Rattle.fallowtime_commands.specs.Objects.{comma_before}
use Rattle.fallowtime_commands.specs.Places.{byte_place}
use Rattle.fallowtime_commands.specs.Questions.{id_of}
use Rattle.fallowtime_commands.specs.Turns.{HasTree, IsEmptyLine}
use Rattle.fallowtime_commands.specs.declared.session.joining.Joined.{Joined}
use Rattle.fallowtime_commands.specs.declared.session.joining.JoinStop.{JoinStop}
use Rattle.fallowtime_commands.specs.declared.session.joining.JoinStop.TheVariants.{Line, Memory}

-- ---- one text

pub no_utf8 : (text : List ℕ) (i : ℕ) → IsValidUpTo text i → HasNoTreeAt text (byte_place i)
no_utf8 text i broken = (None, inl (i, broken, refl, refl))

pub no_json : (text : List ℕ) (i : ℕ) → IsUtf8 text → tree_of text ≡ None → HasNoTreeAt text (byte_place i)
no_json text i utf8 none = (None, inr (inl (utf8, none, (i, refl, refl))))

pub key_twice : (text : List ℕ) → IsUtf8 text → IsSomeAnd (tree_of text) (λ j. HasUniqueKeys j → ⊥) → HasNoTreeAt text (codes "repeated key")
key_twice text utf8 twice = by (tree_of text) refl twice
  where
    by : (o : Option Json) → tree_of text ≡ o → IsSomeAnd o (λ j. HasUniqueKeys j → ⊥) → HasNoTreeAt text (codes "repeated key")
    by None e h = absurd h
    by (Some j) e h = (id_of j, inr (inr (utf8, subst (λ o. IsSomeAnd o (λ k. (HasUniqueKeys k → ⊥) × (id_of j ≡ id_of k))) (sym e) (h, refl), refl)))

-- ---- one line more

with_feeds-snoc : (ls : List (List ℕ)) (l : List ℕ) → with_feeds (ls ++ l ∷ []) ≡ with_feeds ls ++ (l ++ 10 ∷ [])
with_feeds-snoc [] l = refl
with_feeds-snoc (k ∷ ls) l = ap (λ bs. k ++ 10 ∷ bs) (with_feeds-snoc ls l) ∙ sym (append_assoc k (10 ∷ with_feeds ls) (l ++ 10 ∷ []))

unbroken-snoc : (ls : List (List ℕ)) (l : List ℕ) → AreUnbroken ls → AreUnbroken (l ∷ []) → AreUnbroken (ls ++ l ∷ [])
unbroken-snoc [] l all one = one
unbroken-snoc (k ∷ ls) l all one = (all.0, unbroken-snoc ls l all.1 one)

separated-snoc : (i : ℕ) (ts : List (List ℕ)) (t : List ℕ) → separated i (ts ++ t ∷ []) ≡ separated i ts ++ (comma_before (i + length ts) ++ t)
separated-snoc i [] t =
    let same : i ≡ i + 0 = omega arith in
    ap (λ bs. comma_before i ++ bs) (append-nil t) ∙ ap (λ n. comma_before n ++ t) same
separated-snoc i (u ∷ ts) t =
    let same : suc i + length ts ≡ i + length (u ∷ ts) = omega arith in
    ap (λ bs. comma_before i ++ (u ++ bs)) (separated-snoc (suc i) ts t ∙ ap (λ n. separated (suc i) ts ++ (comma_before n ++ t)) same)
    ∙ ap (λ bs. comma_before i ++ bs) (sym (append_assoc u (separated (suc i) ts) (comma_before (i + length (u ∷ ts)) ++ t)))
    ∙ sym (append_assoc (comma_before i) (u ++ separated (suc i) ts) (comma_before (i + length (u ∷ ts)) ++ t))

as_many : (k : ℕ) (ls ts : List (List ℕ)) (ns : List ℕ) → AreTexts k ls ts ns → length ts ≡ length ns
as_many k [] ts ns (none, nones) = ap length none ∙ sym (ap length nones)
as_many k (l ∷ ls) ts ns (inl (empty, rest)) = as_many (suc k) ls ts ns rest
as_many k (l ∷ ls) ts ns (inr (full, is, (us, ms, rest, e, f))) =
    let more = as_many (suc k) ls us ms rest in
    ap length e ∙ ap suc more ∙ sym (ap length f)

empty_more : (k : ℕ) (ls ts : List (List ℕ)) (ns l : List ℕ) → AreTexts k ls ts ns → IsEmptyLine l → AreTexts k (ls ++ l ∷ []) ts ns
empty_more k [] ts ns l h empty = inl (empty, h)
empty_more k (m ∷ ls) ts ns l (inl (was, rest)) empty = inl (was, empty_more (suc k) ls ts ns l rest empty)
empty_more k (m ∷ ls) ts ns l (inr (full, is, (us, ms, rest, e, f))) empty = inr (full, is, (us, ms, empty_more (suc k) ls us ms l rest empty, e, f))

text_more : (k : ℕ) (ls ts : List (List ℕ)) (ns l : List ℕ) → AreTexts k ls ts ns → ¬ IsEmptyLine l → ((j : Json) × HasTree l j) → AreTexts k (ls ++ l ∷ []) (ts ++ l ∷ []) (ns ++ (k + length ls) ∷ [])
text_more k [] ts ns l (none, nones) full is =
    let same : k + 0 ≡ k = omega arith in
    inr (full, is, ([], [], (refl, refl), ap (λ xs. xs ++ l ∷ []) none, ap (λ xs. xs ++ (k + 0) ∷ []) nones ∙ ap (λ n. n ∷ []) same))
text_more k (m ∷ ls) ts ns l (inl (was, rest)) full is =
    let same : suc k + length ls ≡ k + length (m ∷ ls) = omega arith in
    inl (was, subst (λ n. AreTexts (suc k) (ls ++ l ∷ []) (ts ++ l ∷ []) (ns ++ n ∷ [])) same (text_more (suc k) ls ts ns l rest full is))
text_more k (m ∷ ls) ts ns l (inr (old, was, (us, ms, rest, e, f))) full is =
    let same : suc k + length ls ≡ k + length (m ∷ ls) = omega arith in
    inr (old, was, (us ++ l ∷ [], ms ++ (k + length (m ∷ ls)) ∷ [], subst (λ n. AreTexts (suc k) (ls ++ l ∷ []) (us ++ l ∷ []) (ms ++ n ∷ [])) same (text_more (suc k) ls us ms l rest full is), ap (λ xs. xs ++ l ∷ []) e, ap (λ xs. xs ++ (k + length (m ∷ ls)) ∷ []) f))

-- ---- so far

-- after k lines
pub record SoFar (bytes rest : List ℕ) (joined : Joined) (k : ℕ) : Type 0 where
  pub lines : List (List ℕ)
  pub texts : List (List ℕ)
  pub begin : Begin lines bytes rest
  pub are : AreTexts 1 lines texts joined.lines.items
  pub text : string_bytes joined.text ≡ 91 ∷ separated 0 texts
  pub counts : length lines ≡ k

pub none_yet : (bytes : List ℕ) (joined : Joined) → string_bytes joined.text ≡ 91 ∷ [] → joined.lines.items ≡ [] → SoFar bytes bytes joined 0
none_yet bytes joined text none = record {
  lines = [];
  texts = [];
  begin = (tt, inl refl);
  are = (refl, none);
  text = text;
  counts = refl;
}

begin_more : (ls : List (List ℕ)) (bytes left line rest : List ℕ) → (left ≡ [] → ⊥) → Begin ls bytes left → BeginsWithLine left line rest → Begin (ls ++ line ∷ []) bytes rest
begin_more ls bytes left line rest some (all, is) (unbroken, more) = (unbroken-snoc ls line all (unbroken, tt), by is more)
  where
    by : (bytes ≡ with_feeds ls ++ left) ⊎ ((bytes ++ 10 ∷ [] ≡ with_feeds ls) × (left ≡ [])) → (left ≡ line ++ 10 ∷ rest) ⊎ ((left ≡ line) × (rest ≡ []))
        → (bytes ≡ with_feeds (ls ++ line ∷ []) ++ rest) ⊎ ((bytes ++ 10 ∷ [] ≡ with_feeds (ls ++ line ∷ [])) × (rest ≡ []))
    by (inr none) more = absurd (some none.1)
    by (inl e) (inl f) =
        let joined : bytes ≡ with_feeds (ls ++ line ∷ []) ++ rest =
        e ∙ ap (λ bs. with_feeds ls ++ bs) (f ∙ sym (append_assoc line (10 ∷ []) rest)) ∙ sym (append_assoc (with_feeds ls) (line ++ 10 ∷ []) rest)
        ∙ ap (λ bs. bs ++ rest) (sym (with_feeds-snoc ls line)) in
        inl joined
    by (inl e) (inr (f, none)) = inr (
      ap (λ bs. bs ++ 10 ∷ []) e ∙ append_assoc (with_feeds ls) left (10 ∷ []) ∙ ap (λ bs. with_feeds ls ++ (bs ++ 10 ∷ [])) f ∙ sym (with_feeds-snoc ls line),
      none,
    )

pub one_more : (bytes left line rest : List ℕ) (old new : Joined) (k : ℕ) → SoFar bytes left old k → (left ≡ [] → ⊥) → BeginsWithLine left line rest → TakesLine (k + 1) line old new (Ok tt) → SoFar bytes rest new (k + 1)
one_more bytes left line rest old new k so some cut (inl (empty, text, numbers)) = record {
  lines = so.lines ++ line ∷ [];
  texts = so.texts;
  begin = begin_more so.lines bytes left line rest some so.begin cut;
  are = subst (λ ns. AreTexts 1 (so.lines ++ line ∷ []) so.texts ns) (sym numbers) (empty_more 1 so.lines so.texts old.lines.items line so.are empty);
  text = text ∙ so.text;
  counts = grind (arith, length-append, so.counts);
}
one_more bytes left line rest old new k so some cut (inr (full, is, text, numbers)) =
    let many : length so.texts ≡ length old.lines.items = as_many 1 so.lines so.texts old.lines.items so.are in
    let number : 1 + length so.lines ≡ k + 1 = omega (arith, so.counts) in
    record {
      lines = so.lines ++ line ∷ [];
      texts = so.texts ++ line ∷ [];
      begin = begin_more so.lines bytes left line rest some so.begin cut;
      are = subst (λ ns. AreTexts 1 (so.lines ++ line ∷ []) (so.texts ++ line ∷ []) ns) (ap (λ n. old.lines.items ++ n ∷ []) number ∙ sym numbers) (text_more 1 so.lines so.texts old.lines.items line so.are full is);
      text = text ∙ ap (λ bs. bs ++ (comma_before (length old.lines.items) ++ line)) so.text ∙ ap (λ n. 91 ∷ (separated 0 so.texts ++ (comma_before n ++ line))) (sym many)
          ∙ ap (λ bs. 91 ∷ bs) (sym (separated-snoc 0 so.texts line ∙ ap (λ n. separated 0 so.texts ++ (comma_before n ++ line)) (let same : 0 + length so.texts ≡ length so.texts = omega arith in same)));
      counts = grind (arith, length-append, so.counts);
    }

pub stopped : (bytes left line rest : List ℕ) (old new : Joined) (k : ℕ) (s : JoinStop) → SoFar bytes left old k → BeginsWithLine left line rest → TakesLine (k + 1) line old new (Err s) → JoinsAll bytes (Err s)
stopped bytes left line rest old new k (Line n place) so cut (none, number) =
    (so.lines, so.texts, old.lines.items, line, left, rest, so.begin, so.are, cut, none, number ∙ ap (λ (i : ℕ). i + 1) (sym so.counts))
stopped bytes left line rest old new k Memory so cut h = tt

pub all_joined : (bytes left : List ℕ) (old new : Joined) (k : ℕ) → SoFar bytes left old k → left ≡ [] → string_bytes new.text ≡ string_bytes old.text ++ 93 ∷ [] → new.lines.items ≡ old.lines.items → JoinsAll bytes (Ok new)
all_joined bytes left old new k so none text same = (
  so.lines,
  so.texts,
  subst (λ bs. Begin so.lines bytes bs) none so.begin,
  subst (λ ns. AreTexts 1 so.lines so.texts ns) (sym same) so.are,
  text ∙ ap (λ bs. bs ++ 93 ∷ []) so.text,
)
