-- Where a value that answers lies.
use Rattle.std.proofs.Common.{◌≡◌, ◌⊎◌, inl, inr, ◌<◌, ◌≤◌, ◌+◌, ℕ, zero, suc, ℤ, List, [], ◌∷◌, map, drop, length, get_or, Bool, true, false, ◌==◌, if◌then◌else◌, Option, Some, None, IsTrue, refl, sym, ap, ◌∙◌, subst, arith, add-one}
use Rattle.std.specs.Int.{w64}
use Rattle.std.specs.Prelude.{◌≤ℤ◌, FitsSigned, IfSome, IsSomeAnd, unwrap_or}
use Rattle.std.specs.Ordering.{is_ge, is_le}
use Rattle.std.specs.declared.cmp.Ordering.{Ordering}
use Rattle.std.specs.declared.cmp.Ordering.TheVariants as orderings
use Rattle.std.proofs.Math.Seq.{drop-cons}
use Rattle.std.proofs.lemmas.Bool.{eqb-true}
use Rattle.std.proofs.lemmas.List.{drop_all}
use Rattle.bson_base.specs.Value.{Value, array, document, max_key, min_key, null, scalar, scoped_code, value_kind}
use Rattle.bson_order.specs.Order.{is_no_number, order, rank}
use Rattle.bson_order.proofs.TurnLemmas.{kind_spelled}
use Rattle.bson_raw.specs.Convert.{SpellsRawValue}
use Rattle.bson_raw.specs.Raw.{raw_kind, ref_value}
use Rattle.bson_raw.specs.declared.bson_ref.RawBsonRef.{RawBsonRef}
use Rattle.store_question.specs.Asked.{Answers, AnswersAll, AnswersAny, Asked, Askeds, asked, no_asked, holds, lies, lies_apart, lies_to, same_truth}
use Rattle.store_question.specs.Reads.{ReadEach, Reads, form_of, forms_of}
use Rattle.store_question.specs.declared.question.Comparison.{Comparison}
use Rattle.store_question.specs.declared.question.Comparison.TheVariants as lies_so
use Rattle.store_question.specs.declared.question.Question.{Question}
use Rattle.store_asked.specs.Spans.{HasParts, InSpan, LiesBeside}
use Rattle.store_asked.specs.declared.span.Span.{Span}
use Rattle.bson_store.specs.Parts.{part}

-- ---- one value

-- the values of a rank with parts are none of the keys that lie apart from all others
no_least : (r : ℕ) → HasParts r → r ≡ 0 → ⊥
no_least r (inl h) e = absurd (omega (arith, h, e))
no_least r (inr (inl h)) e = absurd (omega (arith, h, e))
no_least r (inr (inr h)) e = absurd (omega (arith, h, e))

no_null : (r : ℕ) → HasParts r → r ≡ 2 → ⊥
no_null r (inl h) e = absurd (omega (arith, h, e))
no_null r (inr (inl h)) e = absurd (omega (arith, h, e))
no_null r (inr (inr h)) e = absurd (omega (arith, h, e))

no_greatest : (r : ℕ) → HasParts r → r ≡ 16 → ⊥
no_greatest r (inl h) e = absurd (omega (arith, h, e))
no_greatest r (inr (inl h)) e = absurd (omega (arith, h, e))
no_greatest r (inr (inr h)) e = absurd (omega (arith, h, e))

not_apart : (c : Comparison) (w : Value) → HasParts (rank (value_kind w)) → IsTrue (lies_apart c w) → ⊥
not_apart c (scalar min_key) p h = no_least 0 p refl
not_apart c (scalar max_key) p h = no_greatest 16 p refl
not_apart c (scalar s) p h = let no : false ≡ true = h in cc
not_apart c (array vs) p h = let no : false ≡ true = h in cc
not_apart c (document ms) p h = let no : false ≡ true = h in cc
not_apart c (scoped_code t ms) p h = let no : false ≡ true = h in cc

-- a law of the parts, each way
abbrev pub Rises : Type 0
Rises = (v w : Value) → rank (value_kind v) ≡ rank (value_kind w) → IsTrue (is_le (order v w)) → part v ≤ℤ part w

abbrev pub Falls : Type 0
Falls = (v w : Value) → rank (value_kind v) ≡ rank (value_kind w) → IsTrue (is_ge (order v w)) → part w ≤ℤ part v

less_le : (r : Ordering) → IsTrue (holds lies_so.Less r) → IsTrue (is_le r)
less_le orderings.Less h = refl
less_le orderings.Equal h = refl
less_le orderings.Greater h = h

equal_le : (r : Ordering) → IsTrue (holds lies_so.Equal r) → IsTrue (is_le r)
equal_le orderings.Less h = refl
equal_le orderings.Equal h = refl
equal_le orderings.Greater h = h

equal_ge : (r : Ordering) → IsTrue (holds lies_so.Equal r) → IsTrue (is_ge r)
equal_ge orderings.Less h = h
equal_ge orderings.Equal h = refl
equal_ge orderings.Greater h = refl

greater_ge : (r : Ordering) → IsTrue (holds lies_so.Greater r) → IsTrue (is_ge r)
greater_ge orderings.Less h = h
greater_ge orderings.Equal h = refl
greater_ge orderings.Greater h = refl

module _ (rises : Rises) (falls : Falls) (v w : Value) (same : rank (value_kind v) ≡ rank (value_kind w)) where
  -- the part of a value that lies so is beside its part
  beside : (c : Comparison) → IsTrue (holds c (order v w)) → LiesBeside c (part v) (part w)
  beside lies_so.Less h = rises v w same (less_le (order v w) h)
  beside lies_so.AtMost h = rises v w same h
  beside lies_so.Equal h = (rises v w same (equal_le (order v w) h), falls v w same (equal_ge (order v w) h))
  beside lies_so.AtLeast h = falls v w same h
  beside lies_so.Greater h = falls v w same (greater_ge (order v w) h)

-- what lies so to a value of a rank with parts is of its rank, and lies so by the order
pub lies_in : (c : Comparison) (v w : Value) → HasParts (rank (value_kind w)) → IsTrue (lies_to c v w) → (rank (value_kind v) ≡ rank (value_kind w)) × IsTrue (holds c (order v w))
lies_in c v w p h = by (rank (value_kind v) == rank (value_kind w)) refl h
  where
    inner : (b : Bool) → IsTrue (if b then holds c (order v w) else false) → IsTrue (holds c (order v w))
    inner true k = k
    inner false k = let no : false ≡ true = k in cc

    by : (b : Bool) → (rank (value_kind v) == rank (value_kind w)) ≡ b → IsTrue (if b then (if same_truth (is_no_number v) (is_no_number w) then holds c (order v w) else false) else lies_apart c w)
        → (rank (value_kind v) ≡ rank (value_kind w)) × IsTrue (holds c (order v w))
    by true e k = (eqb-true (rank (value_kind v)) (rank (value_kind w)) e, inner (same_truth (is_no_number v) (is_no_number w)) k)
    by false e k = absurd (not_apart c w p k)

-- ---- what a value lies beside

-- the span of what lies so, by what the code says of it
pub compared_in : Rises → Falls → ((v : Value) → FitsSigned w64 (part v)) → (c : Comparison) (r : ℕ) (p : ℤ) (s : Span) (w : Value) → HasParts r → r ≡ rank (value_kind w) → p ≡ part w → s.rank ≡ r
    → ((z : ℤ) → FitsSigned w64 z → LiesBeside c z p → s.low ≤ℤ z) → ((z : ℤ) → FitsSigned w64 z → LiesBeside c z p → z ≤ℤ s.high)
    → (o : Option Value) → IsTrue (lies_to c (unwrap_or o (scalar null)) w) → InSpan s o
compared_in rises falls fits c r p s w has is at same low high (Some v) h =
    let l = lies_in c v w (subst HasParts is has) h in
    let b = subst (λ (q : ℤ). LiesBeside c (part v) q) (sym at) (beside rises falls v w l.0 c l.1) in
    (l.0 ∙ sym is ∙ sym same, low (part v) (fits v) b, high (part v) (fits v) b)
compared_in rises falls fits c r p s w has is at same low high None h =
    let l = lies_in c (scalar null) w (subst HasParts is has) h in
    absurd (no_null r has (is ∙ sym l.0))

-- the same if there is one
pub compared_some : Rises → Falls → ((v : Value) → FitsSigned w64 (part v)) → (raw : RawBsonRef) (c : Comparison) (r : ℕ) (p : ℤ) (o : Option Span) → HasParts r → r ≡ rank (raw_kind (ref_value raw)) → ((w : Value) → SpellsRawValue (ref_value raw) w → p ≡ part w)
    → IfSome o (λ s. s.rank ≡ r) → ((z : ℤ) → FitsSigned w64 z → LiesBeside c z p → IfSome o (λ s. s.low ≤ℤ z)) → ((z : ℤ) → FitsSigned w64 z → LiesBeside c z p → IfSome o (λ s. z ≤ℤ s.high))
    → IfSome o (λ s. (w : Value) → SpellsRawValue (ref_value raw) w → (x : Option Value) → IsTrue (lies_to c (unwrap_or x (scalar null)) w) → InSpan s x)
compared_some rises falls fits raw c r p None has is at same low high = tt
compared_some rises falls fits raw c r p (Some s) has is at same low high = λ w spells x h. compared_in rises falls fits c r p s w has (is ∙ ap rank (kind_spelled raw w spells)) (at w spells) same low high x h

-- ---- two spans

pub narrow_in : (a b : Span) (low high : ℤ) → ((z : ℤ) → a.low ≤ℤ z → b.low ≤ℤ z → low ≤ℤ z) → ((z : ℤ) → z ≤ℤ a.high → z ≤ℤ b.high → z ≤ℤ high) → (o : Option Value) → InSpan a o → InSpan b o → InSpan (record { rank = a.rank; low = low; high = high }) o
narrow_in a b low high below above None h k = absurd h
narrow_in a b low high below above (Some v) h k = (h.0, below (part v) h.1 k.1, above (part v) h.2 k.2)

pub wide_in : (a : Span) (r : ℕ) (low high : ℤ) → a.rank ≡ r → ((z : ℤ) → a.low ≤ℤ z → low ≤ℤ z) → ((z : ℤ) → z ≤ℤ a.high → z ≤ℤ high) → (o : Option Value) → InSpan a o → InSpan (record { rank = r; low = low; high = high }) o
wide_in a r low high is below above None h = absurd h
wide_in a r low high is below above (Some v) h = (h.0 ∙ is, below (part v) h.1, above (part v) h.2)

-- ---- a question, and lists of them

abbrev pub Gives : Question → Span → Type 0
Gives q s = (t : Asked) → Reads (form_of q) t → (o : Option Value) → Answers t o → InSpan s o

abbrev pub Narrow : List Question → Span → Type 0
Narrow list s = (ts : Askeds) → ReadEach (forms_of (map form_of list)) ts → (o : Option Value) → AnswersAll ts o → InSpan s o

-- one of the questions, read, and answered if all are
pub record OneOf (q : Question) (o : Option Value) : Type 0 where
  pub read : Asked
  pub reads : Reads (form_of q) read
  pub answers : Answers read o

pub one_of : (list : List Question) (i : ℕ) (q : Question) (ts : Askeds) (o : Option Value) → q ≡ get_or list i q → i < length list → ReadEach (forms_of (map form_of list)) ts → AnswersAll ts o → OneOf q o
one_of [] i q ts o is h r a = absurd (omega (arith, h))
one_of (x ∷ list) zero q ts o is h r a =
    let b = subst (λ (us : Askeds). AnswersAll us o) r.2 a in
    record { read = r.0; reads = subst (λ (y : Question). Reads (form_of y) r.0) (sym is) r.3; answers = b.0 }
one_of (x ∷ list) (suc i) q ts o is h r a =
    let b = subst (λ (us : Askeds). AnswersAll us o) r.2 a in
    one_of list i q r.1 o is (omega (arith, h)) r.4 b.1

-- one question more
pub narrow_more : (list : List Question) (i : ℕ) (q : Question) (a b r : Option Span) → q ≡ get_or list i q → i < length list
    → ((o : Option Value) → IfSome a (λ s. InSpan s o) → IfSome b (λ s. InSpan s o) → IfSome r (λ s. InSpan s o)) → IfSome a (Narrow list) → IfSome b (Gives q) → IfSome r (Narrow list)
narrow_more list i q a b None is h both k l = tt
narrow_more list i q a b (Some s) is h both k l = λ ts reads o answers.
    let one = one_of list i q ts o is h reads answers in
    both o (told a (λ x n. n ts reads o answers) k) (told b (λ x g. g one.read one.reads o one.answers) l)
  where
    told : {Q : Span → Type 0} {R : Span → Type 0} (x : Option Span) → ((y : Span) → Q y → R y) → IfSome x Q → IfSome x R
    told None f y = tt
    told (Some z) f y = f z y

-- what a value answers lies in the span so far, or is left
abbrev pub Wide : List Question → List Question → Option Span → Type 0
Wide list rest all = (ts : Askeds) → ReadEach (forms_of (map form_of list)) ts → (o : Option Value) → AnswersAny ts o → IsSomeAnd all (λ s. InSpan s o) ⊎ ((us : Askeds) × ReadEach (forms_of (map form_of rest)) us × AnswersAny us o)

pub wide_begun : (list : List Question) → Wide list list None
wide_begun list ts reads o answers = inr (ts, reads, answers)

pub wide_more : (list : List Question) (i : ℕ) (q : Question) (all : Option Span) (s r : Span) → q ≡ get_or list i q → i < length list
    → ((o : Option Value) → IsSomeAnd all (λ x. InSpan x o) → InSpan r o) → ((o : Option Value) → InSpan s o → InSpan r o) → Gives q s → Wide list (drop i list) all → Wide list (drop (i + 1) list) (Some r)
wide_more list i q all s r is h first second gives wide ts reads o answers = by (wide ts reads o answers)
  where
    next : drop i list ≡ q ∷ drop (i + 1) list
    next = drop-cons list i q h ∙ rw (← is, add-one) refl

    left : (us : Askeds) → ReadEach (forms_of (map form_of (q ∷ drop (i + 1) list))) us → AnswersAny us o → InSpan r o ⊎ ((ws : Askeds) × ReadEach (forms_of (map form_of (drop (i + 1) list))) ws × AnswersAny ws o)
    left us seen a = here (subst (λ (ws : Askeds). AnswersAny ws o) seen.2 a)
      where
        here : AnswersAny (asked seen.0 seen.1) o → InSpan r o ⊎ ((ws : Askeds) × ReadEach (forms_of (map form_of (drop (i + 1) list))) ws × AnswersAny ws o)
        here (inl x) = inl (second o (gives seen.0 seen.3 o x))
        here (inr x) = inr (seen.1, seen.4, x)

    by : IsSomeAnd all (λ x. InSpan x o) ⊎ ((us : Askeds) × ReadEach (forms_of (map form_of (drop i list))) us × AnswersAny us o) → InSpan r o ⊎ ((us : Askeds) × ReadEach (forms_of (map form_of (drop (i + 1) list))) us × AnswersAny us o)
    by (inl x) = inl (first o x)
    by (inr x) = left x.0 (subst (λ (l : List Question). ReadEach (forms_of (map form_of l)) x.0) next x.1) x.2

pub wide_done : (list : List Question) (i : ℕ) (all : Option Span) → length list ≤ i → Wide list (drop i list) all → IfSome all (λ s. (ts : Askeds) → ReadEach (forms_of (map form_of list)) ts → (o : Option Value) → AnswersAny ts o → InSpan s o)
wide_done list i None h wide = tt
wide_done list i (Some s) h wide = λ ts reads o answers. by o (wide ts reads o answers)
  where
    by : (o : Option Value) → InSpan s o ⊎ ((us : Askeds) × ReadEach (forms_of (map form_of (drop i list))) us × AnswersAny us o) → InSpan s o
    by o (inl x) = x
    by o (inr x) =
        let none : x.0 ≡ no_asked = subst (λ (l : List Question). ReadEach (forms_of (map form_of l)) x.0) (drop_all i list h) x.1 in
        absurd (subst (λ (us : Askeds). AnswersAny us o) none x.2)
