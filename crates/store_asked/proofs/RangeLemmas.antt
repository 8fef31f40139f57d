-- Ranges in which a document lies that answers.
use Rattle.std.proofs.Common.{◌≡◌, ◌⊎◌, inl, inr, ◌<◌, ℕ, List, [], ◌∷◌, ◌++◌, Bool, map, length, get_or, Option, Some, None, Result, Ok, Err, Vec, Global, IsTrue, OnOk, refl, sym, subst}
use Rattle.std.specs.Prelude.{Box, IsSomeAnd, String}
use Rattle.std.specs.declared.alloc.AllocError.{AllocError}
use Rattle.std.proofs.lemmas.List.{append_assoc}
use Rattle.std.proofs.Math.Seq.{take-append_seam}
use Rattle.bson_base.specs.declared.spec.ElementType.TheVariants as kinds
use Rattle.bson_base.specs.Value.{Members, Value, document, value_kind}
use Rattle.store_question.specs.Filters.{path_of}
use Rattle.bson_store.specs.Fronts.{LiesInAll}
use Rattle.bson_store.specs.Marks.{IsWide, LeadsToWide, is_wide_kind}
use Rattle.bson_store.specs.declared.indexed.range.Range.{Range}
use Rattle.store_model.specs.Filter.{Path, SelectsAny, at as value_at}
use Rattle.store_question.proofs.PlainLemmas.{along_plain}
use Rattle.store_question.specs.Asked.{Along, Answers, AnswersAll, Asked, Askeds, at, whole}
use Rattle.store_question.specs.Plain.{arrays_after, arrays_on}
use Rattle.store_question.specs.Reads.{ReadEach, Reads, form_of, forms_of}
use Rattle.store_question.specs.declared.question.Question.{Question, At, Whole, All}
use Rattle.store_asked.specs.Spans.{LiesAt, span_of}
use Rattle.store_asked.specs.declared.span.Span.{Span}
use Rattle.store_asked.proofs.AnswerFrontLemmas.{as_all, as_at, as_whole}
use Rattle.store_asked.proofs.SpanLemmas.{Gives, one_of}

-- ---- lists of ranges

pub lie_parts : (d : Members) (xs ys : List Range) → LiesInAll (xs ++ ys) d → LiesInAll xs d × LiesInAll ys d
lie_parts d [] ys h = (tt, h)
lie_parts d (x ∷ xs) ys h = let p = lie_parts d xs ys h.1 in ((h.0, p.0), p.1)

pub lie_both : (d : Members) (xs ys : List Range) → LiesInAll xs d → LiesInAll ys d → LiesInAll (xs ++ ys) d
lie_both d [] ys h k = k
lie_both d (x ∷ xs) ys h k = (h.0, lie_both d xs ys h.1 k)

-- ---- along a path

array_wide : (o : Option Value) → IsSomeAnd o (λ v. value_kind v ≡ kinds.Array) → IsSomeAnd o (λ v. IsTrue (is_wide_kind (value_kind v)))
array_wide None h = absurd h
array_wide (Some v) h = subst (λ k. IsTrue (is_wide_kind k)) (sym h) refl

-- an array on the way makes the document wide
arrays_wide : (done rest : Path) (d : Members) → SelectsAny (arrays_after done rest) (document d) → IsWide d (done ++ rest)
arrays_wide done [] d h = absurd h
arrays_wide done (k ∷ rest) d h = subst (IsWide d) (append_assoc done (k ∷ []) rest) (by (arrays_wide (done ++ k ∷ []) rest d) h)
  where
    by : (SelectsAny (arrays_after (done ++ k ∷ []) rest) (document d) → IsWide d ((done ++ k ∷ []) ++ rest)) → SelectsAny (arrays_after done (k ∷ rest)) (document d) → IsWide d ((done ++ k ∷ []) ++ rest)
    by more (inl a) = (length (done ++ k ∷ []), subst (LeadsToWide d) (sym (take-append_seam (done ++ k ∷ []) rest)) (array_wide (value_at (document d) (done ++ k ∷ [])) a))
    by more (inr s) = more s

-- what answers along a path lies at it
lies_at : (opens : Bool) (q : Question) (s : Span) (p : Path) (t : Asked) (d : Members) → Gives q s → Reads (form_of q) t → Along opens (Answers t) p (Some (document d)) → LiesAt s p d
lies_at opens q s p t d gives reads a = by (along_plain opens (Answers t) p (document d) a)
  where
    by : Answers t (value_at (document d) p) ⊎ SelectsAny (arrays_on p) (document d) → LiesAt s p d
    by (inl x) = inr (gives t reads (value_at (document d) p) x)
    by (inr x) = inl (arrays_wide [] p d x)

module _ (r : Result (Unit {0}) AllocError) (old new : List Range) where
  -- ranges were added in which a document lies of which P holds
  abbrev pub Adds : (Members → Type 0) → Type 0
  Adds P = OnOk r ((d : Members) → P d → LiesInAll old d → LiesInAll new d)

  -- the same of what answers a question
  abbrev pub AddsFor : (Asked → Type 0) → (Asked → Members → Type 0) → Type 0
  AddsFor Of P = OnOk r ((t : Asked) → Of t → (d : Members) → P t d → LiesInAll old d → LiesInAll new d)

module _ (q : Question) (s : Span) (p : Path) (old new : List Range) (gives : Gives q s) where
  pub along_adds : (opens : Bool) (r : Result (Unit {0}) AllocError) → Adds r old new (LiesAt s p) → AddsFor r old new (Reads (form_of q)) (λ t d. Along opens (Answers t) p (Some (document d)))
  along_adds opens (Ok u) h = λ t reads d a l. h d (lies_at opens q s p t d gives reads a) l
  along_adds opens (Err e) h = tt

-- ---- questions of a path, and lists of questions

abbrev pub Answering : Asked → Members → Type 0
Answering t d = Answers t (Some (document d))

module _ (q : Question) (ks : Vec (String Global) Global) (b : Box Question Global) (path : List (String Global)) (inner : Question) (k : path ≡ ks.items) (i : inner ≡ b.value) (old new : List Range) where
  pub at_adds : (r : Result (Unit {0}) AllocError) → q ≡ At ks b → AddsFor r old new (Reads (form_of inner)) (λ t d. Answering (at (path_of path) t) d) → AddsFor r old new (Reads (form_of q)) Answering
  at_adds (Err e) is h = tt
  at_adds (Ok u) is h = λ t reads d a l.
      let p = as_at q ks b t is reads in
      h p.0 (subst (λ (x : Question). Reads (form_of x) p.0) (sym i) p.2) d (subst (λ (x : List (String Global)). Answering (at (path_of x) p.0) d) (sym k) (subst (λ (x : Asked). Answering x d) p.1 a)) l

  pub whole_adds : (r : Result (Unit {0}) AllocError) → q ≡ Whole ks b → AddsFor r old new (Reads (form_of inner)) (λ t d. Answering (whole (path_of path) t) d) → AddsFor r old new (Reads (form_of q)) Answering
  whole_adds (Err e) is h = tt
  whole_adds (Ok u) is h = λ t reads d a l.
      let p = as_whole q ks b t is reads in
      h p.0 (subst (λ (x : Question). Reads (form_of x) p.0) (sym i) p.2) d (subst (λ (x : List (String Global)). Answering (whole (path_of x) p.0) d) (sym k) (subst (λ (x : Asked). Answering x d) p.1 a)) l

-- ranges were added in which a document lies that answers all of the questions
abbrev pub AddsEach : List Question → List Range → List Range → Type 0
AddsEach list old new = (ts : Askeds) → ReadEach (forms_of (map form_of list)) ts → (d : Members) → AnswersAll ts (Some (document d)) → LiesInAll old d → LiesInAll new d

pub all_adds : (q : Question) (l : Vec Question Global) (list : List Question) (old new : List Range) (r : Result (Unit {0}) AllocError) → q ≡ All l → list ≡ l.items → OnOk r (AddsEach list old new) → AddsFor r old new (Reads (form_of q)) Answering
all_adds q l list old new (Err e) is k h = tt
all_adds q l list old new (Ok u) is k h = λ t reads d a lie.
    let p = as_all q l t is reads in
    h p.0 (subst (λ (x : List Question). ReadEach (forms_of (map form_of x)) p.0) (sym k) p.2) d (subst (λ (x : Asked). Answering x d) p.1 a) lie

-- one question more
pub each_more : (list : List Question) (i : ℕ) (q : Question) (first old new : List Range) → q ≡ get_or list i q → i < length list → AddsEach list first old → ((t : Asked) → Reads (form_of q) t → (d : Members) → Answering t d → LiesInAll old d → LiesInAll new d) → AddsEach list first new
each_more list i q first old new is h so more ts reads d a l = let one = one_of list i q ts (Some (document d)) is h reads a in more one.read one.reads d one.answers (so ts reads d a l)

-- ---- a span on a path

-- a range was put behind the others
pub put_behind : (s : Span) (p : Path) (old new : List Range) (r : Range) → new ≡ old ++ r ∷ [] → path_of r.path.items ≡ p → span_of r ≡ s → (d : Members) → LiesAt s p d → LiesInAll old d → LiesInAll new d
put_behind s p old new r e path span d at_it l =
    subst (λ rs. LiesInAll rs d) (sym e)
    (lie_both d old (r ∷ []) l ((subst (λ (x : Span). LiesAt x (path_of r.path.items) d) (sym span) (subst (λ (x : Path). LiesAt s x d) (sym path) at_it)), tt))

-- the last one was put narrower in its place
pub put_narrower : (s : Span) (p : Path) (old rest new : List Range) (last r : Range) → old ≡ rest ++ last ∷ [] → new ≡ rest ++ r ∷ [] → path_of last.path.items ≡ p → ((d : Members) → LiesInAll (last ∷ []) d → LiesAt s (path_of last.path.items) d → LiesInAll (r ∷ []) d)
    → (d : Members) → LiesAt s p d → LiesInAll old d → LiesInAll new d
put_narrower s p old rest new last r was e path narrower d at_it l =
    let b = lie_parts d rest (last ∷ []) (subst (λ rs. LiesInAll rs d) was l) in
    subst (λ rs. LiesInAll rs d) (sym e) (lie_both d rest (r ∷ []) b.0 (narrower d b.1 (subst (λ (x : Path). LiesAt s x d) (sym path) at_it)))
