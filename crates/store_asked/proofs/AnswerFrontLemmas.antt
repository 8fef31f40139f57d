-- What a filter that is put together selects, and what a question stands for.
use Rattle.std.proofs.Common.{◌≡◌, ◌⊎◌, inl, inr, ◌<◌, ◌≤◌, ◌+◌, ℕ, true, false, List, [], ◌∷◌, ◌++◌, map, drop, length, get_or, Option, Some, Result, Ok, Err, Vec, Global, refl, sym, ap, ◌∙◌, subst, rules, append-nil, add-one}
use Rattle.std.specs.Prelude.{Box, String, IfOk}
use Rattle.std.proofs.Math.Seq.{drop-cons}
use Rattle.std.proofs.lemmas.List.{drop_all}
use Rattle.bson_base.specs.Value.{Value}
use Rattle.bson_base.specs.declared.spec.ElementType.{ElementType}
use Rattle.bson_raw.specs.Convert.{SpellsRawValue}
use Rattle.bson_raw.specs.Raw.{own_value}
use Rattle.bson_raw.specs.declared.bson.RawBson.{RawBson}
use Rattle.store_question.specs.Filters.{filter_of, path_of, tests_of}
use Rattle.store_question.specs.Views.{ComesBack}
use Rattle.store_question.specs.declared.filter.Filter.{Filter as Made}
use Rattle.store_model.specs.Filter.{Filter, Path, Selects, SelectsAll, SelectsAny, all_of as both, any_of as one, at as value_at, exists as stands, is_of as has, no_filters}
use Rattle.store_question.proofs.PlainLemmas.{along_plain}
use Rattle.store_question.specs.Asked.{Answers, AnswersAll, AnswersAny, Asked, Askeds, asked, no_asked, at, whole, exists, is_of, lies}
use Rattle.store_question.specs.Plain.{arrays_on}
use Rattle.store_question.specs.Reads.{Form, all_form, any_form, at_form, compare_form, exists_form, kind_form, whole_form, form_of, forms_of, Reads, ReadEach}
use Rattle.store_question.specs.declared.question.Comparison.{Comparison}
use Rattle.store_question.specs.declared.question.Question.{Question, At, Whole, Exists, Kind, Compare, All, Any, the_lemmas}
use Rattle.store_asked.specs.Front.{Meets, Pairwise, Passes, either}
use Rattle.store_asked.proofs.FilterLemmas.{one_more}

pub weaker : {X E : Type 0} (P Q : X → Type 0) (r : Result X E) → ((x : X) → P x → Q x) → IfOk r P → IfOk r Q
weaker P Q (Ok x) f h = f x h
weaker P Q (Err e) f h = tt

-- ---- what a question stands for

pub as_at : (q : Question) (ks : Vec (String Global) Global) (b : Box Question Global) (t : Asked) → q ≡ At ks b → Reads (form_of q) t → Reads (at_form (path_of ks.items) (form_of b.value)) t
as_at q ks b t e r = let same : form_of q ≡ at_form (path_of ks.items) (form_of b.value) = rw e (search (rules, the_lemmas)) in subst (λ (f : Form). Reads f t) same r

pub as_whole : (q : Question) (ks : Vec (String Global) Global) (b : Box Question Global) (t : Asked) → q ≡ Whole ks b → Reads (form_of q) t → Reads (whole_form (path_of ks.items) (form_of b.value)) t
as_whole q ks b t e r = let same : form_of q ≡ whole_form (path_of ks.items) (form_of b.value) = rw e (search (rules, the_lemmas)) in subst (λ (f : Form). Reads f t) same r

pub as_all : (q : Question) (l : Vec Question Global) (t : Asked) → q ≡ All l → Reads (form_of q) t → Reads (all_form (forms_of (map form_of l.items))) t
as_all q l t e r = let same : form_of q ≡ all_form (forms_of (map form_of l.items)) = rw e (search (rules, the_lemmas)) in subst (λ (f : Form). Reads f t) same r

pub as_any : (q : Question) (l : Vec Question Global) (t : Asked) → q ≡ Any l → Reads (form_of q) t → Reads (any_form (forms_of (map form_of l.items))) t
as_any q l t e r = let same : form_of q ≡ any_form (forms_of (map form_of l.items)) = rw e (search (rules, the_lemmas)) in subst (λ (f : Form). Reads f t) same r

pub as_compare : (q : Question) (c : Comparison) (v : RawBson) (t : Asked) → q ≡ Compare c v → Reads (form_of q) t → Reads (compare_form c (own_value v)) t
as_compare q c v t e r = let same : form_of q ≡ compare_form c (own_value v) = rw e (search (rules, the_lemmas)) in subst (λ (f : Form). Reads f t) same r

as_kind : (q : Question) (k : ElementType) (t : Asked) → q ≡ Kind k → Reads (form_of q) t → Reads (kind_form k) t
as_kind q k t e r = let same : form_of q ≡ kind_form k = rw e (search (rules, the_lemmas)) in subst (λ (f : Form). Reads f t) same r

as_exists : (q : Question) (t : Asked) → q ≡ Exists → Reads (form_of q) t → Reads exists_form t
as_exists q t e r = let same : form_of q ≡ exists_form = rw e (search (rules, the_lemmas)) in subst (λ (f : Form). Reads f t) same r

-- ---- everything

pub all_pass : (t : Asked) (f : Filter) → f ≡ both no_filters → Passes t f
all_pass t f e = λ v back a. subst (λ (g : Filter). Selects g v) (sym e) tt

pub all_meet : (p : Path) (t : Asked) (f : Filter) → f ≡ both no_filters → Meets p t f
all_meet p t f e = λ v back a. subst (λ (g : Filter). Selects g v) (sym e) tt

-- ---- along a path

module _ (p : Path) (t : Asked) (f g h : Filter) (meets : Meets p t f) (arrays : g ≡ one (arrays_on p)) (is : h ≡ either f g) where
  found : (v : Value) → ComesBack v → Answers t (value_at v p) ⊎ SelectsAny (arrays_on p) v → Selects h v
  found v back (inl a) = subst (λ (x : Filter). Selects x v) (sym is) (inl (meets v back a))
  found v back (inr s) = subst (λ (x : Filter). Selects x v) (sym is) (inr (inl (subst (λ (x : Filter). Selects x v) (sym arrays) s)))

  pub opened_passes : Passes (at p t) h
  opened_passes = λ v back a. found v back (along_plain true (Answers t) p v a)

  pub whole_passes : Passes (whole p t) h
  whole_passes = λ v back a. found v back (along_plain false (Answers t) p v a)

pub at_front : (q : Question) (ks : Vec (String Global) Global) (b : Box Question Global) (path : List (String Global)) (inner : Question) (f : Filter) → q ≡ At ks b → path ≡ ks.items → inner ≡ b.value → ((t : Asked) → Reads (form_of inner) t → Passes (at (path_of path) t) f) → (t : Asked) → Reads (form_of q) t → Passes t f
at_front q ks b path inner f e k i h t r =
    let p = as_at q ks b t e r in
    subst (λ (x : Asked). Passes x f) (sym p.1)
    (subst (λ (x : List (String Global)). Passes (at (path_of x) p.0) f) k (h p.0 (subst (λ (x : Question). Reads (form_of x) p.0) (sym i) p.2)))

pub whole_front : (q : Question) (ks : Vec (String Global) Global) (b : Box Question Global) (path : List (String Global)) (inner : Question) (f : Filter) → q ≡ Whole ks b → path ≡ ks.items → inner ≡ b.value → ((t : Asked) → Reads (form_of inner) t → Passes (whole (path_of path) t) f) → (t : Asked) → Reads (form_of q) t → Passes t f
whole_front q ks b path inner f e k i h t r =
    let p = as_whole q ks b t e r in
    subst (λ (x : Asked). Passes x f) (sym p.1)
    (subst (λ (x : List (String Global)). Passes (whole (path_of x) p.0) f) k (h p.0 (subst (λ (x : Question). Reads (form_of x) p.0) (sym i) p.2)))

-- ---- at one place

pub compare_meets : (q : Question) (c : Comparison) (v : RawBson) (p : Path) (f : Filter) → q ≡ Compare c v → ((w : Value) → SpellsRawValue (own_value v) w → Meets p (lies c w) f) → (t : Asked) → Reads (form_of q) t → Meets p t f
compare_meets q c v p f e h t r = let w = as_compare q c v t e r in subst (λ (x : Asked). Meets p x f) (sym w.1) (h w.0 w.2)

pub kind_meets : (q : Question) (k : ElementType) (p : Path) (f : Filter) → q ≡ Kind k → f ≡ has p k → (t : Asked) → Reads (form_of q) t → Meets p t f
kind_meets q k p f e is t r =
    let same : t ≡ is_of k = as_kind q k t e r in
    subst (λ (x : Asked). Meets p x f) (sym same) (λ v back a. subst (λ (x : Filter). Selects x v) (sym is) a)

pub exists_meets : (q : Question) (p : Path) (f : Filter) → q ≡ Exists → f ≡ stands p → (t : Asked) → Reads (form_of q) t → Meets p t f
exists_meets q p f e is t r =
    let same : t ≡ exists = as_exists q t e r in
    subst (λ (x : Asked). Meets p x f) (sym same) (λ v back a. subst (λ (x : Filter). Selects x v) (sym is) a)

-- ---- lists

module _ (P : Asked → Filter → Type 0) (o : Option Value) (v : Value) (on : (t : Asked) (f : Filter) → P t f → Answers t o → Selects f v) where
  all_on : (ts : Askeds) (fs : List Filter) → Pairwise P ts fs → AnswersAll ts o → SelectsAll (tests_of fs) v
  all_on no_asked [] h a = tt
  all_on no_asked (f ∷ fs) h a = absurd h
  all_on (asked t ts) [] h a = absurd h
  all_on (asked t ts) (f ∷ fs) h a = (on t f h.0 a.0, all_on ts fs h.1 a.1)

  any_on : (ts : Askeds) (fs : List Filter) → Pairwise P ts fs → AnswersAny ts o → SelectsAny (tests_of fs) v
  any_on no_asked fs h a = absurd a
  any_on (asked t ts) [] h a = absurd h
  any_on (asked t ts) (f ∷ fs) h (inl a) = inl (on t f h.0 a)
  any_on (asked t ts) (f ∷ fs) h (inr a) = inr (any_on ts fs h.1 a)

module _ (q : Question) (l : Vec Question Global) (list : List Question) (fs : List Filter) (f : Filter) (k : list ≡ l.items) where
  pub all_front : q ≡ All l → f ≡ both (tests_of fs) → ((ts : Askeds) → ReadEach (forms_of (map form_of list)) ts → Pairwise Passes ts fs) → (t : Asked) → Reads (form_of q) t → Passes t f
  all_front e is h t r =
      let p = as_all q l t e r in
      let each = h p.0 (subst (λ (x : List Question). ReadEach (forms_of (map form_of x)) p.0) (sym k) p.2) in
      subst (λ (x : Asked). Passes x f) (sym p.1) (λ v back a. subst (λ (x : Filter). Selects x v) (sym is) (all_on Passes (Some v) v (λ u g m b. m v back b) p.0 fs each a))

  pub any_front : q ≡ Any l → f ≡ one (tests_of fs) → ((ts : Askeds) → ReadEach (forms_of (map form_of list)) ts → Pairwise Passes ts fs) → (t : Asked) → Reads (form_of q) t → Passes t f
  any_front e is h t r =
      let p = as_any q l t e r in
      let each = h p.0 (subst (λ (x : List Question). ReadEach (forms_of (map form_of x)) p.0) (sym k) p.2) in
      subst (λ (x : Asked). Passes x f) (sym p.1) (λ v back a. subst (λ (x : Filter). Selects x v) (sym is) (any_on Passes (Some v) v (λ u g m b. m v back b) p.0 fs each a))

  pub all_meets : (p : Path) → q ≡ All l → f ≡ both (tests_of fs) → ((ts : Askeds) → ReadEach (forms_of (map form_of list)) ts → Pairwise (Meets p) ts fs) → (t : Asked) → Reads (form_of q) t → Meets p t f
  all_meets p e is h t r =
      let w = as_all q l t e r in
      let each = h w.0 (subst (λ (x : List Question). ReadEach (forms_of (map form_of x)) w.0) (sym k) w.2) in
      subst (λ (x : Asked). Meets p x f) (sym w.1) (λ v back a. subst (λ (x : Filter). Selects x v) (sym is) (all_on (Meets p) (value_at v p) v (λ u g m b. m v back b) w.0 fs each a))

  pub any_meets : (p : Path) → q ≡ Any l → f ≡ one (tests_of fs) → ((ts : Askeds) → ReadEach (forms_of (map form_of list)) ts → Pairwise (Meets p) ts fs) → (t : Asked) → Reads (form_of q) t → Meets p t f
  any_meets p e is h t r =
      let w = as_any q l t e r in
      let each = h w.0 (subst (λ (x : List Question). ReadEach (forms_of (map form_of x)) w.0) (sym k) w.2) in
      subst (λ (x : Asked). Meets p x f) (sym w.1) (λ v back a. subst (λ (x : Filter). Selects x v) (sym is) (any_on (Meets p) (value_at v p) v (λ u g m b. m v back b) w.0 fs each a))

-- ---- loops

-- what is left of the questions, and that filters for them complete those that there are
abbrev pub Left : (Asked → Filter → Type 0) → Askeds → List Made → List Question → Type 0
Left P ts fs rest = (us : Askeds) × ReadEach (forms_of (map form_of rest)) us × ((gs : List Filter) → Pairwise P us gs → Pairwise P ts (map filter_of fs ++ gs))

abbrev pub Going : (Asked → Filter → Type 0) → List Question → List Made → List Question → Type 0
Going P list fs rest = (ts : Askeds) → ReadEach (forms_of (map form_of list)) ts → Left P ts fs rest

module _ (P : Asked → Filter → Type 0) (list : List Question) where
  pub begun : (fs : List Made) → fs ≡ [] → Going P list fs list
  begun fs e = λ ts r. (ts, r, λ gs h. subst (λ (x : List Made). Pairwise P ts (map filter_of x ++ gs)) (sym e) h)

  pub gone_on : (fs more : List Made) (m : Made) (i : ℕ) (q : Question) → q ≡ get_or list i q → i < length list → more ≡ fs ++ m ∷ [] → Going P list fs (drop i list) → ((t : Asked) → Reads (form_of q) t → P t (filter_of m)) → Going P list more (drop (i + 1) list)
  gone_on fs more m i q is h e s k = λ ts r.
      let left = s ts r in
      let next : drop i list ≡ q ∷ drop (i + 1) list = drop-cons list i q h ∙ rw (← is, add-one) refl in
      let seen = subst (λ (x : List Question). ReadEach (forms_of (map form_of x)) left.0) next left.1 in
      (seen.1, seen.4, λ gs h. subst (λ (x : List Filter). Pairwise P ts x) (sym (ap (λ (x : List Made). map filter_of x ++ gs) e ∙ one_more fs m gs)) (left.2 (filter_of m ∷ gs) (subst (λ (x : Askeds). Pairwise P x (filter_of m ∷ gs)) (sym seen.2) (k seen.0 seen.3, h))))

  pub done : (fs : List Made) (i : ℕ) → length list ≤ i → Going P list fs (drop i list) → (ts : Askeds) → ReadEach (forms_of (map form_of list)) ts → Pairwise P ts (map filter_of fs)
  done fs i h s ts r =
      let left = s ts r in
      let none : left.0 ≡ no_asked = subst (λ (x : List Question). ReadEach (forms_of (map form_of x)) left.0) (drop_all i list h) left.1 in
      subst (λ (x : List Filter). Pairwise P ts x) (append-nil (map filter_of fs)) (left.2 [] (subst (λ (x : Askeds). Pairwise P x []) (sym none) tt))
