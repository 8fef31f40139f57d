-- The beginnings of a path, and a path that is copied.
use Rattle.std.proofs.Common.{◌≡◌, ℕ, ◌+◌, ◌<◌, ◌≤◌, List, [], ◌∷◌, ◌++◌, map, length, take, drop, get_or, String, Global, string_bytes, sym, ap, ◌∙◌, append-nil, add-one, arith}
use Rattle.std.proofs.Math.Seq.{drop-cons}
use Rattle.std.proofs.lemmas.List.{drop_all, length-map, map-append, take-map, take_all, take_more}
use Rattle.bson_base.specs.declared.spec.ElementType.TheVariants as kinds
use Rattle.store_question.specs.Filters.{filter_of, path_of, tests_of}
use Rattle.store_question.specs.declared.filter.Filter.{Filter as Made}
use Rattle.store_model.specs.Filter.{Filter, Path, filter, is_of}
use Rattle.store_question.specs.Plain.{arrays_after, arrays_on}
use Rattle.store_asked.proofs.FilterLemmas.{one_more}

-- ---- copied

pub keys_grow : (keys : List (String Global)) (i : ℕ) (key k : String Global) (copy more : List (String Global)) → key ≡ get_or keys i key → i < length keys → string_bytes k ≡ string_bytes key → more ≡ copy ++ k ∷ []
    → path_of copy ≡ path_of (take i keys) → path_of more ≡ path_of (take (i + 1) keys)
keys_grow keys i key k copy more is h same e so_far =
    ap path_of e ∙ map-append string_bytes copy (k ∷ []) ∙ ap (λ l. l ++ string_bytes k ∷ []) so_far ∙ ap (λ x. path_of (take i keys) ++ x ∷ []) (same ∙ ap string_bytes is)
    ∙ sym (ap path_of (take_more keys i key h) ∙ map-append string_bytes (take i keys) (get_or keys i key ∷ []))

pub keys_whole : (keys copy : List (String Global)) (i : ℕ) → length keys ≤ i → path_of copy ≡ path_of (take i keys) → path_of copy ≡ path_of keys
keys_whole keys copy i h so_far = so_far ∙ ap path_of (take_all i keys h)

-- ---- arrays on the way

-- filters for the first beginnings, with those that are left after them, are all
abbrev pub SoFar : List (String Global) → List Made → ℕ → Type 0
SoFar keys fs i = (gs : List Filter) → tests_of gs ≡ arrays_after (take i (path_of keys)) (drop i (path_of keys)) → tests_of (map filter_of fs ++ gs) ≡ arrays_on (path_of keys)

beginning : (p : Path) (i : ℕ) → i < length p → arrays_after (take i p) (drop i p) ≡ filter (is_of (take (i + 1) p) kinds.Array) (arrays_after (take (i + 1) p) (drop (i + 1) p))
beginning p i h =
    ap (arrays_after (take i p)) (drop-cons p i [] h ∙ ap (λ n. get_or p i [] ∷ drop n p) (sym (add-one i)))
    ∙ ap (λ q. filter (is_of q kinds.Array) (arrays_after q (drop (i + 1) p))) (sym (take_more p i [] h))

module _ (keys : List (String Global)) where
  pub arrays_begun : (fs : List Made) → fs ≡ [] → SoFar keys fs 0
  arrays_begun fs none = λ gs e. ap (λ (x : List Made). tests_of (map filter_of x ++ gs)) none ∙ e

  pub arrays_grow : (fs more : List Made) (m : Made) (i : ℕ) → i < length keys → more ≡ fs ++ m ∷ [] → filter_of m ≡ is_of (path_of (take (i + 1) keys)) kinds.Array → SoFar keys fs i → SoFar keys more (i + 1)
  arrays_grow fs more m i h is told so_far = λ gs e.
      let low : i < length (path_of keys) = omega (arith, h, length-map keys string_bytes) in
      let one : filter_of m ≡ is_of (take (i + 1) (path_of keys)) kinds.Array = told ∙ ap (λ q. is_of q kinds.Array) (sym (take-map string_bytes (i + 1) keys)) in
      ap (λ (x : List Made). tests_of (map filter_of x ++ gs)) is ∙ ap tests_of (one_more fs m gs)
      ∙ so_far (filter_of m ∷ gs) (ap (λ f. filter f (tests_of gs)) one ∙ ap (filter (is_of (take (i + 1) (path_of keys)) kinds.Array)) e ∙ sym (beginning (path_of keys) i low))

  pub arrays_whole : (fs : List Made) (i : ℕ) → length keys ≤ i → SoFar keys fs i → tests_of (map filter_of fs) ≡ arrays_on (path_of keys)
  arrays_whole fs i h so_far =
      let past : length (path_of keys) ≤ i = omega (arith, h, length-map keys string_bytes) in
      ap tests_of (sym (append-nil (map filter_of fs))) ∙ so_far [] (sym (ap (arrays_after (take i (path_of keys))) (drop_all i (path_of keys) past)))
