-- Loops over the members of an object and the items of an array.
use Rattle.std.proofs.Common.{◌≡◌, ◌<◌, ◌≤◌, ◌+◌, ℕ, List, [], ◌∷◌, ◌++◌, drop, length, get_or, map, Result, Ok, Bor, Vec, Global, refl, sym, ap, ◌∙◌, subst, add-one}
use Rattle.std.specs.Prelude.{if◌then◌else◌}
use Rattle.std.proofs.Math.Seq.{drop-cons}
use Rattle.std.proofs.lemmas.List.{drop_all}
use Rattle.json.specs.Value.{items_view, members_view, value_view}
use Rattle.json.specs.declared.value.Value.{Value as Tree}
use Rattle.store_model.specs.Filter.{Path}
use Rattle.store_question.specs.Asked.{Asked, Askeds, no_asked}
use Rattle.store_question.specs.declared.question.Question.{Question}
use Rattle.store_question_read.proofs.OnwardLemmas.{Entry, SoFar, all_read, and_then, one_more, stopped}
use Rattle.store_question_read.specs.Outcome.{AskEach, Asks, Fails, Gives}
use Rattle.store_question_read.specs.Query.{Fault, condition, each, entries, entry, items, joining_of, listed, match_alone, matching, operator_of, operators, query, test, tests}
use Rattle.store_question_read.specs.declared.error.QueryError.{QueryError}
use Rattle.store_question_read.specs.declared.words.Listed.{Listed}
use Rattle.store_question_read.specs.declared.words.Listed.TheVariants.{Queries}

module _ (X : Type 0) (F : List X → Result Askeds Fault) (one : X → Result Asked Fault) (none : F [] ≡ Ok no_asked) (step : (x : X) (xs : List X) → F (x ∷ xs) ≡ and_then (one x) (F xs)) where
  next : (xs : List X) (i : ℕ) (x : X) → x ≡ get_or xs i x → i < length xs → F (drop i xs) ≡ and_then (one x) (F (drop (i + 1) xs))
  next xs i x e h = ap F (drop-cons xs i x h ∙ rw (← e, add-one) refl) ∙ step x (drop (i + 1) xs)

  turn : (xs : List X) (i : ℕ) (x : X) (list : List Question) (q : Question) (whole : Result Askeds Fault) → x ≡ get_or xs i x → i < length xs → SoFar list whole (F (drop i xs)) → Gives Asks (Ok q) (one x) → SoFar (list ++ q ∷ []) whole (F (drop (i + 1) xs))
  turn xs i x list q whole e h s g = one_more list q whole (one x) (F (drop (i + 1) xs)) (subst (λ r. SoFar list whole r) (next xs i x e h) s) g

  halt : (xs : List X) (i : ℕ) (x : X) (list : List Question) (error : QueryError) (whole : Result Askeds Fault) → x ≡ get_or xs i x → i < length xs → SoFar list whole (F (drop i xs)) → Fails error (one x) → Fails error whole
  halt xs i x list error whole e h s f = stopped error list whole (one x) (F (drop (i + 1) xs)) (subst (λ r. SoFar list whole r) (next xs i x e h) s) f

  over : (xs : List X) (i : ℕ) (list : Vec Question Global) (whole : Result Askeds Fault) → length xs ≤ i → SoFar list.items whole (F (drop i xs)) → Gives AskEach (Ok list) whole
  over xs i list whole h s = all_read list whole (subst (λ r. SoFar list.items whole r) (ap F (drop_all i xs h) ∙ none) s)

abbrev entry_of : Entry → Result Asked Fault
entry_of e = entry e.0.now (joining_of e.0.now) (items [] e.0.now Queries (value_view e.1)) (condition e.0.now (value_view e.1))

abbrev entries_of : List Entry → Result Askeds Fault
entries_of es = entries (members_view es)

pub entries_turn : (xs : List Entry) (i : ℕ) (x : Entry) (list : List Question) (q : Question) → x ≡ get_or xs i x → i < length xs → SoFar list (entries_of xs) (entries_of (drop i xs)) → Gives Asks (Ok q) (entry_of x) → SoFar (list ++ q ∷ []) (entries_of xs) (entries_of (drop (i + 1) xs))
entries_turn xs i x list q = turn Entry entries_of entry_of refl (λ y ys. refl) xs i x list q (entries_of xs)

pub entries_halt : (xs : List Entry) (i : ℕ) (x : Entry) (list : List Question) (error : QueryError) → x ≡ get_or xs i x → i < length xs → SoFar list (entries_of xs) (entries_of (drop i xs)) → Fails error (entry_of x) → Fails error (entries_of xs)
entries_halt xs i x list error = halt Entry entries_of entry_of refl (λ y ys. refl) xs i x list error (entries_of xs)

pub entries_over : (xs : List Entry) (i : ℕ) (list : Vec Question Global) → length xs ≤ i → SoFar list.items (entries_of xs) (entries_of (drop i xs)) → Gives AskEach (Ok list) (entries_of xs)
entries_over xs i list = over Entry entries_of entry_of refl (λ y ys. refl) xs i list (entries_of xs)

module _ (p : Path) (o : List ℕ) where
  abbrev pub test_of : Entry → Result Asked Fault
  test_of e = test p o e.0.now (operator_of e.0.now) (value_view e.1) (λ l. items p e.0.now l (value_view e.1)) (operators p e.0.now (value_view e.1)) (matching p e.0.now (value_view e.1))

  abbrev tests_of : List Entry → Result Askeds Fault
  tests_of es = tests p o (members_view es)

  pub tests_turn : (xs : List Entry) (i : ℕ) (x : Entry) (list : List Question) (q : Question) → x ≡ get_or xs i x → i < length xs → SoFar list (tests_of xs) (tests_of (drop i xs)) → Gives Asks (Ok q) (test_of x) → SoFar (list ++ q ∷ []) (tests_of xs) (tests_of (drop (i + 1) xs))
  tests_turn xs i x list q = turn Entry tests_of test_of refl (λ y ys. refl) xs i x list q (tests_of xs)

  pub tests_halt : (xs : List Entry) (i : ℕ) (x : Entry) (list : List Question) (error : QueryError) → x ≡ get_or xs i x → i < length xs → SoFar list (tests_of xs) (tests_of (drop i xs)) → Fails error (test_of x) → Fails error (tests_of xs)
  tests_halt xs i x list error = halt Entry tests_of test_of refl (λ y ys. refl) xs i x list error (tests_of xs)

  pub tests_over : (xs : List Entry) (i : ℕ) (list : Vec Question Global) → length xs ≤ i → SoFar list.items (tests_of xs) (tests_of (drop i xs)) → Gives AskEach (Ok list) (tests_of xs)
  tests_over xs i list = over Entry tests_of test_of refl (λ y ys. refl) xs i list (tests_of xs)

module _ (p : Path) (k : List ℕ) (l : Listed) where
  abbrev one_of : Tree Global → Result Asked Fault
  one_of j = listed p k l (value_view j) (query (value_view j)) (match_alone p k (value_view j))

  abbrev each_of : List (Tree Global) → Result Askeds Fault
  each_of js = each p k l (items_view js)

  pub each_turn : (xs : List (Tree Global)) (i : ℕ) (x : Tree Global) (list : List Question) (q : Question) → x ≡ get_or xs i x → i < length xs → SoFar list (each_of xs) (each_of (drop i xs)) → Gives Asks (Ok q) (one_of x) → SoFar (list ++ q ∷ []) (each_of xs) (each_of (drop (i + 1) xs))
  each_turn xs i x list q = turn (Tree Global) each_of one_of refl (λ y ys. refl) xs i x list q (each_of xs)

  pub each_halt : (xs : List (Tree Global)) (i : ℕ) (x : Tree Global) (list : List Question) (error : QueryError) → x ≡ get_or xs i x → i < length xs → SoFar list (each_of xs) (each_of (drop i xs)) → Fails error (one_of x) → Fails error (each_of xs)
  each_halt xs i x list error = halt (Tree Global) each_of one_of refl (λ y ys. refl) xs i x list error (each_of xs)

  pub each_over : (xs : List (Tree Global)) (i : ℕ) (list : Vec Question Global) → length xs ≤ i → SoFar list.items (each_of xs) (each_of (drop i xs)) → Gives AskEach (Ok list) (each_of xs)
  each_over xs i list = over (Tree Global) each_of one_of refl (λ y ys. refl) xs i list (each_of xs)
