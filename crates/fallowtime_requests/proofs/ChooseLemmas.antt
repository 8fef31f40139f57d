-- A change by query whose options on a line say whether a document is put in if none answers.
use Rattle.std.proofs.Common.{◌≡◌, ◌∙◌, ◌≤◌, ◌<◌, ℕ, List, [], ◌∷◌, Bool, true, false, Bor, Option, Some, None, Result, Ok, Err, IfErr, inr, length, take, get_or, codes, refl, sym, ap, subst, arith}
use Rattle.std.specs.Prelude.{MatchResult, option_and_then, option_map}
use Rattle.std.specs.Str.{bytes_eq}
use Rattle.std.specs.declared.alloc.Global.{Global}
use Rattle.json.specs.Json.{Items, Json}
use Rattle.json.specs.Value.{items_view, members_view, value_view}
use Rattle.json.specs.declared.value.Value.{Value as Tree}
use Rattle.fallowtime_requests.specs.Arranging.{AsksChange, Either, ReadsByOptions, StopsChange, TakesNoId}
use Rattle.fallowtime_requests.specs.Inputs.{boolean_of, tree, trees}
use Rattle.fallowtime_requests.specs.Reading.{KeepsMaker, Reads}
use Rattle.fallowtime_requests.specs.Requests.{Asks, with_many}
use Rattle.fallowtime_requests.specs.Upserts.{IsByQuery, StopsFixed, UpsertingIf, choice_among, choice_of, chosen, names_upsert, no_choice}
use Rattle.fallowtime_requests.specs.declared.choosing.Choice.{Choice}
use Rattle.fallowtime_requests.specs.declared.reading.Layout.{Layout}
use Rattle.fallowtime_requests.specs.declared.reading.Question.{Question}
use Rattle.fallowtime_requests.specs.declared.request.Request.{Request}
use Rattle.fallowtime_requests.specs.declared.request.Request.TheVariants as request
use Rattle.fallowtime_requests.specs.declared.request.Work.TheVariants as work
use Rattle.fallowtime_requests.specs.declared.stop.Stop.{Stop}
use Rattle.fallowtime_requests.specs.declared.stop.Stop.TheVariants.{Words, Memory}
use Rattle.cli_convert.specs.declared.made.IdMaker.{IdMaker}
use Rattle.fallowtime_words.specs.declared.command.Command.{Command}
use Rattle.fallowtime_words.specs.declared.command.Command.TheVariants as command
use Rattle.fallowtime_requests.proofs.OptionLemmas.{Entry}

-- ---- one option

abbrev with_upsert : Choice → Bool → Choice
with_upsert c is = record { many = c.many; upsert = is }

abbrev of_all : Choice → Bool → Choice
of_all c is = record { many = is; upsert = c.upsert }

module _ (several : Bool) (c : Choice) (k : List ℕ) (j : Json) where
  pub of_upsert : (o : Option Bool) → bytes_eq k (codes "upsert") ≡ true → o ≡ boolean_of j → option_map (with_upsert c) o ≡ chosen several c k j
  of_upsert o named is = rw named (ap (option_map (with_upsert c)) is)

  pub of_many : (o : Option Bool) → bytes_eq k (codes "upsert") ≡ false → several ≡ true → bytes_eq k (codes "many") ≡ true → o ≡ boolean_of j → option_map (of_all c) o ≡ chosen several c k j
  of_many o other many named is = rw (other, many, named) (ap (option_map (of_all c)) is)

  pub of_one : bytes_eq k (codes "upsert") ≡ false → several ≡ false → None ≡ chosen several c k j
  of_one other one = rw (other, one) refl

  pub of_none : bytes_eq k (codes "upsert") ≡ false → bytes_eq k (codes "many") ≡ false → None ≡ chosen several c k j
  of_none other none = by several
    where
      by : (b : Bool) → None ≡ chosen b c k j
      by true = rw (other, none) refl
      by false = rw other refl

-- ---- one or two options

module _ (several : Bool) (c : Choice) (none_yet : c ≡ no_choice) where
  pub one_chosen : (ms : List Entry) (d e : Entry) (r : Option Choice) → 1 ≤ length ms → length ms < 2 → r ≡ chosen several c (get_or ms 0 d).0.now (value_view (get_or ms 0 e).1) → r ≡ choice_among several (members_view ms)
  one_chosen [] d e r one few h = absurd (omega (arith, one))
  one_chosen (m ∷ []) d e r one few h = h ∙ ap (λ x. chosen several x m.0.now (value_view m.1)) none_yet
  one_chosen (m ∷ n ∷ ms) d e r one few h = absurd (omega (arith, few))

  pub two_chosen : (ms : List Entry) (d e f g : Entry) (by : Choice) (r : Option Choice) → 2 ≤ length ms → length ms < 3 → Some by ≡ chosen several c (get_or ms 0 d).0.now (value_view (get_or ms 0 e).1)
      → r ≡ chosen several by (get_or ms 1 f).0.now (value_view (get_or ms 1 g).1) → r ≡ choice_among several (members_view ms)
  two_chosen [] d e f g by r two few first h = absurd (omega (arith, two))
  two_chosen (m ∷ []) d e f g by r two few first h = absurd (omega (arith, two))
  two_chosen (m ∷ n ∷ []) d e f g by r two few first h = h ∙ ap (option_and_then (λ x. chosen several x n.0.now (value_view n.1))) (first ∙ ap (λ x. chosen several x m.0.now (value_view m.1)) none_yet)
  two_chosen (m ∷ n ∷ o ∷ ms) d e f g by r two few first h = absurd (omega (arith, few))

  pub first_unchosen : (ms : List Entry) (d e : Entry) → 2 ≤ length ms → length ms < 3 → None ≡ chosen several c (get_or ms 0 d).0.now (value_view (get_or ms 0 e).1) → None ≡ choice_among several (members_view ms)
  first_unchosen [] d e two few first = absurd (omega (arith, two))
  first_unchosen (m ∷ []) d e two few first = absurd (omega (arith, two))
  first_unchosen (m ∷ n ∷ []) d e two few first = ap (option_and_then (λ x. chosen several x n.0.now (value_view n.1))) (first ∙ ap (λ x. chosen several x m.0.now (value_view m.1)) none_yet)
  first_unchosen (m ∷ n ∷ o ∷ ms) d e two few first = absurd (omega (arith, few))

-- no options, or too many
pub no_one_or_two : (several : Bool) (ms : List Entry) → (length ms ≡ 1 → ⊥) → (length ms ≡ 2 → ⊥) → None ≡ choice_among several (members_view ms)
no_one_or_two several [] one two = refl
no_one_or_two several (m ∷ []) one two = absurd (one refl)
no_one_or_two several (m ∷ n ∷ []) one two = absurd (two refl)
no_one_or_two several (m ∷ n ∷ o ∷ ms) one two = refl

-- ---- commands that take no id of the maker

pub update_takes_none : TakesNoId command.Update
update_takes_none m n gs name (request.Change q (work.Update steps) many) l h = h.1
update_takes_none m n gs name (request.Change q (work.Replace d) many) l h = absurd h
update_takes_none m n gs name (request.Change q work.Remove many) l h = absurd h
update_takes_none m n gs name _ l h = absurd h

pub replace_takes_none : TakesNoId command.ReplaceOne
replace_takes_none m n gs name (request.Change q (work.Update steps) many) l h = absurd h
replace_takes_none m n gs name (request.Change q (work.Replace d) many) l h = h.2
replace_takes_none m n gs name (request.Change q work.Remove many) l h = absurd h
replace_takes_none m n gs name _ l h = absurd h

pub kept : (m mid n : IdMaker) (r : Result Question Stop) → mid ≡ m → IfErr r (KeepsMaker mid n) → IfErr r (KeepsMaker m n)
kept m mid n (Ok q) same keeps = keeps
kept m mid n (Err (Words u)) same keeps = keeps ∙ same
kept m mid n (Err Memory) same keeps = tt

-- ---- one of two

left : (b : Bool) (P Q : Type 0) → true ≡ b → P → Either b P Q
left true P Q is h = h
left false P Q is h = absurd cc

right : (b : Bool) (P Q : Type 0) → false ≡ b → Q → Either b P Q
right true P Q is h = absurd cc
right false P Q is h = h

module _ (several : Bool) (m n : IdMaker) (c : Command) where
  abbrev pub Chooses : Items → Json → Json → Result Question Stop → Type 0
  Chooses js q o r = MatchResult r (λ p. AsksChange several m n c js q o p.collection.now p.request p.layout) (StopsChange several m n c js q o)

  -- what was read, with what the options say
  pub chosen_so : (mid : IdMaker) (js : Items) (q o : Json) (was p : Question) (by : Choice) (r : Result Question Stop) → Asks m mid c (trees js) was.collection.now was.request was.layout → Some by ≡ choice_of several o
      → p.request ≡ with_many by.many was.request → p.collection ≡ was.collection → p.layout ≡ was.layout
      → MatchResult r (λ z. UpsertingIf by.upsert mid n (tree q) p.request z.request × (z.collection ≡ p.collection) × (z.layout ≡ p.layout)) (λ s. IsByQuery p.request × StopsFixed (tree q) s) → Chooses js q o r
  chosen_so mid js q o was p by (Ok z) asks is meant named laid (upserts, same, so) =
      let of_name : Asks m mid c (trees js) z.collection.now was.request was.layout = subst (λ (b : Bor (List ℕ)). Asks m mid c (trees js) b.now was.request was.layout) (sym (same ∙ named)) asks in
      let of_layout : Asks m mid c (trees js) z.collection.now was.request z.layout = subst (λ (l : Layout). Asks m mid c (trees js) z.collection.now was.request l) (sym (so ∙ laid)) of_name in
      (mid, was.request, by, of_layout, sym is, subst (λ (x : Request). UpsertingIf by.upsert mid n (tree q) x z.request) meant upserts)
  chosen_so mid js q o was p by (Err s) asks is meant named laid stops = inr (inr stops.1)

  -- ---- the values of a line

  pub four_values : (xs : List (Tree Global)) (q o : Tree Global) (r : Result Question Stop) → length xs ≡ 4 → q ≡ get_or xs 1 q → o ≡ get_or xs 3 o → true ≡ names_upsert (value_view o) → Chooses (items_view (take 3 xs)) (value_view q) (value_view o) r
      → ReadsByOptions several m n c (items_view xs) r
  four_values [] q o r long is was names h = absurd cc
  four_values (x ∷ []) q o r long is was names h = absurd cc
  four_values (x ∷ y ∷ []) q o r long is was names h = absurd cc
  four_values (x ∷ y ∷ z ∷ []) q o r long is was names h = absurd cc
  four_values (x ∷ y ∷ z ∷ w ∷ []) q o (Ok p) long is was names h =
      let js = items_view (x ∷ y ∷ z ∷ []) in
      let of_query : Chooses js (value_view y) (value_view o) (Ok p) = subst (λ v. Chooses js (value_view v) (value_view o) (Ok p)) is h in
      left (names_upsert (value_view w)) _ _ (subst (λ v. true ≡ names_upsert (value_view v)) was names) (subst (λ v. Chooses js (value_view y) (value_view v) (Ok p)) was of_query)
  four_values (x ∷ y ∷ z ∷ w ∷ []) q o (Err s) long is was names h =
      let js = items_view (x ∷ y ∷ z ∷ []) in
      let of_query : Chooses js (value_view y) (value_view o) (Err s) = subst (λ v. Chooses js (value_view v) (value_view o) (Err s)) is h in
      left (names_upsert (value_view w)) _ _ (subst (λ v. true ≡ names_upsert (value_view v)) was names) (subst (λ v. Chooses js (value_view y) (value_view v) (Err s)) was of_query)
  four_values (x ∷ y ∷ z ∷ w ∷ v ∷ xs) q o r long is was names h = absurd cc

  pub four_others : (xs : List (Tree Global)) (o : Tree Global) (r : Result Question Stop) → length xs ≡ 4 → o ≡ get_or xs 3 o → false ≡ names_upsert (value_view o) → Reads m n c (trees (items_view xs)) r → ReadsByOptions several m n c (items_view xs) r
  four_others [] o r long was names h = absurd cc
  four_others (x ∷ []) o r long was names h = absurd cc
  four_others (x ∷ y ∷ []) o r long was names h = absurd cc
  four_others (x ∷ y ∷ z ∷ []) o r long was names h = absurd cc
  four_others (x ∷ y ∷ z ∷ w ∷ []) o (Ok p) long was names h = right (names_upsert (value_view w)) _ _ (subst (λ v. false ≡ names_upsert (value_view v)) was names) h
  four_others (x ∷ y ∷ z ∷ w ∷ []) o (Err s) long was names h = right (names_upsert (value_view w)) _ _ (subst (λ v. false ≡ names_upsert (value_view v)) was names) h
  four_others (x ∷ y ∷ z ∷ w ∷ v ∷ xs) o r long was names h = absurd cc

  pub no_four : (xs : List (Tree Global)) (r : Result Question Stop) → (length xs ≡ 4 → ⊥) → Reads m n c (trees (items_view xs)) r → ReadsByOptions several m n c (items_view xs) r
  no_four [] (Ok p) other h = h
  no_four [] (Err s) other h = h
  no_four (x ∷ []) (Ok p) other h = h
  no_four (x ∷ []) (Err s) other h = h
  no_four (x ∷ y ∷ []) (Ok p) other h = h
  no_four (x ∷ y ∷ []) (Err s) other h = h
  no_four (x ∷ y ∷ z ∷ []) (Ok p) other h = h
  no_four (x ∷ y ∷ z ∷ []) (Err s) other h = h
  no_four (x ∷ y ∷ z ∷ w ∷ []) r other h = absurd (other refl)
  no_four (x ∷ y ∷ z ∷ w ∷ v ∷ xs) (Ok p) other h = h
  no_four (x ∷ y ∷ z ∷ w ∷ v ∷ xs) (Err s) other h = h
