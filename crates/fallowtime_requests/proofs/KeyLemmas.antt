-- A command with a key whose options on a line say whether that is one as it is.
use Rattle.std.proofs.Common.{◌≡◌, ℕ, List, [], ◌∷◌, Bool, Bor, Option, Some, None, Result, Ok, Err, IfErr, inl, inr, length, take, get_or, refl, sym, subst}
use Rattle.std.specs.Prelude.{MatchResult}
use Rattle.std.specs.declared.alloc.Global.{Global}
use Rattle.json.specs.Json.{Items, Json}
use Rattle.json.specs.Value.{items_view, value_view}
use Rattle.json.specs.declared.value.Value.{Value as Tree}
use Rattle.fallowtime_requests.specs.Along.{AlongUnless, StopsUnless, literal_in}
use Rattle.fallowtime_requests.specs.Arranging.{AsksKeyed, ReadsLine, StopsKeyed}
use Rattle.fallowtime_requests.specs.Inputs.{trees}
use Rattle.fallowtime_requests.specs.Reading.{KeepsMaker}
use Rattle.fallowtime_requests.specs.Requests.{Asks}
use Rattle.fallowtime_requests.specs.declared.reading.Layout.{Layout}
use Rattle.fallowtime_requests.specs.declared.reading.Question.{Question}
use Rattle.fallowtime_requests.specs.declared.stop.Stop.{Stop}
use Rattle.fallowtime_requests.specs.declared.stop.Stop.TheVariants.{Words, Memory}
use Rattle.cli_convert.specs.declared.made.IdMaker.{IdMaker}
use Rattle.fallowtime_words.specs.declared.command.Command.{Command}
use Rattle.fallowtime_words.specs.declared.command.Command.TheVariants as command

module _ (m n : IdMaker) (c : Command) where
  abbrev pub KeyedBy : Items → Option Json → Result Question Stop → Type 0
  KeyedBy js o r = MatchResult r (λ q. AsksKeyed m n c js o q.collection.now q.request q.layout) (StopsKeyed m n c js o)

  pub keyed_so : (js : Items) (o : Option Json) (q : Question) (literal : Bool) (r : Result Question Stop) → Asks m n c (trees js) q.collection.now q.request q.layout → Some literal ≡ literal_in o
      → MatchResult r (λ x. AlongUnless literal q.request x.request × (x.collection ≡ q.collection) × (x.layout ≡ q.layout)) (StopsUnless literal q.request) → KeyedBy js o r
  keyed_so js o q literal (Ok x) asks is (along, named, laid) = (
    q.request,
    literal,
    subst (λ (b : Bor (List ℕ)). Asks m n c (trees js) b.now q.request x.layout) (sym named) (subst (λ (l : Layout). Asks m n c (trees js) q.collection.now q.request l) (sym laid) asks),
    sym is,
    along,
  )
  keyed_so js o q literal (Err s) asks is stops = inr (inr (q.collection.now, q.request, q.layout, literal, asks, sym is, stops))

-- words that can't be read behind arguments that can leave the maker as it is
pub keeps : (m n : IdMaker) (r : Result Question Stop) → n ≡ m → IfErr r (KeepsMaker m n)
keeps m n (Ok q) same = tt
keeps m n (Err (Words u)) same = same
keeps m n (Err Memory) same = tt

-- ---- by the number of the values

module _ (m n : IdMaker) where
  pub five_values : (xs : List (Tree Global)) (o : Tree Global) (r : Result Question Stop) → length xs ≡ 5 → o ≡ get_or xs 4 o → KeyedBy m n command.Set (items_view (take 4 xs)) (Some (value_view o)) r → ReadsLine m n command.Set (items_view xs) r
  five_values [] o r long is h = absurd cc
  five_values (x ∷ []) o r long is h = absurd cc
  five_values (x ∷ y ∷ []) o r long is h = absurd cc
  five_values (x ∷ y ∷ z ∷ []) o r long is h = absurd cc
  five_values (x ∷ y ∷ z ∷ v ∷ []) o r long is h = absurd cc
  five_values (x ∷ y ∷ z ∷ v ∷ w ∷ []) o (Ok q) long is h = subst (λ t. KeyedBy m n command.Set (items_view (x ∷ y ∷ z ∷ v ∷ [])) (Some (value_view t)) (Ok q)) is h
  five_values (x ∷ y ∷ z ∷ v ∷ w ∷ []) o (Err s) long is h = subst (λ t. KeyedBy m n command.Set (items_view (x ∷ y ∷ z ∷ v ∷ [])) (Some (value_view t)) (Err s)) is h
  five_values (x ∷ y ∷ z ∷ v ∷ w ∷ u ∷ xs) o r long is h = absurd cc

  pub not_five_values : (xs : List (Tree Global)) (r : Result Question Stop) → (length xs ≡ 5 → ⊥) → KeyedBy m n command.Set (items_view xs) None r → ReadsLine m n command.Set (items_view xs) r
  not_five_values [] (Ok q) other h = h
  not_five_values [] (Err s) other h = h
  not_five_values (x ∷ []) (Ok q) other h = h
  not_five_values (x ∷ []) (Err s) other h = h
  not_five_values (x ∷ y ∷ []) (Ok q) other h = h
  not_five_values (x ∷ y ∷ []) (Err s) other h = h
  not_five_values (x ∷ y ∷ z ∷ []) (Ok q) other h = h
  not_five_values (x ∷ y ∷ z ∷ []) (Err s) other h = h
  not_five_values (x ∷ y ∷ z ∷ v ∷ []) (Ok q) other h = h
  not_five_values (x ∷ y ∷ z ∷ v ∷ []) (Err s) other h = h
  not_five_values (x ∷ y ∷ z ∷ v ∷ w ∷ []) r other h = absurd (other refl)
  not_five_values (x ∷ y ∷ z ∷ v ∷ w ∷ u ∷ xs) (Ok q) other h = h
  not_five_values (x ∷ y ∷ z ∷ v ∷ w ∷ u ∷ xs) (Err s) other h = h

  pub four_values : (xs : List (Tree Global)) (o : Tree Global) (r : Result Question Stop) → length xs ≡ 4 → o ≡ get_or xs 3 o → KeyedBy m n command.Unset (items_view (take 3 xs)) (Some (value_view o)) r → ReadsLine m n command.Unset (items_view xs) r
  four_values [] o r long is h = absurd cc
  four_values (x ∷ []) o r long is h = absurd cc
  four_values (x ∷ y ∷ []) o r long is h = absurd cc
  four_values (x ∷ y ∷ z ∷ []) o r long is h = absurd cc
  four_values (x ∷ y ∷ z ∷ w ∷ []) o (Ok q) long is h = subst (λ t. KeyedBy m n command.Unset (items_view (x ∷ y ∷ z ∷ [])) (Some (value_view t)) (Ok q)) is h
  four_values (x ∷ y ∷ z ∷ w ∷ []) o (Err s) long is h = subst (λ t. KeyedBy m n command.Unset (items_view (x ∷ y ∷ z ∷ [])) (Some (value_view t)) (Err s)) is h
  four_values (x ∷ y ∷ z ∷ w ∷ u ∷ xs) o r long is h = absurd cc

  pub not_four_values : (xs : List (Tree Global)) (r : Result Question Stop) → (length xs ≡ 4 → ⊥) → KeyedBy m n command.Unset (items_view xs) None r → ReadsLine m n command.Unset (items_view xs) r
  not_four_values [] (Ok q) other h = h
  not_four_values [] (Err s) other h = h
  not_four_values (x ∷ []) (Ok q) other h = h
  not_four_values (x ∷ []) (Err s) other h = h
  not_four_values (x ∷ y ∷ []) (Ok q) other h = h
  not_four_values (x ∷ y ∷ []) (Err s) other h = h
  not_four_values (x ∷ y ∷ z ∷ []) (Ok q) other h = h
  not_four_values (x ∷ y ∷ z ∷ []) (Err s) other h = h
  not_four_values (x ∷ y ∷ z ∷ w ∷ []) r other h = absurd (other refl)
  not_four_values (x ∷ y ∷ z ∷ w ∷ u ∷ xs) (Ok q) other h = h
  not_four_values (x ∷ y ∷ z ∷ w ∷ u ∷ xs) (Err s) other h = h
