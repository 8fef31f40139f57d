-- What the values of a line ask for, by its command.
use Rattle.std.proofs.Common.{◌≡◌, ◌≢◌, true, false, ℕ, List, [], ◌∷◌, Global, Result, Ok, Err, length, get_or, refl, sym, subst}
use Rattle.json.specs.Json.{Items, Json, item, no_items}
use Rattle.json.specs.Value.{items_view, value_view}
use Rattle.json.specs.declared.value.Value.{Value as Tree}
use Rattle.fallowtime_requests.specs.Arranging.{IsPart, ReadsByOptions, ReadsLine, ReadsSaid, ReadsThree, ReadsTwo, SaysDrops, SaysExisting, with_part}
use Rattle.fallowtime_requests.specs.Inputs.{Given, trees}
use Rattle.fallowtime_requests.specs.Reading.{Reads}
use Rattle.fallowtime_requests.specs.Requests.{Asks, with_drops, with_existing}
use Rattle.fallowtime_requests.specs.declared.reading.Layout.{Layout}
use Rattle.fallowtime_requests.specs.declared.reading.Question.{Question}
use Rattle.fallowtime_requests.specs.declared.request.Request.{Request}
use Rattle.fallowtime_requests.specs.declared.request.Request.TheVariants as request
use Rattle.fallowtime_requests.specs.declared.request.Work.TheVariants as work
use Rattle.fallowtime_requests.specs.declared.stop.Stop.{Stop}
use Rattle.cli_convert.specs.declared.made.IdMaker.{IdMaker}
use Rattle.fallowtime_words.specs.declared.command.Command.{Command}
use Rattle.fallowtime_words.specs.declared.command.Command.TheVariants as command

-- ---- a line, by its command

module _ (m n : IdMaker) (c : Command) (js : Items) where
  pub line_of_find : (r : Result Question Stop) → c ≡ command.Find → ReadsTwo m n command.Find js r → ReadsLine m n c js r
  line_of_find (Ok q) is h = subst (λ k. ReadsLine m n k js (Ok q)) (sym is) h
  line_of_find (Err s) is h = subst (λ k. ReadsLine m n k js (Err s)) (sym is) h

  pub line_of_removal : (r : Result Question Stop) → c ≡ command.FindAndDelete → ReadsTwo m n command.FindAndDelete js r → ReadsLine m n c js r
  line_of_removal (Ok q) is h = subst (λ k. ReadsLine m n k js (Ok q)) (sym is) h
  line_of_removal (Err s) is h = subst (λ k. ReadsLine m n k js (Err s)) (sym is) h

  pub line_of_found_update : (r : Result Question Stop) → c ≡ command.FindAndUpdate → ReadsThree m n command.FindAndUpdate js r → ReadsLine m n c js r
  line_of_found_update (Ok q) is h = subst (λ k. ReadsLine m n k js (Ok q)) (sym is) h
  line_of_found_update (Err s) is h = subst (λ k. ReadsLine m n k js (Err s)) (sym is) h

  pub line_of_found_replacement : (r : Result Question Stop) → c ≡ command.FindAndReplace → ReadsThree m n command.FindAndReplace js r → ReadsLine m n c js r
  line_of_found_replacement (Ok q) is h = subst (λ k. ReadsLine m n k js (Ok q)) (sym is) h
  line_of_found_replacement (Err s) is h = subst (λ k. ReadsLine m n k js (Err s)) (sym is) h

  pub line_of_update : (r : Result Question Stop) → c ≡ command.Update → ReadsByOptions true m n command.Update js r → ReadsLine m n c js r
  line_of_update (Ok q) is h = subst (λ k. ReadsLine m n k js (Ok q)) (sym is) h
  line_of_update (Err s) is h = subst (λ k. ReadsLine m n k js (Err s)) (sym is) h

  pub line_of_replacement : (r : Result Question Stop) → c ≡ command.ReplaceOne → ReadsByOptions false m n command.ReplaceOne js r → ReadsLine m n c js r
  line_of_replacement (Ok q) is h = subst (λ k. ReadsLine m n k js (Ok q)) (sym is) h
  line_of_replacement (Err s) is h = subst (λ k. ReadsLine m n k js (Err s)) (sym is) h

  -- what is said of a command by itself
  pub line_of : (k : Command) (r : Result Question Stop) → c ≡ k → ReadsLine m n k js r → ReadsLine m n c js r
  line_of k r is h = subst (λ k. ReadsLine m n k js r) (sym is) h

-- a command whose options are none of a line
module _ (m n : IdMaker) (js : Items) where
  other_asks : (c : Command) (q : Question) → c ≢ command.Find → c ≢ command.FindAndUpdate → c ≢ command.FindAndReplace → c ≢ command.FindAndDelete → c ≢ command.Update → c ≢ command.ReplaceOne → c ≢ command.Distinct → c ≢ command.Set → c ≢ command.Unset → c ≢ command.Count → c ≢ command.Rename → c ≢ command.Import
      → Reads m n c (trees js) (Ok q) → ReadsLine m n c js (Ok q)
  other_asks command.Find q a b d e f g i j k u v w h = absurd (a refl)
  other_asks command.FindAndUpdate q a b d e f g i j k u v w h = absurd (b refl)
  other_asks command.FindAndReplace q a b d e f g i j k u v w h = absurd (d refl)
  other_asks command.FindAndDelete q a b d e f g i j k u v w h = absurd (e refl)
  other_asks command.Update q a b d e f g i j k u v w h = absurd (f refl)
  other_asks command.ReplaceOne q a b d e f g i j k u v w h = absurd (g refl)
  other_asks command.Distinct q a b d e f g i j k u v w h = absurd (i refl)
  other_asks command.Set q a b d e f g i j k u v w h = absurd (j refl)
  other_asks command.Unset q a b d e f g i j k u v w h = absurd (k refl)
  other_asks command.Count q a b d e f g i j k u v w h = absurd (u refl)
  other_asks command.Rename q a b d e f g i j k u v w h = absurd (v refl)
  other_asks command.Import q a b d e f g i j k u v w h = absurd (w refl)
  other_asks c q a b d e f g i j k u v w h = h

  other_stops : (c : Command) (s : Stop) → c ≢ command.Find → c ≢ command.FindAndUpdate → c ≢ command.FindAndReplace → c ≢ command.FindAndDelete → c ≢ command.Update → c ≢ command.ReplaceOne → c ≢ command.Distinct → c ≢ command.Set → c ≢ command.Unset → c ≢ command.Count → c ≢ command.Rename → c ≢ command.Import
      → Reads m n c (trees js) (Err s) → ReadsLine m n c js (Err s)
  other_stops command.Find s a b d e f g i j k u v w h = absurd (a refl)
  other_stops command.FindAndUpdate s a b d e f g i j k u v w h = absurd (b refl)
  other_stops command.FindAndReplace s a b d e f g i j k u v w h = absurd (d refl)
  other_stops command.FindAndDelete s a b d e f g i j k u v w h = absurd (e refl)
  other_stops command.Update s a b d e f g i j k u v w h = absurd (f refl)
  other_stops command.ReplaceOne s a b d e f g i j k u v w h = absurd (g refl)
  other_stops command.Distinct s a b d e f g i j k u v w h = absurd (i refl)
  other_stops command.Set s a b d e f g i j k u v w h = absurd (j refl)
  other_stops command.Unset s a b d e f g i j k u v w h = absurd (k refl)
  other_stops command.Count s a b d e f g i j k u v w h = absurd (u refl)
  other_stops command.Rename s a b d e f g i j k u v w h = absurd (v refl)
  other_stops command.Import s a b d e f g i j k u v w h = absurd (w refl)
  other_stops c s a b d e f g i j k u v w h = h

  pub line_of_other : (c : Command) (r : Result Question Stop) → c ≢ command.Find → c ≢ command.FindAndUpdate → c ≢ command.FindAndReplace → c ≢ command.FindAndDelete → c ≢ command.Update → c ≢ command.ReplaceOne
      → c ≢ command.Distinct → c ≢ command.Set → c ≢ command.Unset → c ≢ command.Count → c ≢ command.Rename → c ≢ command.Import → Reads m n c (trees js) r → ReadsLine m n c js r
  line_of_other c (Ok q) a b d e f g i j k u v w h = other_asks c q a b d e f g i j k u v w h
  line_of_other c (Err s) a b d e f g i j k u v w h = other_stops c s a b d e f g i j k u v w h

-- ---- a command whose options are a third value

abbrev pub three : Json → Json → Json → Items
three a b o = item a (item b (item o no_items))

pub three_there : (P : Items → Type 0) (xs : List (Tree Global)) (a b o : Tree Global) → length xs ≡ 3 → a ≡ get_or xs 0 a → b ≡ get_or xs 1 b → o ≡ get_or xs 2 o → P (three (value_view a) (value_view b) (value_view o)) → P (items_view xs)
three_there P [] a b o long first second third h = absurd cc
three_there P (x ∷ []) a b o long first second third h = absurd cc
three_there P (x ∷ y ∷ []) a b o long first second third h = absurd cc
three_there P (x ∷ y ∷ z ∷ []) a b o long first second third h =
    subst (λ v. P (three (value_view x) (value_view y) (value_view v))) third (subst (λ v. P (three (value_view x) (value_view v) (value_view o))) second (subst (λ v. P (three (value_view v) (value_view b) (value_view o))) first h))
three_there P (x ∷ y ∷ z ∷ w ∷ xs) a b o long first second third h = absurd cc

-- what holds of every other number of values
pub unless_three : (P Q : Items → Type 0) → (Q no_items → P no_items) → ((a : Json) → Q (item a no_items) → P (item a no_items)) → ((a b : Json) → Q (item a (item b no_items)) → P (item a (item b no_items)))
    → ((a b c d : Json) (js : Items) → Q (item a (item b (item c (item d js)))) → P (item a (item b (item c (item d js))))) → (xs : List (Tree Global)) → (length xs ≡ 3 → ⊥) → Q (items_view xs) → P (items_view xs)
unless_three P Q none one two more [] other h = none h
unless_three P Q none one two more (x ∷ []) other h = one (value_view x) h
unless_three P Q none one two more (x ∷ y ∷ []) other h = two (value_view x) (value_view y) h
unless_three P Q none one two more (x ∷ y ∷ z ∷ []) other h = absurd (other refl)
unless_three P Q none one two more (x ∷ y ∷ z ∷ w ∷ xs) other h = more (value_view x) (value_view y) (value_view z) (value_view w) (items_view xs) h

module _ (m n : IdMaker) where
  pub line_of_part : (a b o : Json) (r : Result Question Stop) → ReadsSaid IsPart with_part m n command.Count (item a (item b no_items)) o r → ReadsLine m n command.Count (three a b o) r
  line_of_part a b o (Ok q) h = h
  line_of_part a b o (Err s) h = h

  pub line_of_count : (xs : List (Tree Global)) (r : Result Question Stop) → (length xs ≡ 3 → ⊥) → Reads m n command.Count (trees (items_view xs)) r → ReadsLine m n command.Count (items_view xs) r
  line_of_count xs (Ok q) = unless_three (λ js. ReadsLine m n command.Count js (Ok q)) (λ js. Reads m n command.Count (trees js) (Ok q)) (λ h. h) (λ a h. h) (λ a b h. h) (λ a b c d js h. h) xs
  line_of_count xs (Err s) = unless_three (λ js. ReadsLine m n command.Count js (Err s)) (λ js. Reads m n command.Count (trees js) (Err s)) (λ h. h) (λ a h. h) (λ a b h. h) (λ a b c d js h. h) xs

  pub line_of_drops : (a b o : Json) (r : Result Question Stop) → ReadsSaid SaysDrops with_drops m n command.Rename (item a (item b no_items)) o r → ReadsLine m n command.Rename (three a b o) r
  line_of_drops a b o (Ok q) h = h
  line_of_drops a b o (Err s) h = h

  pub line_of_rename : (xs : List (Tree Global)) (r : Result Question Stop) → (length xs ≡ 3 → ⊥) → Reads m n command.Rename (trees (items_view xs)) r → ReadsLine m n command.Rename (items_view xs) r
  line_of_rename xs (Ok q) = unless_three (λ js. ReadsLine m n command.Rename js (Ok q)) (λ js. Reads m n command.Rename (trees js) (Ok q)) (λ h. h) (λ a h. h) (λ a b h. h) (λ a b c d js h. h) xs
  line_of_rename xs (Err s) = unless_three (λ js. ReadsLine m n command.Rename js (Err s)) (λ js. Reads m n command.Rename (trees js) (Err s)) (λ h. h) (λ a h. h) (λ a b h. h) (λ a b c d js h. h) xs

  pub line_of_existing : (a b o : Json) (r : Result Question Stop) → ReadsSaid SaysExisting with_existing m n command.Import (item a (item b no_items)) o r → ReadsLine m n command.Import (three a b o) r
  line_of_existing a b o (Ok q) h = h
  line_of_existing a b o (Err s) h = h

  pub line_of_import : (xs : List (Tree Global)) (r : Result Question Stop) → (length xs ≡ 3 → ⊥) → Reads m n command.Import (trees (items_view xs)) r → ReadsLine m n command.Import (items_view xs) r
  line_of_import xs (Ok q) = unless_three (λ js. ReadsLine m n command.Import js (Ok q)) (λ js. Reads m n command.Import (trees js) (Ok q)) (λ h. h) (λ a h. h) (λ a b h. h) (λ a b c d js h. h) xs
  line_of_import xs (Err s) = unless_three (λ js. ReadsLine m n command.Import js (Err s)) (λ js. Reads m n command.Import (trees js) (Err s)) (λ h. h) (λ a h. h) (λ a b h. h) (λ a b c d js h. h) xs

-- changes by query take no id of the maker
pub by_change : (m n : IdMaker) (gs : List Given) (name : List ℕ) (r : Request) (l : Layout) → Asks m n command.Update gs name r l → n ≡ m
by_change m n gs name (request.Change q (work.Update steps) many) l h = h.1
by_change m n gs name _ l h = absurd h

pub by_exchange : (m n : IdMaker) (gs : List Given) (name : List ℕ) (r : Request) (l : Layout) → Asks m n command.ReplaceOne gs name r l → n ≡ m
by_exchange m n gs name (request.Change q (work.Replace d) many) l h = h.2
by_exchange m n gs name _ l h = absurd h

-- nor do those with a key
pub by_set : (m n : IdMaker) (gs : List Given) (name : List ℕ) (r : Request) (l : Layout) → Asks m n command.Set gs name r l → n ≡ m
by_set m n gs name (request.Set id key v) l h = h.1
by_set m n gs name _ l h = absurd h

pub by_unset : (m n : IdMaker) (gs : List Given) (name : List ℕ) (r : Request) (l : Layout) → Asks m n command.Unset gs name r l → n ≡ m
by_unset m n gs name (request.Unset id key) l h = h.1
by_unset m n gs name _ l h = absurd h
