-- What an object of options asks of an order, one after the other.
use Rattle.std.proofs.Common.{◌≡◌, Bool, ◌⊎◌, ◌<◌, ◌↔◌, ℕ, zero, suc, List, [], ◌∷◌, None, Some, Result, Ok, Err, inl, inr, take, length, drop, get_or, slice_index, refl, sym, ap, ◌∙◌, subst, arith}
use Rattle.std.specs.Prelude.{MatchResult}
use Rattle.std.specs.declared.alloc.Global.{Global}
use Rattle.json.specs.Json.{Items, Json, Members, member}
use Rattle.json.specs.Json as json
use Rattle.json.specs.Value.{items_view, members_view, value_view}
use Rattle.json.specs.declared.value.Value.{Value as Tree}
use Rattle.fallowtime_requests.specs.Arranging.{AsksCounted, AsksWanted, FindsDocuments, Plan, PutsOption, PutsOptions, ReadsLine, ReadsThree, ReadsTwo, StopsOptions, StopsWith, counts_of, plan_of, whole}
use Rattle.fallowtime_requests.specs.Orders.{IsCount}
use Rattle.fallowtime_requests.specs.Fields.{left_by, left_where}
use Rattle.fallowtime_requests.specs.Inputs.{Given, trees}
use Rattle.fallowtime_requests.specs.Reading.{Reads}
use Rattle.fallowtime_requests.specs.Requests.{Asks, WantsAll}
use Rattle.fallowtime_requests.specs.declared.reading.Layout.{Layout}
use Rattle.fallowtime_requests.specs.declared.reading.Question.{Question}
use Rattle.fallowtime_requests.specs.declared.request.Request.{Request}
use Rattle.fallowtime_requests.specs.declared.request.Request.TheVariants as request
use Rattle.fallowtime_requests.specs.declared.request.Wanted.{Wanted}
use Rattle.fallowtime_requests.specs.declared.request.Work.TheVariants as work
use Rattle.fallowtime_requests.specs.declared.stop.Stop.{Stop}
use Rattle.cli_convert.specs.declared.made.IdMaker.{IdMaker}
use Rattle.fallowtime_words.specs.declared.command.Command.{Command}
use Rattle.fallowtime_words.specs.declared.command.Command.TheVariants as command
use Rattle.fallowtime_requests.proofs.OptionLemmas.{Entry}

pub one_count : (j : Json) (n m : ℕ) → IsCount j n → IsCount j m → n ≡ m
one_count (json.number t) n m e g = sym e.1 ∙ g.1
one_count json.null n m e g = absurd e
one_count (json.boolean b) n m e g = absurd e
one_count (json.string t) n m e g = absurd e
one_count (json.array js) n m e g = absurd e
one_count (json.object ms) n m e g = absurd e

-- an option asks for one thing
one_option : (changes : Bool) (p : Plan) (name : List ℕ) (j : Json) (a b : Plan) → PutsOption changes p name j a → PutsOption changes p name j b → a ≡ b
one_option changes p name j a b (inl (is, (ks, e, f))) (inl (also, (ls, g, h))) = let same : ks ≡ ls = cc in f ∙ (ap (λ k. record p { keys = k }) same ∙ sym h)
one_option changes p name j a b (inl (is, first)) (inr (inl (also, second))) = let e : 111 ≡ 107 = ap (λ w. slice_index w 1) (sym is ∙ also) in absurd (omega (arith, e))
one_option changes p name j a b (inl (is, first)) (inr (inr (inl (also, second)))) = let e : 115 ≡ 108 = ap (λ w. slice_index w 0) (sym is ∙ also) in absurd (omega (arith, e))
one_option changes p name j a b (inl (is, first)) (inr (inr (inr (inl (also, second))))) = let e : 115 ≡ 102 = ap (λ w. slice_index w 0) (sym is ∙ also) in absurd (omega (arith, e))
one_option changes p name j a b (inl (is, first)) (inr (inr (inr (inr (also, second))))) = let e : 115 ≡ 97 = ap (λ w. slice_index w 0) (sym is ∙ also) in absurd (omega (arith, e))
one_option changes p name j a b (inr (inl (is, first))) (inl (also, second)) = let e : 107 ≡ 111 = ap (λ w. slice_index w 1) (sym is ∙ also) in absurd (omega (arith, e))
one_option changes p name j a b (inr (inl (is, (n, e, f)))) (inr (inl (also, (m, g, h)))) = let same : n ≡ m = one_count j n m e g in f ∙ (ap (λ k. record p { skip = k }) same ∙ sym h)
one_option changes p name j a b (inr (inl (is, first))) (inr (inr (inl (also, second)))) = let e : 115 ≡ 108 = ap (λ w. slice_index w 0) (sym is ∙ also) in absurd (omega (arith, e))
one_option changes p name j a b (inr (inl (is, first))) (inr (inr (inr (inl (also, second))))) = let e : 115 ≡ 102 = ap (λ w. slice_index w 0) (sym is ∙ also) in absurd (omega (arith, e))
one_option changes p name j a b (inr (inl (is, first))) (inr (inr (inr (inr (also, second))))) = let e : 115 ≡ 97 = ap (λ w. slice_index w 0) (sym is ∙ also) in absurd (omega (arith, e))
one_option changes p name j a b (inr (inr (inl (is, first)))) (inl (also, second)) = let e : 108 ≡ 115 = ap (λ w. slice_index w 0) (sym is ∙ also) in absurd (omega (arith, e))
one_option changes p name j a b (inr (inr (inl (is, first)))) (inr (inl (also, second))) = let e : 108 ≡ 115 = ap (λ w. slice_index w 0) (sym is ∙ also) in absurd (omega (arith, e))
one_option changes p name j a b (inr (inr (inl (is, (n, e, f))))) (inr (inr (inl (also, (m, g, h))))) = let same : n ≡ m = one_count j n m e g in f ∙ (ap (λ k. record p { limit = Some k }) same ∙ sym h)
one_option changes p name j a b (inr (inr (inl (is, first)))) (inr (inr (inr (inl (also, second))))) = let e : 108 ≡ 102 = ap (λ w. slice_index w 0) (sym is ∙ also) in absurd (omega (arith, e))
one_option changes p name j a b (inr (inr (inl (is, first)))) (inr (inr (inr (inr (also, second))))) = let e : 108 ≡ 97 = ap (λ w. slice_index w 0) (sym is ∙ also) in absurd (omega (arith, e))
one_option changes p name j a b (inr (inr (inr (inl (is, first))))) (inl (also, second)) = let e : 102 ≡ 115 = ap (λ w. slice_index w 0) (sym is ∙ also) in absurd (omega (arith, e))
one_option changes p name j a b (inr (inr (inr (inl (is, first))))) (inr (inl (also, second))) = let e : 102 ≡ 115 = ap (λ w. slice_index w 0) (sym is ∙ also) in absurd (omega (arith, e))
one_option changes p name j a b (inr (inr (inr (inl (is, first))))) (inr (inr (inl (also, second)))) = let e : 102 ≡ 108 = ap (λ w. slice_index w 0) (sym is ∙ also) in absurd (omega (arith, e))
one_option changes p name j a b (inr (inr (inr (inl (is, (m, e, can, f)))))) (inr (inr (inr (inl (also, (n, g, may, h)))))) = let same : m ≡ n = cc in f ∙ (ap (λ k. record p { left = λ d. left_where k.kept k.left_out d }) same ∙ sym h)
one_option changes p name j a b (inr (inr (inr (inl (is, first))))) (inr (inr (inr (inr (also, second))))) = let e : 102 ≡ 97 = ap (λ w. slice_index w 0) (sym is ∙ also) in absurd (omega (arith, e))
one_option changes p name j a b (inr (inr (inr (inr (is, first))))) (inl (also, second)) = let e : 97 ≡ 115 = ap (λ w. slice_index w 0) (sym is ∙ also) in absurd (omega (arith, e))
one_option changes p name j a b (inr (inr (inr (inr (is, first))))) (inr (inl (also, second))) = let e : 97 ≡ 115 = ap (λ w. slice_index w 0) (sym is ∙ also) in absurd (omega (arith, e))
one_option changes p name j a b (inr (inr (inr (inr (is, first))))) (inr (inr (inl (also, second)))) = let e : 97 ≡ 108 = ap (λ w. slice_index w 0) (sym is ∙ also) in absurd (omega (arith, e))
one_option changes p name j a b (inr (inr (inr (inr (is, first))))) (inr (inr (inr (inl (also, second))))) = let e : 97 ≡ 102 = ap (λ w. slice_index w 0) (sym is ∙ also) in absurd (omega (arith, e))
one_option changes p name j a b (inr (inr (inr (inr (is, (x, e, f)))))) (inr (inr (inr (inr (also, (y, g, h)))))) = let same : x ≡ y = cc in f ∙ (ap (λ k. record p { after = k }) same ∙ sym h)

pub plan_of_all : (w : Wanted) → WantsAll w → plan_of w ≡ whole
plan_of_all w (keys, skip, limit, fields, after) = λ i. record { keys = keys i; skip = skip i; limit = limit i; left = λ d. left_by (fields i) d; after = after i }

pub next_option : (changes : Bool) (p new q : Plan) (name : List ℕ) (j : Json) (rest : Members) → PutsOption changes p name j new → PutsOptions changes p (member name j rest) q ↔ PutsOptions changes new rest q
next_option changes p new q name j rest put = (λ h. subst (λ m. PutsOptions changes m rest q) (one_option changes p name j h.0 new h.1 put) h.2, λ h. (new, put, h))

-- the member at a place comes first of what is left there
pub seen_next : (ms : List Entry) (i : ℕ) (x : Entry) → i < length ms → x ≡ get_or ms i x → members_view (drop i ms) ≡ member x.0.now (value_view x.1) (members_view (drop (suc i) ms))
seen_next [] i x low is = absurd (omega (arith, low))
seen_next (y ∷ ms) zero x low is = ap (λ (e : Entry). member e.0.now (value_view e.1) (members_view ms)) (sym is)
seen_next (y ∷ ms) (suc i) x low is = seen_next ms i x (omega (arith, low)) is

-- where no option is, none of the whole object is
pub no_plan : (changes : Bool) (ms : List Entry) (i : ℕ) (x : Entry) (p : Plan) → i < length ms → x ≡ get_or ms i x
    → ((q : Plan) → PutsOptions changes whole (members_view ms) q ↔ PutsOptions changes p (members_view (drop i ms)) q)
    → ((q : Plan) → PutsOption changes p x.0.now (value_view x.1) q → ⊥) → (q : Plan) → PutsOptions changes whole (members_view ms) q → ⊥
no_plan changes ms i x p low is invariant none q h =
    let rest : PutsOptions changes p (member x.0.now (value_view x.1) (members_view (drop (suc i) ms))) q = subst (λ m. PutsOptions changes p m q) (seen_next ms i x low is) ((invariant q).0 h) in
    none rest.0 rest.1

-- what stops for one reason stops for what follows from it
pub stops_then : (F G : Type 0) (s : Stop) → (F → G) → StopsOptions F s → StopsOptions G s
stops_then F G s then (inl memory) = inl memory
stops_then F G s then (inr (fault, is)) = inr (then fault, is)

-- ---- the values of a line

module _ (m n : IdMaker) (c : Command) where
  abbrev Wants : Items → Json → Result Question Stop → Type 0
  Wants js o r = MatchResult r (λ q. AsksWanted m n c js o q.collection.now q.request q.layout) (StopsWith m n c js o)

  pub three_values : (xs : List (Tree Global)) (o : Tree Global) (r : Result Question Stop) → length xs ≡ 3 → o ≡ get_or xs 2 o → Wants (items_view (take 2 xs)) (value_view o) r → ReadsTwo m n c (items_view xs) r
  three_values [] o r long is h = absurd cc
  three_values (x ∷ []) o r long is h = absurd cc
  three_values (x ∷ y ∷ []) o r long is h = absurd cc
  three_values (x ∷ y ∷ z ∷ []) o (Ok q) long is h = subst (λ v. Wants (items_view (x ∷ y ∷ [])) (value_view v) (Ok q)) is h
  three_values (x ∷ y ∷ z ∷ []) o (Err s) long is h = subst (λ v. Wants (items_view (x ∷ y ∷ [])) (value_view v) (Err s)) is h
  three_values (x ∷ y ∷ z ∷ w ∷ xs) o r long is h = absurd cc

  pub not_three_values : (xs : List (Tree Global)) (r : Result Question Stop) → (length xs ≡ 3 → ⊥) → Reads m n c (trees (items_view xs)) r → ReadsTwo m n c (items_view xs) r
  not_three_values [] (Ok q) other h = h
  not_three_values [] (Err s) other h = h
  not_three_values (x ∷ []) (Ok q) other h = h
  not_three_values (x ∷ []) (Err s) other h = h
  not_three_values (x ∷ y ∷ []) (Ok q) other h = h
  not_three_values (x ∷ y ∷ []) (Err s) other h = h
  not_three_values (x ∷ y ∷ z ∷ []) r other h = absurd (other refl)
  not_three_values (x ∷ y ∷ z ∷ w ∷ xs) (Ok q) other h = h
  not_three_values (x ∷ y ∷ z ∷ w ∷ xs) (Err s) other h = h

  pub four_values : (xs : List (Tree Global)) (o : Tree Global) (r : Result Question Stop) → length xs ≡ 4 → o ≡ get_or xs 3 o → Wants (items_view (take 3 xs)) (value_view o) r → ReadsThree m n c (items_view xs) r
  four_values [] o r long is h = absurd cc
  four_values (x ∷ []) o r long is h = absurd cc
  four_values (x ∷ y ∷ []) o r long is h = absurd cc
  four_values (x ∷ y ∷ z ∷ []) o r long is h = absurd cc
  four_values (x ∷ y ∷ z ∷ w ∷ []) o (Ok q) long is h = subst (λ v. Wants (items_view (x ∷ y ∷ z ∷ [])) (value_view v) (Ok q)) is h
  four_values (x ∷ y ∷ z ∷ w ∷ []) o (Err s) long is h = subst (λ v. Wants (items_view (x ∷ y ∷ z ∷ [])) (value_view v) (Err s)) is h
  four_values (x ∷ y ∷ z ∷ w ∷ v ∷ xs) o r long is h = absurd cc

  pub not_four_values : (xs : List (Tree Global)) (r : Result Question Stop) → (length xs ≡ 4 → ⊥) → Reads m n c (trees (items_view xs)) r → ReadsThree m n c (items_view xs) r
  not_four_values [] (Ok q) other h = h
  not_four_values [] (Err s) other h = h
  not_four_values (x ∷ []) (Ok q) other h = h
  not_four_values (x ∷ []) (Err s) other h = h
  not_four_values (x ∷ y ∷ []) (Ok q) other h = h
  not_four_values (x ∷ y ∷ []) (Err s) other h = h
  not_four_values (x ∷ y ∷ z ∷ []) (Ok q) other h = h
  not_four_values (x ∷ y ∷ z ∷ []) (Err s) other h = h
  not_four_values (x ∷ y ∷ z ∷ w ∷ []) r other h = absurd (other refl)
  not_four_values (x ∷ y ∷ z ∷ w ∷ v ∷ xs) (Ok q) other h = h
  not_four_values (x ∷ y ∷ z ∷ w ∷ v ∷ xs) (Err s) other h = h

-- commands that find documents take no id of the maker
module _ (m n : IdMaker) (gs : List Given) (name : List ℕ) where
  by_find : (r : Request) (l : Layout) → Asks m n command.Find gs name r l → n ≡ m
  by_find (request.Find q w) l h = h.2
  by_find _ l h = absurd h

  by_update : (r : Request) (l : Layout) → Asks m n command.FindAndUpdate gs name r l → n ≡ m
  by_update (request.FindAndChange q w (work.Update steps)) l h = h.2
  by_update _ l h = absurd h

  by_replacement : (r : Request) (l : Layout) → Asks m n command.FindAndReplace gs name r l → n ≡ m
  by_replacement (request.FindAndChange q w (work.Replace d)) l h = h.2
  by_replacement _ l h = absurd h

  by_removal : (r : Request) (l : Layout) → Asks m n command.FindAndDelete gs name r l → n ≡ m
  by_removal (request.FindAndChange q w work.Remove) l h = h.2
  by_removal _ l h = absurd h

  pub same_maker : (c : Command) (r : Request) (l : Layout) → FindsDocuments c → Asks m n c gs name r l → n ≡ m
  same_maker command.Find r l finds h = by_find r l h
  same_maker command.FindAndUpdate r l finds h = by_update r l h
  same_maker command.FindAndReplace r l finds h = by_replacement r l h
  same_maker command.FindAndDelete r l finds h = by_removal r l h
  same_maker _ r l finds h = absurd finds

-- none of them is the import
pub not_import : (c : Command) → FindsDocuments c → c ≡ command.Import → ⊥
not_import c finds is = subst FindsDocuments is finds

-- `distinct` has options behind three values
module _ (m n : IdMaker) where
  abbrev pub CountsBy : Items → Json → Result Question Stop → Type 0
  CountsBy js o r = MatchResult r (λ q. AsksCounted m n js o q.collection.now q.request q.layout) (λ s. Reads m n command.Distinct (trees js) (Err s) ⊎ StopsOptions (counts_of o ≡ None) s)

  pub counted_values : (xs : List (Tree Global)) (o : Tree Global) (r : Result Question Stop) → length xs ≡ 4 → o ≡ get_or xs 3 o → CountsBy (items_view (take 3 xs)) (value_view o) r → ReadsLine m n command.Distinct (items_view xs) r
  counted_values [] o r long is h = absurd cc
  counted_values (x ∷ []) o r long is h = absurd cc
  counted_values (x ∷ y ∷ []) o r long is h = absurd cc
  counted_values (x ∷ y ∷ z ∷ []) o r long is h = absurd cc
  counted_values (x ∷ y ∷ z ∷ w ∷ []) o (Ok q) long is h = subst (λ v. CountsBy (items_view (x ∷ y ∷ z ∷ [])) (value_view v) (Ok q)) is h
  counted_values (x ∷ y ∷ z ∷ w ∷ []) o (Err s) long is h = subst (λ v. CountsBy (items_view (x ∷ y ∷ z ∷ [])) (value_view v) (Err s)) is h
  counted_values (x ∷ y ∷ z ∷ w ∷ v ∷ xs) o r long is h = absurd cc

  pub not_counted_values : (xs : List (Tree Global)) (r : Result Question Stop) → (length xs ≡ 4 → ⊥) → Reads m n command.Distinct (trees (items_view xs)) r → ReadsLine m n command.Distinct (items_view xs) r
  not_counted_values [] (Ok q) other h = h
  not_counted_values [] (Err s) other h = h
  not_counted_values (x ∷ []) (Ok q) other h = h
  not_counted_values (x ∷ []) (Err s) other h = h
  not_counted_values (x ∷ y ∷ []) (Ok q) other h = h
  not_counted_values (x ∷ y ∷ []) (Err s) other h = h
  not_counted_values (x ∷ y ∷ z ∷ []) (Ok q) other h = h
  not_counted_values (x ∷ y ∷ z ∷ []) (Err s) other h = h
  not_counted_values (x ∷ y ∷ z ∷ w ∷ []) r other h = absurd (other refl)
  not_counted_values (x ∷ y ∷ z ∷ w ∷ v ∷ xs) (Ok q) other h = h
  not_counted_values (x ∷ y ∷ z ∷ w ∷ v ∷ xs) (Err s) other h = h
