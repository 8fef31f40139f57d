-- The question of a command.
use Rattle.std.proofs.Common.{◌≡◌, ℕ, List, [], ◌∷◌, length, map, Bor, Result, Ok, Err, IfErr, inl, inr, refl, sym, subst}
use Rattle.json.specs.Json.{Items, Json}
use Rattle.bson_base.specs.Value.{Members}
use Rattle.fallowtime_requests.specs.Arranging.{ReadsSaid}
use Rattle.fallowtime_requests.specs.Inputs.{Given, tree, trees, word}
use Rattle.fallowtime_requests.specs.Reading.{IsUnread, KeepsMaker, Reads, StopsDocument}
use Rattle.fallowtime_requests.specs.Requests.{Asks, NameAndDocument}
use Rattle.fallowtime_requests.specs.declared.reading.Layout.TheVariants.{Each}
use Rattle.fallowtime_requests.specs.declared.reading.Question.{Question}
use Rattle.fallowtime_requests.specs.declared.request.Request.{Request}
use Rattle.fallowtime_requests.specs.declared.stop.Stop.{Stop}
use Rattle.fallowtime_requests.specs.declared.stop.Stop.TheVariants.{Words, Memory}
use Rattle.cli_convert.specs.declared.made.IdMaker.{IdMaker}
use Rattle.fallowtime_words.specs.declared.command.Command.{Command}
use Rattle.fallowtime_words.specs.declared.table.Argument.TheVariants as argument

-- a request that is answered with each document by itself
abbrev pub IsPlain : Question → Bor (List ℕ) → Request → Type 0
IsPlain q name r = (q.collection ≡ name) × (q.request ≡ r) × (q.layout ≡ Each)

pub asks : (m n : IdMaker) (c : Command) (gs : List Given) (q : Question) (name : Bor (List ℕ)) (r : Request) → IsPlain q name r → Asks m n c gs name.now r Each → Reads m n c gs (Ok q)
asks m n c gs q name r (named, requested, laid) h =
    let of_name : Asks m n c gs q.collection.now r Each = subst (λ (b : Bor (List ℕ)). Asks m n c gs b.now r Each) (sym named) h in
    let of_request : Asks m n c gs q.collection.now q.request Each = subst (λ x. Asks m n c gs q.collection.now x Each) (sym requested) of_name in
    subst (λ l. Asks m n c gs q.collection.now q.request l) (sym laid) of_request

-- a command that takes no id of the maker
pub by_command : (m : IdMaker) (k l : Command) (gs : List Given) (r : Result Question Stop) → k ≡ l → ((n : IdMaker) → Reads n n l gs r) → Reads m m k gs r
by_command m k l gs r is h = subst (λ c. Reads m m c gs r) (sym is) (h m)

pub by_maker : (m n : IdMaker) (k l : Command) (gs : List Given) (r : Result Question Stop) → k ≡ l → Reads m n l gs r → Reads m n k gs r
by_maker m n k l gs r is h = subst (λ c. Reads m n c gs r) (sym is) h

-- a maker that stays is kept
pub stays : (m : IdMaker) (r : Result Question Stop) → IfErr r (KeepsMaker m m)
stays m (Ok q) = tt
stays m (Err (Words u)) = refl
stays m (Err Memory) = tt

-- `collections` and `check` have no argument
module _ {X : Type 0} (seen : X → Given) where
  pub no_argument : (m : IdMaker) (k : Command) (r : Request) (xs : List X) (q : Question) (name : Bor (List ℕ)) → length xs ≡ 0 → Asks m m k [] name.now r Each → IsPlain q name r → Reads m m k (map seen xs) (Ok q)
  no_argument m k r [] q name none h plain = asks m m k [] q name r plain h
  no_argument m k r (x ∷ xs) q name none h plain = absurd cc

-- ---- what an object of options says

module _ {A : Type 0} (Says : Json → A → Type 0) (put : A → Request → Request) (m n : IdMaker) (c : Command) (js : Items) (o : Json) where
  pub said : (q : Question) (name : Bor (List ℕ)) (r : Request) (x : A) → IsPlain q name (put x r) → Asks m n c (trees js) name.now r Each → Says o x → ReadsSaid Says put m n c js o (Ok q)
  said q name r x (named, requested, laid) h says =
      let of_name : Asks m n c (trees js) q.collection.now r Each = subst (λ (b : Bor (List ℕ)). Asks m n c (trees js) b.now r Each) (sym named) h in
      (r, x, subst (λ l. Asks m n c (trees js) q.collection.now r l) (sym laid) of_name, says, requested)

-- ---- out of memory once a document is read

memory_stops : (g : Given) → StopsDocument g Memory
memory_stops (word w) = tt
memory_stops (tree j) = tt

pub no_room : (m : IdMaker) (gs : List Given) (name : List ℕ) (d : Members) → NameAndDocument gs name d → IsUnread m (argument.Collection ∷ argument.Document ∷ []) gs Memory
no_room m [] name d h = absurd h
no_room m (g ∷ []) name d h = absurd h
no_room m (g ∷ k ∷ []) name d (is, reads) = inr (tt, inr ((name, is), inl (memory_stops k)))
no_room m (g ∷ k ∷ l ∷ gs) name d h = absurd h
