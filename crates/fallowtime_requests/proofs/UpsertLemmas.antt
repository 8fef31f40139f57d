-- What a change by query puts in if no document answers.
use Rattle.std.proofs.Common.{◌≡◌, ◌⊎◌, inl, inr, ◌↔◌, ◌≤◌, List, [], ◌∷◌, Bool, true, false, not, Option, Some, None, Result, Ok, Err, String, Global, IfErr, length, get_or, refl, sym, ap, subst, ◌∙◌, arith}
use Rattle.std.specs.Prelude.{IsSomeAnd, IsTrue, MatchOption, MatchResult, map, option_map, string_bytes}
use Rattle.bson_base.specs.Value.{Value, Members, has_key, member}
use Rattle.bson_meaning.specs.Meaning.{Same}
use Rattle.bson_model.specs.Keyed.{Key, get}
use Rattle.bson_model.specs.Keyed as keyed
use Rattle.bson_model.specs.View.{content, members_of, pairs_of, view}
use Rattle.bson_model.specs.declared.document.Document.{Document}
use Rattle.bson_model.proofs.EqualLemmas.{look_up-members_of}
use Rattle.store_model.specs.State.{id_key}
use Rattle.store_question.specs.declared.question.Question.{Question}
use Rattle.store_update.specs.Answer.{viewed_document}
use Rattle.store_update.specs.Number.{onward}
use Rattle.store_update.specs.Plan.{Plan, plan_of}
use Rattle.store_update.specs.Update.{Tells, updated}
use Rattle.store_update.specs.declared.operation.Step.{Step}
use Rattle.store_update.specs.declared.error.UpdateError.{UpdateError}
use Rattle.store_update.specs.declared.error.UpdateError.TheVariants.{Id, Memory}
use Rattle.cli_convert.proofs.IdLemmas.{has_id}
use Rattle.cli_convert.specs.declared.made.IdMaker.{IdMaker}
use Rattle.fallowtime_requests.specs.Inputs.{Given, texts, tree, word}
use Rattle.fallowtime_requests.specs.Upserts.{HasOtherId, IsByQuery, IsFixed, IsOtherwise, Makes, StopsByWords, StopsFixed, Takes, Upserting, UpsertsByWords, base, fronted, made_by, query_in, upserted_query}
use Rattle.fallowtime_requests.specs.Reading.{KeepsMaker}
use Rattle.fallowtime_requests.specs.declared.reading.Question.{Question as Asking}
use Rattle.fallowtime_requests.specs.declared.request.Otherwise.{Otherwise}
use Rattle.fallowtime_requests.specs.declared.request.Request.{Request}
use Rattle.fallowtime_requests.specs.declared.request.Request.TheVariants as request
use Rattle.fallowtime_requests.specs.declared.request.Work.{Work}
use Rattle.fallowtime_requests.specs.declared.stop.Stop.{Stop}
use Rattle.fallowtime_requests.specs.declared.stop.Stop.TheVariants as stopped
use Rattle.fallowtime_words.specs.declared.words.Words.{Words as Wording}
use Rattle.store_question_read.specs.UpdateOutcome.{plans_of}
use Rattle.store_question_read.specs.Seed.{Fixed, fixed_by}
use Rattle.store_question_read.specs.declared.seed.Seed.{Seed}

flipped : (b : Bool) (P : Type 0) → IsTrue b ↔ P → IsTrue (not b) ↔ (P → ⊥)
flipped true P h = (λ e. absurd cc, λ never. absurd (never (h.0 refl)))
flipped false P h = (λ e p. let true_too = h.1 p in absurd cc, λ never. refl)

-- its own `_id` is another one, if it means another
pub own_differs : (id own : Value) (ps : List (Key × Value)) (b : Bool) → Some own ≡ get id_key ps → IsTrue b ↔ Same own id → IsTrue (not b) ↔ HasOtherId id (members_of ps)
own_differs id own ps b found same =
    subst (λ (o : Option Value). IsTrue (not b) ↔ IsSomeAnd o (λ w. Same w id → ⊥)) (sym (look_up-members_of id_key ps ∙ sym found)) (flipped b (Same own id) same)

pub none_differs : (id : Value) (ps : List (Key × Value)) → None ≡ get id_key ps → IsTrue false ↔ HasOtherId id (members_of ps)
none_differs id ps none = subst (λ (o : Option Value). IsTrue false ↔ IsSomeAnd o (λ w. Same w id → ⊥)) (sym (look_up-members_of id_key ps ∙ sym none)) (λ e. absurd cc, λ h. absurd h)

-- ---- an `_id` in front

module _ (ps : List (Key × Value)) (b : Bool) (is : b ≡ keyed.has_key id_key ps) where
  pub none_own : b ≡ false → has_key id_key (members_of ps) ≡ false
  none_own none = has_id ps b is ∙ none

  pub put_front : (id : Value) (m : Members) → b ≡ false → m ≡ member id_key id (members_of ps) → m ≡ fronted id (members_of ps)
  put_front id m none made = rw (has_id ps b is ∙ none) made

  pub kept_own : (id : Value) → b ≡ true → members_of ps ≡ fronted id (members_of ps)
  kept_own id has = rw (has_id ps b is ∙ has) refl

pub of_copy : (id : Value) (d e : Document) (m : Members) → pairs_of e ≡ pairs_of d → m ≡ fronted id (content e) → m ≡ fronted id (content d)
of_copy id d e m same made = made ∙ ap (λ (ps : List (Key × Value)). fronted id (members_of ps)) same

-- ---- a replacement

module _ (id : Value) (e : Members) (b : Bool) (other : IsTrue b ↔ HasOtherId id e) where
  -- it has another `_id`
  pub refused : b ≡ true → Takes (Some id) e (Err Id)
  refused is = (other.0 is, refl)

  -- it has none
  pub placed : (m : Members) → b ≡ false → m ≡ fronted id e → Takes (Some id) e (Ok m)
  placed m none made = (λ has. let is : b ≡ true = other.1 has in absurd cc, made)

-- ---- what is made

-- what an update says, or out of memory
pub told : (says : Result Members UpdateError) (r : Result Document UpdateError) → Tells says (viewed_document r) → MatchResult r (λ m. says ≡ Ok (content m)) (λ e. (says ≡ Err e) ⊎ (e ≡ Memory))
told says (Ok d) h = h
told says (Err e) h = h

module _ (s : Seed) (plans : List Plan) (xs : List Step) (d : Members) (is : xs ≡ s.steps.items) (first : d ≡ base (option_map view s.id)) where
  set_first : updated true (map plan_of xs) d ≡ updated true (plans_of s.steps) (base (option_map view s.id))
  set_first = ap (λ (ys : List Step). updated true (map plan_of ys) d) is ∙ ap (updated true (plans_of s.steps)) first

  -- the query's fields aren't set
  pub not_set : (e : UpdateError) → (updated true (map plan_of xs) d ≡ Err e) ⊎ (e ≡ Memory) → (made_by (fixed_by s) plans ≡ Err e) ⊎ (e ≡ Memory)
  not_set e (inl h) = inl (ap (λ (r : Result Members UpdateError). onward r (updated true plans)) (sym set_first ∙ h))
  not_set e (inr memory) = inr memory

  -- they are set, and then the update is made
  pub set_and_made : (e : Members) (r : Result Members UpdateError) → updated true (map plan_of xs) d ≡ Ok e → Tells (updated true plans e) r → Tells (made_by (fixed_by s) plans) r
  set_and_made e r h = subst (λ (x : Result Members UpdateError). Tells (onward x (updated true plans)) r) (sym h ∙ set_first)

-- what takes a place is what is copied
pub taken : (id : Option Value) (d e : Members) (r : Result Document UpdateError) → d ≡ e → MatchResult r (λ m. Takes id d (Ok (content m))) (λ x. Takes id d (Err x) ⊎ (x ≡ Memory))
    → MatchResult r (λ m. Takes id e (Ok (content m))) (λ x. Takes id e (Err x) ⊎ (x ≡ Memory))
taken id d e r is h = subst (λ (x : Members). MatchResult r (λ m. Takes id x (Ok (content m))) (λ y. Takes id x (Err y) ⊎ (y ≡ Memory))) is h

-- nothing is made, and memory isn't why
pub unmade : (f : Fixed) (w : Work) (e : UpdateError) → Makes f w (Err e) ⊎ (e ≡ Memory) → (e ≡ Memory → ⊥) → Makes f w (Err e)
unmade f w e (inl h) other = h
unmade f w e (inr memory) other = absurd (other memory)

-- ---- a request

memory_stops : (g : Given) → StopsFixed g stopped.Memory
memory_stops (word w) = tt
memory_stops (tree j) = tt

-- what is made of what a query fixes, or there is no memory for it
module _ (m n : IdMaker) (f : Fixed) (w : Work) where
  pub otherwise_made : (g : Given) (r : Result Otherwise Stop) → IsFixed g f → MatchResult r (IsOtherwise m n f w) (λ s. s ≡ stopped.Memory) → MatchResult r (λ o. (x : Fixed) × IsFixed g x × IsOtherwise m n x w o) (StopsFixed g)
  otherwise_made g (Ok o) is h = (f, is, h)
  otherwise_made g (Err s) is h = subst (StopsFixed g) (sym h) (memory_stops g)

  pub otherwise_keeps : (r : Result Otherwise Stop) → MatchResult r (IsOtherwise m n f w) (λ s. s ≡ stopped.Memory) → IfErr r (KeepsMaker m n)
  otherwise_keeps (Ok o) h = tt
  otherwise_keeps (Err s) h = subst (KeepsMaker m n) (sym h) tt

-- any other request stays
pub stays : (m : IdMaker) (g : Given) (r : Request) → ((q : Question) (w : Work) (many : Bool) → r ≡ request.Change q w many → ⊥) → Upserting m m g r r
stays m g (request.Change q w many) other = absurd (other q w many refl)
stays m g _ other = (refl, refl)

-- ---- words

module _ (ws : List (String Global)) (x : String Global) where
  pub second : 2 ≤ length ws → x ≡ get_or ws 1 x → query_in (texts ws) ≡ Some (word (string_bytes x))
  second = by ws
    where
      by : (ys : List (String Global)) → 2 ≤ length ys → x ≡ get_or ys 1 x → query_in (texts ys) ≡ Some (word (string_bytes x))
      by [] two is = absurd (omega (arith, two))
      by (y ∷ []) two is = absurd (omega (arith, two))
      by (y ∷ z ∷ ys) two is = ap (λ (s : String Global). Some (word (string_bytes s))) (sym is)

pub no_second : (ws : List (String Global)) → (2 ≤ length ws → ⊥) → query_in (texts ws) ≡ None
no_second [] few = refl
no_second (y ∷ []) few = refl
no_second (y ∷ z ∷ ys) few = absurd (few (omega arith))

module _ (m n : IdMaker) (w : Wording) (was : Asking) where
  -- the query of a line with the option
  pub by_words : (g h : Given) (r : Result Asking Stop) → Some g ≡ upserted_query w → h ≡ g
      → MatchResult r (λ q. Upserting m n h was.request q.request × (q.collection ≡ was.collection) × (q.layout ≡ was.layout)) (λ s. IsByQuery was.request × StopsFixed h s)
      → MatchResult r (λ q. UpsertsByWords m n w was.request q.request × (q.collection ≡ was.collection) × (q.layout ≡ was.layout)) (StopsByWords w was.request)
  by_words g h (Ok q) is same (upserts, named, laid) =
      let of_query : Upserting m n g was.request q.request = subst (λ (x : Given). Upserting m n x was.request q.request) same upserts in
      (subst (λ (o : Option Given). MatchOption o ((q.request ≡ was.request) × (n ≡ m)) (λ x. Upserting m n x was.request q.request)) is of_query, named, laid)
  by_words g h (Err s) is same (by, stops) = (by, subst (λ (o : Option Given). IsSomeAnd o (λ x. StopsFixed x s)) is (subst (λ (x : Given). StopsFixed x s) same stops))

-- without it the request stays
pub not_by_words : (m : IdMaker) (w : Wording) (r : Request) → None ≡ upserted_query w → UpsertsByWords m m w r r
not_by_words m w r none = subst (λ (o : Option Given). MatchOption o ((r ≡ r) × (m ≡ m)) (λ x. Upserting m m x r r)) none (refl, refl)
