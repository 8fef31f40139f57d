-- The stages of a pipeline: what none of them is, and several one after the other.
use Rattle.std.proofs.Common.{◌≡◌, ◌≢◌, ◌⊎◌, ◌<◌, ◌≤◌, ◌==◌, ℕ, suc, Bool, true, false, List, [], ◌∷◌, ◌++◌, Bor, Option, Some, None, Result, Ok, Err, Vec, inl, inr, length, drop, get_or, codes, refl, ap, sym, subst, ◌∙◌, append-nil, append_assoc, arith, rules}
use Rattle.std.specs.Prelude.{MatchOption, MatchResult, if◌then◌else◌}
use Rattle.std.specs.Str.{bytes_eq}
use Rattle.std.proofs.lemmas.Bool.{eqb-true}
use Rattle.std.proofs.lemmas.List.{drop_all}
use Rattle.std.specs.declared.alloc.Global.{Global}
use Rattle.json.specs.Json.{Json, no_members, member}
use Rattle.json.specs.Json as json
use Rattle.json.specs.Value.{items_view, members_view, value_view}
use Rattle.json.specs.declared.value.Value.{Value as Tree, Object, String as Text, the_lemmas}
use Rattle.store_pipeline.specs.declared.stage.Accumulator.{Accumulator}
use Rattle.store_pipeline.specs.declared.stage.Operand.{Operand}
use Rattle.store_pipeline.specs.declared.stage.Stage.{Stage}
use Rattle.store_pipeline.specs.declared.stage.Stage.TheVariants as stage
use Rattle.store_question.specs.Asked.{all_of, no_asked}
use Rattle.store_question.specs.declared.question.Question.{Question}
use Rattle.store_question_read.specs.Outcome.{Asks as StandsFor}
use Rattle.store_pipeline.specs.Bodies.{keys_of}
use Rattle.store_pipeline.specs.declared.sorted.keys.SortKey.{SortKey}
use Rattle.fallowtime_requests.specs.Inputs.{tree}
use Rattle.fallowtime_requests.specs.Orders.{keys_under}
use Rattle.fallowtime_requests.specs.Reading.{StopsAmong, StopsNamed, StopsQuery, StopsStage}
use Rattle.fallowtime_requests.specs.Staging.{AreAsked, AreStages, IsAccumulation, IsQuestion, IsStage, is_empty_object, match_of, stage_named}
use Rattle.fallowtime_requests.specs.declared.staging.StageName.{StageName}
use Rattle.fallowtime_requests.specs.declared.staging.StageName.TheVariants as name
use Rattle.fallowtime_requests.specs.declared.stop.Stop.{Stop}
use Rattle.fallowtime_requests.specs.declared.stop.Stop.TheVariants.{Words, Memory}
use Rattle.fallowtime_requests.specs.declared.unread.Unread.TheVariants as unread
use Rattle.fallowtime_requests.proofs.OptionLemmas.{Entry, object_seen}
use Rattle.fallowtime_requests.proofs.StreamLemmas.{Trees, from_place}

-- ---- a number of members

module _ (P : Json → Type 0) where
  pub one_member : (ms : List Entry) (d e : Entry) → 1 ≤ length ms → length ms < 2 → P (json.object (member (get_or ms 0 d).0.now (value_view (get_or ms 0 e).1) no_members)) → P (json.object (members_view ms))
  one_member [] d e one few h = absurd (omega (arith, one))
  one_member (m ∷ []) d e one few h = h
  one_member (m ∷ n ∷ ms) d e one few h = absurd (omega (arith, few))

pub no_match : (ms : List Entry) → (length ms ≡ 1 → ⊥) → None ≡ match_of (json.object (members_view ms))
no_match [] other = refl
no_match (m ∷ []) other = absurd (other refl)
no_match (m ∷ n ∷ ms) other = refl

pub no_stage : (ms : List Entry) → (length ms ≡ 1 → ⊥) → StopsStage (json.object (members_view ms)) (Words unread.Stages)
no_stage [] other = refl
no_stage (m ∷ []) other = absurd (other refl)
no_stage (m ∷ n ∷ ms) other = refl

pub no_accumulation : (ms : List Entry) → (length ms ≡ 1 → ⊥) → (a : Accumulator) (o : Operand) → IsAccumulation (json.object (members_view ms)) a o → ⊥
no_accumulation [] other a o h = h
no_accumulation (m ∷ []) other a o h = other refl
no_accumulation (m ∷ n ∷ ms) other a o h = h

empty_by : (ms : List Entry) (b : Bool) → (length ms == 0) ≡ b → b ≡ is_empty_object (json.object (members_view ms))
empty_by [] true h = refl
empty_by [] false h = absurd cc
empty_by (m ∷ ms) true h = let e : suc (length ms) ≡ 0 = eqb-true (suc (length ms)) 0 h in absurd (omega (arith, e))
empty_by (m ∷ ms) false h = refl

pub empty_object : (v : Tree Global) (ms : Vec Entry Global) (shown : List Entry) (b : Bool) → v ≡ Object ms → shown ≡ ms.items → b ≡ (length shown == 0) → b ≡ is_empty_object (value_view v)
empty_object v ms shown b is all h = empty_by shown b (sym h) ∙ ap is_empty_object (sym (object_seen v ms shown is all))

-- a text
pub text_seen : (v : Tree Global) (t : Bor (List ℕ)) → v ≡ Text t → value_view v ≡ json.string t.now
text_seen v t h = rw h (search (rules, the_lemmas))

-- an order that has a key
pub filled : (j : Json) (ks : List SortKey) (b : Bool) → keys_under j ≡ Some (keys_of ks) → b ≡ (length ks == 0) → b ≡ false → keys_under j ≢ Some []
filled j [] b is empty not e = let zero_is : b ≡ true = empty in absurd cc
filled j (k ∷ ks) b is empty not e = let none : Some (keys_of (k ∷ ks)) ≡ Some [] = sym is ∙ e in absurd cc

-- ---- a stage that is a `$match`

named_match : (t : List ℕ) (j k : Json) (b : Bool) → bytes_eq t (codes "$match") ≡ b → (if b then Some j else None) ≡ Some k → (stage_named t ≡ Some name.Match) × (j ≡ k)
named_match t j k true is e = (rw is refl, cc)
named_match t j k false is e = absurd cc

is_match : (j k : Json) → match_of j ≡ Some k → (t : List ℕ) × (j ≡ json.object (member t k no_members)) × (stage_named t ≡ Some name.Match)
is_match (json.object (member t l no_members)) k e =
    let p = named_match t l k (bytes_eq t (codes "$match")) refl e in
    (t, ap (λ x. json.object (member t x no_members)) p.1, p.0)
is_match (json.object no_members) k e = absurd cc
is_match (json.object (member t l (member u i ms))) k e = absurd cc
is_match json.null k e = absurd cc
is_match (json.boolean b) k e = absurd cc
is_match (json.number t) k e = absurd cc
is_match (json.string t) k e = absurd cc
is_match (json.array js) k e = absurd cc

module _ (j k : Json) (is : match_of j ≡ Some k) where
  pub match_is_stage : (q : Question) → IsQuestion k q → IsStage j (stage.Match q)
  match_is_stage q h =
      let (t, same, named) = is_match j k is in
      subst (λ x. IsStage x (stage.Match q)) (sym same) (name.Match, named, (q, refl, h))

  pub match_stops : (s : Stop) → StopsQuery (tree k) s → StopsStage j s
  match_stops s h =
      let (t, same, named) = is_match j k is in
      subst (λ x. StopsStage x s) (sym same) (subst (λ (o : Option StageName). MatchOption o (s ≡ Words unread.Stages) (λ n. StopsNamed n k s)) (sym named) h)

-- ---- out of memory once a stage is read

memory_of_name : (n : StageName) (j : Json) → StopsNamed n j Memory
memory_of_name name.Match j = tt
memory_of_name name.Sort j = inl refl
memory_of_name name.Skip j = inl refl
memory_of_name name.Limit j = inl refl
memory_of_name name.Project j = inl refl
memory_of_name name.Count j = inl refl
memory_of_name name.Unwind j = inl refl
memory_of_name name.Group j = inl refl

pub memory_stops : (j : Json) (s : Stage) → IsStage j s → StopsStage j Memory
memory_stops (json.object (member t j no_members)) s (n, named, h) =
    subst (λ (o : Option StageName). MatchOption o (Memory ≡ Words unread.Stages) (λ m. StopsNamed m j Memory)) (sym named) (memory_of_name n j)
memory_stops (json.object no_members) s h = absurd h
memory_stops (json.object (member t l (member u i ms))) s h = absurd h
memory_stops json.null s h = absurd h
memory_stops (json.boolean b) s h = absurd h
memory_stops (json.number t) s h = absurd h
memory_stops (json.string t) s h = absurd h
memory_stops (json.array js) s h = absurd h

-- ---- several

-- the first i trees are these stages, and what the rest is, and where it stops, is so of all
pub record StagesSoFar (trees : Trees) (stages : List Stage) (i : ℕ) : Type 0 where
  pub ends : (rest : List Stage) → AreStages (items_view (drop i trees)) rest → AreStages (items_view trees) (stages ++ rest)
  pub stops : (s : Stop) → StopsAmong (items_view (drop i trees)) s → StopsAmong (items_view trees) s

pub no_stage_yet : (trees : Trees) (stages : List Stage) → stages ≡ [] → StagesSoFar trees stages 0
no_stage_yet trees stages none = record { ends = λ rest h. subst (λ ss. AreStages (items_view trees) (ss ++ rest)) (sym none) h; stops = λ s h. h }

module _ (trees : Trees) (stages : List Stage) (i : ℕ) (t : Tree Global) (so : StagesSoFar trees stages i) (within : i < length trees) (at : get_or trees i t ≡ t) where
  here : drop i trees ≡ t ∷ drop (suc i) trees
  here = from_place trees i t within at

  pub one_more_stage : (s : Stage) → IsStage (value_view t) s → StagesSoFar trees (stages ++ s ∷ []) (suc i)
  one_more_stage s is = record { ends = ends; stops = stops }
    where
      ends : (rest : List Stage) → AreStages (items_view (drop (suc i) trees)) rest → AreStages (items_view trees) ((stages ++ s ∷ []) ++ rest)
      ends rest h =
          let whole : AreStages (items_view (drop i trees)) (s ∷ rest) = subst (λ ts. AreStages (items_view ts) (s ∷ rest)) (sym here) (s, rest, refl, is, h) in
          subst (λ ss. AreStages (items_view trees) ss) (sym (append_assoc stages (s ∷ []) rest)) (so.ends (s ∷ rest) whole)

      stops : (e : Stop) → StopsAmong (items_view (drop (suc i) trees)) e → StopsAmong (items_view trees) e
      stops e h = so.stops e (subst (λ ts. StopsAmong (items_view ts) e) (sym here) (inr ((s, is), h)))

  pub stops_here : (e : Stop) → StopsStage (value_view t) e → StopsAmong (items_view trees) e
  stops_here e h = so.stops e (subst (λ ts. StopsAmong (items_view ts) e) (sym here) (inl h))

  pub no_room_here : (s : Stage) → IsStage (value_view t) s → StopsAmong (items_view trees) Memory
  no_room_here s is = stops_here Memory (memory_stops (value_view t) s is)

pub all_stages : (trees : Trees) (stages : List Stage) (i : ℕ) → StagesSoFar trees stages i → length trees ≤ i → AreStages (items_view trees) stages
all_stages trees stages i so all =
    let none : AreStages (items_view (drop i trees)) [] = subst (λ ts. AreStages (items_view ts) []) (sym (drop_all i trees all)) refl in
    subst (λ ss. AreStages (items_view trees) ss) (append-nil stages) (so.ends [] none)

-- ---- the first of a pipeline

module _ (first : Tree Global) (rest items : Trees) (is : items ≡ first ∷ rest) (k : Json) (found : Some k ≡ match_of (value_view first)) where
  by_query : (q : Question) (stages : List Stage) → IsQuestion k q → AreStages (items_view rest) stages → AreAsked (items_view items) q stages
  by_query q stages asks are =
      subst (λ ts. AreAsked (items_view ts) q stages) (sym is)
      (subst (λ (o : Option Json). MatchOption o (StandsFor q (all_of no_asked) × AreStages (items_view (first ∷ rest)) stages) (λ x. IsQuestion x q × AreStages (items_view rest) stages)) found (asks, are))

  by_stops : (s : Stop) → StopsQuery (tree k) s ⊎ (((q : Question) × IsQuestion k q) × StopsAmong (items_view rest) s) → StopsAmong (items_view items) s
  by_stops s (inl h) = subst (λ ts. StopsAmong (items_view ts) s) (sym is) (inl (match_stops (value_view first) k (sym found) s h))
  by_stops s (inr ((q, asks), h)) = subst (λ ts. StopsAmong (items_view ts) s) (sym is) (inr ((stage.Match q, match_is_stage (value_view first) k (sym found) q asks), h))

  pub by_match : (r : Result (Question × Vec Stage Global) Stop)
      → MatchResult r (λ p. IsQuestion k p.0 × AreStages (items_view rest) p.1.items) (λ s. StopsQuery (tree k) s ⊎ (((q : Question) × IsQuestion k q) × StopsAmong (items_view rest) s))
      → MatchResult r (λ p. AreAsked (items_view items) p.0 p.1.items) (StopsAmong (items_view items))
  by_match (Ok p) (asks, are) = by_query p.0 p.1.items asks are
  by_match (Err s) h = by_stops s h
