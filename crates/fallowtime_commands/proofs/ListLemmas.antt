-- The questions of a list, one after the other.
use Rattle.std.proofs.Common.{◌≡◌, ◌<◌, ◌≤◌, ◌+◌, ℕ, zero, suc, List, [], ◌∷◌, ◌++◌, length, drop, get_or, None, Some, Option, Ok, Err, Result, Vec, refl, ap, sym, ◌∙◌, subst, append_assoc, append-nil, zero-add, arith, codes, MatchOption}
use Rattle.std.proofs.lemmas.List.{drop_all, drop_more}
use Rattle.std.specs.declared.alloc.Global.{Global}
use Rattle.json.specs.Json.{Items, Json}
use Rattle.json.specs.Value.{items_view, value_view}
use Rattle.json.specs.declared.value.Value.{Value}
use Rattle.fallowtime_requests.specs.Reports.{at_text}
use Rattle.fallowtime_requests.specs.declared.reading.Question.{Question}
use Rattle.fallowtime_requests.specs.declared.stop.Stop.{Stop}
use Rattle.fallowtime_requests.specs.declared.stop.Stop.TheVariants.{Words, Memory}
use Rattle.fallowtime_requests.specs.declared.unread.Unread.{Unread}
use Rattle.cli_convert.specs.declared.made.IdMaker.{IdMaker}
use Rattle.fallowtime_commands.specs.Lists.{AskAll, IsFirstUnread, ReadsAll, ReadsMore, ReadsOne, behind_all, requests_in, stop_at}
use Rattle.fallowtime_commands.specs.Questions.{Stops}
use Rattle.fallowtime_commands.specs.Turns.{AsksNothing}
use Rattle.fallowtime_commands.specs.declared.session.lists.ListStop.{ListStop}
use Rattle.fallowtime_commands.specs.declared.session.lists.ListStop.TheVariants as list_stop

abbrev pub Trees : Type 0
Trees = List (Value Global)

-- after i requests: what the rest asks is asked behind what was, and the first unread one of the rest is the first of all
pub record SoFar (trees : Trees) (before now : IdMaker) (old new : List Question) (i : ℕ) : Type 0 where
  pub ends : (qs : List Question) (n : IdMaker) → AskAll now n (items_view (drop i trees)) qs → (all : List Question) × AskAll before n (items_view trees) all × (new ++ qs ≡ old ++ all)
  pub counts : (k : ℕ) (u : Unread) → IsFirstUnread now (items_view (drop i trees)) k u → IsFirstUnread before (items_view trees) (i + k) u

pub none_yet : (trees : Trees) (m : IdMaker) (old : List Question) → SoFar trees m m old old 0
none_yet trees m old = record {
  ends = λ qs n asks. (qs, asks, refl);
  counts = λ k u first. subst (λ n. IsFirstUnread m (items_view trees) n u) (sym (zero-add k)) first;
}

module _ (trees : Trees) (before now after : IdMaker) (old new more : List Question) (i : ℕ) (t : Value Global) (so : SoFar trees before now old new i) (within : i < length trees) (at : get_or trees i t ≡ t) where
  from_here : drop i trees ≡ t ∷ drop (i + 1) trees
  from_here = drop_more trees i t within ∙ ap (λ v. v ∷ drop (i + 1) trees) at

  pub one_more : ReadsOne now after (value_view t) new more (Ok tt) → SoFar trees before after old more (i + 1)
  one_more (q, asks, e) = record { ends = ends; counts = counts }
    where
      ends : (qs : List Question) (n : IdMaker) → AskAll after n (items_view (drop (i + 1) trees)) qs → (all : List Question) × AskAll before n (items_view trees) all × (more ++ qs ≡ old ++ all)
      ends qs n rest =
          let whole : AskAll now n (items_view (drop i trees)) (q ∷ qs) = subst (λ ts. AskAll now n (items_view ts) (q ∷ qs)) (sym from_here) (q, qs, after, asks, rest, refl) in
          let r = so.ends (q ∷ qs) n whole in
          (r.0, r.1, ap (λ xs. xs ++ qs) e ∙ append_assoc new (q ∷ []) qs ∙ r.2)

      counts : (k : ℕ) (u : Unread) → IsFirstUnread after (items_view (drop (i + 1) trees)) k u → IsFirstUnread before (items_view trees) ((i + 1) + k) u
      counts k u unread =
          let later : IsFirstUnread now (items_view (drop i trees)) (suc k) u = subst (λ ts. IsFirstUnread now (items_view ts) (suc k) u) (sym from_here) (q, after, asks, unread) in
          let same : i + suc k ≡ (i + 1) + k = omega arith in
          subst (λ n. IsFirstUnread before (items_view trees) n u) same (so.counts (suc k) u later)

  pub stopped : (s : Stop) (last : IdMaker) (left : List Question) → ReadsOne now after (value_view t) new more (Err s) → ReadsMore before last (items_view trees) old left (Err (stop_at i s))
  stopped (Words u) last left stops =
      let here : IsFirstUnread now (items_view (drop i trees)) zero u = subst (λ ts. IsFirstUnread now (items_view ts) zero u) (sym from_here) stops in
      let same : i + 0 ≡ i = omega arith in
      subst (λ n. IsFirstUnread before (items_view trees) n u) same (so.counts zero u here)
  stopped Memory last left stops = tt

pub all_read : (trees : Trees) (before now : IdMaker) (old new : List Question) (i : ℕ) → SoFar trees before now old new i → length trees ≤ i → ReadsMore before now (items_view trees) old new (Ok tt)
all_read trees before now old new i so past =
    let none : AskAll now now (items_view (drop i trees)) [] = subst (λ ts. AskAll now now (items_view ts) []) (sym (drop_all i trees past)) (refl, refl) in
    let r = so.ends [] now none in
    (r.0, r.1, sym (append-nil new) ∙ r.2)

-- all questions are those of the requests
pub questions_read : (m n : IdMaker) (js : Items) (old : List Question) (qs : Vec Question Global) → old ≡ [] → ReadsMore m n js old qs.items (Ok tt) → ReadsAll m n js (Ok qs)
questions_read m n js old qs none (all, asks, e) = subst (λ xs. AskAll m n js xs) (sym (e ∙ ap (λ xs. xs ++ all) none)) asks

pub questions_stop : (m n : IdMaker) (js : Items) (old new : List Question) (s : ListStop) → ReadsMore m n js old new (Err s) → ReadsAll m n js (Err s)
questions_stop m n js old new (list_stop.Request i u) h = h
questions_stop m n js old new list_stop.Memory h = tt

-- what is no list asks for nothing
pub no_list_asks : (m : IdMaker) (j : Json) (u : Unread) → behind_all j ≡ None → Stops m j (Words u) → AsksNothing m j (at_text u)
no_list_asks m j u none stops =
    let so : (v : Unread) × Stops m j (Words v) × (at_text u ≡ at_text v) = (u, stops, refl) in
    subst (λ o. MatchOption o ((v : Unread) × Stops m j (Words v) × (at_text u ≡ at_text v)) (λ rest. (requests_in rest ≡ None) × (at_text u ≡ codes "arguments"))) (sym none) so

-- nor does a list without an array of requests
pub no_requests : (m : IdMaker) (j : Json) (rest : Items) → Some rest ≡ behind_all j → None ≡ requests_in rest → AsksNothing m j (codes "arguments")
no_requests m j rest some none =
    let so : (requests_in rest ≡ None) × (codes "arguments" ≡ codes "arguments") = (sym none, refl) in
    subst (λ o. MatchOption o ((v : Unread) × Stops m j (Words v) × (codes "arguments" ≡ at_text v)) (λ rest. (requests_in rest ≡ None) × (codes "arguments" ≡ codes "arguments"))) some so

-- an array of another length than one has no requests alone
pub no_single : (vs : Trees) → (length vs ≡ 1 → ⊥) → None ≡ requests_in (items_view vs)
no_single [] other = refl
no_single (v ∷ []) other = absurd (other refl)
no_single (v ∷ w ∷ vs) other = refl
