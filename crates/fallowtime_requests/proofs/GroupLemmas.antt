-- The fields of a group, one after the other.
use Rattle.std.proofs.Common.{◌≡◌, ◌≢◌, ◌<◌, ◌≤◌, ℕ, suc, List, [], ◌∷◌, ◌++◌, Some, Result, Ok, Err, Vec, inl, inr, length, drop, get_or, refl, ap, sym, subst, ◌∙◌, append-nil, append_assoc}
use Rattle.std.specs.Prelude.{MatchResult}
use Rattle.std.proofs.lemmas.List.{drop_all}
use Rattle.std.specs.declared.alloc.Global.{Global}
use Rattle.json.specs.Find.{get}
use Rattle.json.specs.Json.{Json, Members, member, object}
use Rattle.json.specs.Value.{members_view, value_view}
use Rattle.json.specs.declared.value.Value.{Value as Tree, Object}
use Rattle.store_model.specs.State.{id_key}
use Rattle.store_pipeline.specs.declared.stage.Accumulated.{Accumulated}
use Rattle.store_pipeline.specs.declared.stage.Grouping.{Grouping}
use Rattle.fallowtime_requests.specs.Reading.{StopsStages}
use Rattle.fallowtime_requests.specs.Staging.{AddsField, AreFields, IsField, IsGrouping, IsOperand, SaysNoField}
use Rattle.fallowtime_requests.specs.declared.stop.Stop.{Stop}
use Rattle.fallowtime_requests.proofs.ArrangeLemmas.{seen_next}
use Rattle.fallowtime_requests.proofs.OperandLemmas.{so_stops}
use Rattle.fallowtime_requests.proofs.OptionLemmas.{Entry, object_seen}

-- the first i members say these fields, and those of all are these and the fields of the rest
pub record FieldsSoFar (ms : List Entry) (fields : List Accumulated) (i : ℕ) : Type 0 where
  pub ends : (rest : List Accumulated) → AreFields (members_view (drop i ms)) rest → AreFields (members_view ms) (fields ++ rest)
  pub parts : (fs : List Accumulated) → AreFields (members_view ms) fs → (rest : List Accumulated) × AreFields (members_view (drop i ms)) rest

pub no_field_yet : (ms : List Entry) (fields : List Accumulated) → fields ≡ [] → FieldsSoFar ms fields 0
no_field_yet ms fields none = record { ends = λ rest h. subst (λ fs. AreFields (members_view ms) (fs ++ rest)) (sym none) h; parts = λ fs h. (fs, h) }

-- what the rest says of a member and what is behind it
module _ (t : List ℕ) (j : Json) (ms : Members) where
  without_id : t ≡ id_key → (fs : List Accumulated) → AreFields (member t j ms) fs → AreFields ms fs
  without_id is fs (inl (same, h)) = h
  without_id is fs (inr (other, h)) = absurd (other is)

  behind_field : t ≢ id_key → (fs : List Accumulated) → AreFields (member t j ms) fs → (f : Accumulated) × (rest : List Accumulated) × IsField t j f × AreFields ms rest
  behind_field other fs (inl (same, h)) = absurd (other same)
  behind_field other fs (inr (so, (f, rest, is, field, h))) = (f, rest, field, h)

module _ (ms : List Entry) (fields : List Accumulated) (i : ℕ) (x : Entry) (so : FieldsSoFar ms fields i) (within : i < length ms) (at : x ≡ get_or ms i x) where
  id_passed : x.0.now ≡ id_key → FieldsSoFar ms fields (suc i)
  id_passed is = record {
    ends = λ rest h. so.ends rest (subst (λ m. AreFields m rest) (sym (seen_next ms i x within at)) (inl (is, h)));
    parts = λ fs h. let p = so.parts fs h in (p.0, without_id x.0.now (value_view x.1) (members_view (drop (suc i) ms)) is p.0 (subst (λ m. AreFields m p.0) (seen_next ms i x within at) p.1));
  }

  one_more_field : x.0.now ≢ id_key → (f : Accumulated) → IsField x.0.now (value_view x.1) f → FieldsSoFar ms (fields ++ f ∷ []) (suc i)
  one_more_field other f field = record { ends = ends; parts = parts }
    where
      ends : (rest : List Accumulated) → AreFields (members_view (drop (suc i) ms)) rest → AreFields (members_view ms) ((fields ++ f ∷ []) ++ rest)
      ends rest h =
          let whole : AreFields (members_view (drop i ms)) (f ∷ rest) = subst (λ m. AreFields m (f ∷ rest)) (sym (seen_next ms i x within at)) (inr (other, (f, rest, refl, field, h))) in
          subst (λ fs. AreFields (members_view ms) fs) (sym (append_assoc fields (f ∷ []) rest)) (so.ends (f ∷ rest) whole)

      parts : (fs : List Accumulated) → AreFields (members_view ms) fs → (rest : List Accumulated) × AreFields (members_view (drop (suc i) ms)) rest
      parts fs h =
          let p = so.parts fs h in
          let q = behind_field x.0.now (value_view x.1) (members_view (drop (suc i) ms)) other p.0 (subst (λ m. AreFields m p.0) (seen_next ms i x within at) p.1) in
          (q.1, q.3)

  pub no_field_here : SaysNoField x.0.now (value_view x.1) → (fs : List Accumulated) → AreFields (members_view ms) fs → ⊥
  no_field_here (other, none) fs h =
      let p = so.parts fs h in
      let q = behind_field x.0.now (value_view x.1) (members_view (drop (suc i) ms)) other p.0 (subst (λ m. AreFields m p.0) (seen_next ms i x within at) p.1) in
      none q.0 q.2

  pub one_added : (more : List Accumulated) → AddsField x.0.now (value_view x.1) fields more → FieldsSoFar ms more (suc i)
  one_added more (inl (is, same)) = subst (λ fs. FieldsSoFar ms fs (suc i)) (sym same) (id_passed is)
  one_added more (inr (other, (f, field, same))) = subst (λ fs. FieldsSoFar ms fs (suc i)) (sym same) (one_more_field other f field)

pub all_fields : (ms : List Entry) (fields : List Accumulated) (i : ℕ) → FieldsSoFar ms fields i → length ms ≤ i → AreFields (members_view ms) fields
all_fields ms fields i so all =
    let none : AreFields (members_view (drop i ms)) [] = subst (λ m. AreFields (members_view m) []) (sym (drop_all i ms all)) refl in
    subst (λ fs. AreFields (members_view ms) fs) (append-nil fields) (so.ends [] none)

-- ---- groups

module _ (v : Tree Global) (ms : Vec Entry Global) (shown : List Entry) (is : v ≡ Object ms) (all : shown ≡ ms.items) where
  seen : value_view v ≡ object (members_view shown)
  seen = object_seen v ms shown is all

  module _ (k : Json) (found : Some k ≡ get id_key (value_view v)) where
    here : get id_key (object (members_view shown)) ≡ Some k
    here = ap (λ j. get id_key j) (sym seen) ∙ sym found

    no_grouping : ((g : Grouping) → IsOperand k g.key → AreFields (members_view shown) g.fields.items → ⊥) → (g : Grouping) → IsGrouping (value_view v) g → ⊥
    no_grouping none g h =
        let (l, at, key, fields) = subst (λ j. IsGrouping j g) seen h in
        let e : Some l ≡ Some k = sym at ∙ here in
        let same : l ≡ k = cc in
        none g (subst (λ x. IsOperand x g.key) same key) fields

    pub grouping_seen : (r : Result Grouping Stop)
        → MatchResult r (λ g. IsOperand k g.key × AreFields (members_view shown) g.fields.items) (StopsStages ((g : Grouping) → IsOperand k g.key → AreFields (members_view shown) g.fields.items → ⊥))
        → MatchResult r (IsGrouping (value_view v)) (StopsStages ((g : Grouping) → IsGrouping (value_view v) g → ⊥))
    grouping_seen (Ok g) (key, fields) = subst (λ j. IsGrouping j g) (sym seen) (k, here, key, fields)
    grouping_seen (Err s) h = so_stops _ _ s no_grouping h
