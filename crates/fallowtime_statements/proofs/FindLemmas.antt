-- Pipelines that find.
use Rattle.std.proofs.Common.{◌≡◌, ◌≢◌, pos, ℕ, suc, zero, List, [], ◌∷◌, map, Option, Some, Result, Ok, Err, IfOk, OnOk, refl, ap, sym, ◌∙◌, subst}
use Rattle.std.specs.Option.{option_and_then}
use Rattle.bson_base.specs.Value.{Members, Value, array}
use Rattle.bson_model.specs.View.{content, items_of, members_of, pairs_of}
use Rattle.bson_model.specs.declared.document.Document.{Document}
use Rattle.bson_pairs.specs.Keyed.{Key}
use Rattle.fallowtime_statements.specs.Counting.{HasNumber}
use Rattle.fallowtime_statements.specs.Finding.{AreUsed, FindsIn, IsFromOne, finds_by, place_behind, place_in, stage_of, with_part, with_stage}
use Rattle.fallowtime_statements.specs.declared.fault.Fault.{Fault}

module _ (s : Value) (x : List ℕ × Value) (is : Some x ≡ stage_of s) where
  pub placed : (n m : ℕ) → Some m ≡ place_behind n x.0 → place_in n s ≡ Some m
  placed n m there = ap (option_and_then (λ (y : List ℕ × Value). place_behind n y.0)) (sym is) ∙ sym there

  pub staged : (ps qs : List (Key × Value)) → with_part ps x ≡ Some qs → with_stage ps s ≡ Some qs
  staged ps qs put = ap (option_and_then (with_part ps)) (sym is) ∙ put

-- a stage more is read
pub stage_read : (n m : ℕ) (ps qs : List (Key × Value)) (s : Value) (ss : List Value) → place_in n s ≡ Some m → with_stage ps s ≡ Some qs → finds_by n ps (s ∷ ss) ≡ finds_by m qs ss
stage_read n m ps qs s ss place put =
    ap (option_and_then (λ k. option_and_then (λ rs. finds_by k rs ss) (with_stage ps s))) place ∙ ap (option_and_then (λ rs. finds_by m rs ss)) put

pub from_one : (v : Value) (n : ℕ) → HasNumber v n → n ≢ 0 → IsFromOne (Some v)
from_one v zero has some = absurd (some refl)
from_one v (suc n) has some = (n, has)

pub finds_in : (r : Result Document Fault) (o : Option Value) (vs : List Value) → o ≡ Some (array (items_of vs)) → IfOk r (λ d. (finds_by 0 [] vs ≡ Some (pairs_of d)) × AreUsed (content d)) → IfOk r (λ d. FindsIn o (content d))
finds_in (Ok d) o vs is (finds, used) = (vs, pairs_of d, is, finds, refl, used)
finds_in (Err e) o vs is finds = tt
