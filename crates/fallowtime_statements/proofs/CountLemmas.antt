-- Pipelines that count.
use Rattle.std.proofs.Common.{◌≡◌, inl, inr, pos, ℕ, suc, List, [], ◌∷◌, length, Option, Some, None, Result, Ok, Err, IfOk, codes, refl, ap, sym, ◌∙◌}
use Rattle.bson_base.specs.Value.{Members, Value, array, int32, look_up, scalar}
use Rattle.bson_model.specs.View.{content, items_of, members_of, view}
use Rattle.bson_model.specs.declared.bson.Bson.{Bson}
use Rattle.bson_model.specs.declared.document.Document.{Document}
use Rattle.bson_pairs.specs.Keyed.{Key}
use Rattle.fallowtime_statements.specs.Counting.{CountsAll, CountsBy, CountsIn, HasNumber, IsConstant, IsCounting, IsCountingOf, IsGroup, IsGroupIn, IsGroupOf, IsLimit, IsMatch, IsSkip, IsSum, operand_of, size}
use Rattle.fallowtime_statements.specs.Lines.{IsGiven}
use Rattle.fallowtime_statements.specs.declared.counting.Counting.{Counting}
use Rattle.fallowtime_statements.specs.declared.fault.Fault.{Fault}

pub size_is : (ps : List (Key × Value)) → size (members_of ps) ≡ length ps
size_is [] = refl
size_is (p ∷ ps) = ap suc (size_is ps)

-- ---- stages

module _ (s v : Value) where
  pub skips : (r : Result ℕ Fault) → Some v ≡ operand_of (codes "$skip") s → IfOk r (HasNumber v) → IfOk r (IsSkip (Some s))
  skips (Ok n) is has = (v, sym is, has)
  skips (Err e) is has = tt

  pub limits : (r : Result ℕ Fault) → Some v ≡ operand_of (codes "$limit") s → IfOk r (HasNumber v) → IfOk r (IsLimit (Some s))
  limits (Ok n) is has = (v, sym is, has)
  limits (Err e) is has = tt

  pub matches : (r : Result Document Fault) → Some v ≡ operand_of (codes "$match") s → IfOk r (λ d. IsGiven (Some v) (content d)) → IfOk r (λ d. IsMatch s (content d))
  matches (Ok d) is given = (v, sym is, given)
  matches (Err e) is given = tt

  pub groups : (r : Result Bson Fault) → Some v ≡ operand_of (codes "$group") s → IfOk r (λ id. IsGroupIn v (view id)) → IfOk r (λ id. IsGroup s (view id))
  groups (Ok id) is of = (v, sym is, of)
  groups (Err e) is of = tt

  pub sums : (r : Result (Unit {0}) Fault) → Some v ≡ operand_of (codes "$sum") s → IfOk r (λ x. v ≡ scalar (int32 (pos 1))) → IfOk r (λ x. IsSum s)
  sums (Ok x) is one = sym is ∙ ap Some one
  sums (Err e) is one = tt

module _ (g : Members) (v : Value) where
  pub counts_all : (r : Result (Unit {0}) Fault) → Some v ≡ look_up (codes "n") g → IfOk r (λ x. IsSum v) → IfOk r (λ x. CountsAll g)
  counts_all (Ok x) is sum = (v, sym is, sum)
  counts_all (Err e) is sum = tt

  pub group_id : (r : Result Bson Fault) → size g ≡ 2 → CountsAll g → Some v ≡ look_up (codes "_id") g → IfOk r (λ id. (view id ≡ v) × IsConstant (view id)) → IfOk r (λ id. IsGroupOf g (view id))
  group_id (Ok id) two all is has = (two, all, sym is ∙ ap Some (sym has.0), has.1)
  group_id (Err e) two all is has = tt

-- ---- pipelines

module _ (r : Result Counting Fault) where
  pub counts_in : (o : Option Value) (vs : List Value) → o ≡ Some (array (items_of vs)) → IfOk r (λ c. IsCounting vs (content c.query) c.skip c.most (view c.id)) → IfOk r (λ c. CountsIn o (content c.query) c.skip c.most (view c.id))
  counts_in o vs is counts = by r counts
    where
      by : (x : Result Counting Fault) → IfOk x (λ c. IsCounting vs (content c.query) c.skip c.most (view c.id)) → IfOk x (λ c. CountsIn o (content c.query) c.skip c.most (view c.id))
      by (Ok c) h = (vs, is, h)
      by (Err e) h = tt

  module _ (a s g : Value) where
    pub by_skip : IfOk r (λ c. CountsBy a (Some s) None g (content c.query) c.skip c.most (view c.id)) → IfOk r (λ c. IsCountingOf a s g (content c.query) c.skip c.most (view c.id))
    by_skip counts = by r counts
      where
        by : (x : Result Counting Fault) → IfOk x (λ c. CountsBy a (Some s) None g (content c.query) c.skip c.most (view c.id)) → IfOk x (λ c. IsCountingOf a s g (content c.query) c.skip c.most (view c.id))
        by (Ok c) h = inl h
        by (Err e) h = tt

    pub by_limit : IfOk r (λ c. CountsBy a None (Some s) g (content c.query) c.skip c.most (view c.id)) → IfOk r (λ c. IsCountingOf a s g (content c.query) c.skip c.most (view c.id))
    by_limit counts = by r counts
      where
        by : (x : Result Counting Fault) → IfOk x (λ c. CountsBy a None (Some s) g (content c.query) c.skip c.most (view c.id)) → IfOk x (λ c. IsCountingOf a s g (content c.query) c.skip c.most (view c.id))
        by (Ok c) h = inr h
        by (Err e) h = tt
