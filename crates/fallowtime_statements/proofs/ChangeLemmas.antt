-- The lines that statements of `update` and `delete` are.
use Rattle.std.proofs.Common.{◌≡◌, ℕ, Bool, true, false, List, Result, Ok, Err, IfOk, codes, refl, subst, sym}
use Rattle.bson_base.specs.Value.{Items, Members, look_up}
use Rattle.bson_bytes.specs.Spells.{Means}
use Rattle.bson_model.specs.declared.extjson.ser.Mode.TheVariants.{Canonical}
use Rattle.fallowtime_words.specs.declared.command.Command.TheVariants as command
use Rattle.fallowtime_statements.specs.Changes.{ChangesBy, IsChange, IsChangeOf, IsRemoval, IsRemovalOf, IsSeveral, change_options, is_update, many_option, upsert_option}
use Rattle.fallowtime_statements.specs.Fields.{AreAllowed}
use Rattle.fallowtime_statements.specs.Lines.{IsLine, IsThere, IsTruth, line_of_four, line_of_three}
use Rattle.fallowtime_statements.specs.declared.statement.Statement.{Statement}
use Rattle.fallowtime_statements.specs.declared.fault.Fault.{Fault}
use Rattle.fallowtime_statements.specs.declared.name.Name.TheVariants as name

module _ (r : Result Statement Fault) (n : List ℕ) where
  module _ (q u o : Members) (vs : Items) (same : vs ≡ line_of_four n q u o) where
    pub update_line : (b many upsert : Bool) → b ≡ true → o ≡ change_options many upsert → IfOk r (IsLine Canonical command.Update vs) → IfOk r (ChangesBy b n q u many upsert)
    update_line b many upsert is options line = by r line
      where
        by : (x : Result Statement Fault) → IfOk x (IsLine Canonical command.Update vs) → IfOk x (ChangesBy b n q u many upsert)
        by (Ok s) h = subst (λ c. ChangesBy c n q u many upsert s) (sym is) (subst (λ p. IsLine Canonical command.Update (line_of_four n q u p) s) options (subst (λ ws. IsLine Canonical command.Update ws s) same h))
        by (Err e) h = tt

    pub replacement_line : (b upsert : Bool) → b ≡ false → o ≡ upsert_option upsert → IfOk r (IsLine Canonical command.ReplaceOne vs) → IfOk r (ChangesBy b n q u false upsert)
    replacement_line b upsert is options line = by r line
      where
        by : (x : Result Statement Fault) → IfOk x (IsLine Canonical command.ReplaceOne vs) → IfOk x (ChangesBy b n q u false upsert)
        by (Ok s) h = subst (λ c. ChangesBy c n q u false upsert s) (sym is) (refl, subst (λ p. IsLine Canonical command.ReplaceOne (line_of_four n q u p) s) options (subst (λ ws. IsLine Canonical command.ReplaceOne ws s) same h))
        by (Err e) h = tt

  module _ (ms : Members) where
    pub is_change : (q u : Members) (many upsert : Bool) → IsThere (look_up (codes "q") ms) q → IsThere (look_up (codes "u") ms) u → IsTruth false (look_up (codes "multi") ms) many → IsTruth false (look_up (codes "upsert") ms) upsert
        → IfOk r (ChangesBy (is_update u) n q u many upsert) → IfOk r (IsChange n ms)
    is_change q u many upsert a b c d line = by r line
      where
        by : (x : Result Statement Fault) → IfOk x (ChangesBy (is_update u) n q u many upsert) → IfOk x (IsChange n ms)
        by (Ok s) h = (q, u, many, upsert, a, b, c, d, h)
        by (Err e) h = tt

    pub is_removal : (q o : Members) (several : Bool) (vs : Items) → IsThere (look_up (codes "q") ms) q → IsSeveral (look_up (codes "limit") ms) several → o ≡ many_option several → vs ≡ line_of_three n q o
        → IfOk r (IsLine Canonical command.Delete vs) → IfOk r (IsRemoval n ms)
    is_removal q o several vs a b options same line = by r line
      where
        by : (x : Result Statement Fault) → IfOk x (IsLine Canonical command.Delete vs) → IfOk x (IsRemoval n ms)
        by (Ok s) h = (q, several, a, b, subst (λ p. IsLine Canonical command.Delete (line_of_three n q p) s) options (subst (λ ws. IsLine Canonical command.Delete ws s) same h))
        by (Err e) h = tt

    module _ (b : List ℕ) (means : Means b ms) where
      pub of_change : AreAllowed name.Change ms → IfOk r (IsChange n ms) → IfOk r (IsChangeOf n b)
      of_change allowed is = by r is
        where
          by : (x : Result Statement Fault) → IfOk x (IsChange n ms) → IfOk x (IsChangeOf n b)
          by (Ok s) h = (ms, means, allowed, h)
          by (Err e) h = tt

      pub of_removal : AreAllowed name.Removal ms → IfOk r (IsRemoval n ms) → IfOk r (IsRemovalOf n b)
      of_removal allowed is = by r is
        where
          by : (x : Result Statement Fault) → IfOk x (IsRemoval n ms) → IfOk x (IsRemovalOf n b)
          by (Ok s) h = (ms, means, allowed, h)
          by (Err e) h = tt
