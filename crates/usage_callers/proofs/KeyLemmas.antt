-- What is under a key after a write.
use Rattle.std.proofs.Common.{◌≡◌, List, [], ◌∷◌, Bool, true, false, cond, Some, None, Result, Ok, Err, OnOk, bytes_eq, refl, ap, ◌∙◌}
use Rattle.std.specs.Cmp.Lexicographic.{nat_list_eq_equiv}
use Rattle.bson_model.specs.Keyed.{Key, get, put}

module _ {V : Type 0} (k : Key) (v : V) where
  pub get-put : (ps : List (Key × V)) → get k (put k v ps) ≡ Some v
  get-put [] = ap (λ b. cond b (Some v) None) (nat_list_eq_equiv.refl k)
  get-put (p ∷ ps) = by (bytes_eq k p.0) refl (get-put ps)
    where
      by : (b : Bool) → bytes_eq k p.0 ≡ b → get k (put k v ps) ≡ Some v → get k (cond b ((p.0, v) ∷ ps) (p ∷ put k v ps)) ≡ Some v
      by true e rest = rw e refl
      by false e rest = rw e rest

  -- a call that puts it, and says so of its Ok
  pub found_under : {A E : Type 0} (r : Result A E) (q : Key) (w : V) (ps qs : List (Key × V)) → OnOk r (qs ≡ put q w ps) → q ≡ k → w ≡ v → OnOk r (get k qs ≡ Some v)
  found_under (Ok x) q w ps qs puts key value = ap (get k) puts ∙ ap (λ l. get k (put l w ps)) key ∙ ap (λ u. get k (put k u ps)) value ∙ get-put ps
  found_under (Err e) q w ps qs puts key value = tt
