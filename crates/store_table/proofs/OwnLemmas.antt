-- A schema whose only table is ours.
use Rattle.std.proofs.Common.{codes, Result, Ok, Err, ◌≡◌, ◌≤◌, ◌<◌, ◌^◌, nat_le, ℕ, List, [], ◌∷◌, length, get_or, Bool, true, false, cond, Some, None, refl, sym, ap, subst, ◌∙◌, arith}
use Rattle.std.proofs.lemmas.Bool.Decides.{Decides-eqb}
use Rattle.std.specs.Prelude.{IfOk, IsTrue}
use Rattle.std.specs.declared.alloc.AllocError.{AllocError}
use Rattle.sqlite_schema.specs.Names.{same_name}
use Rattle.sqlite_tied.specs.Compute.{everything}
use Rattle.sqlite.specs.Table.{Table}
use Rattle.sqlite.specs.Schema.{Schema}
use Rattle.store_table.specs.Schema.{documents_at, HasDocuments, HasStoreTable}

-- a list of one
pub only : {X : Type 0} (xs : List X) (x : X) → 1 ≤ length xs → length xs < 2 → x ≡ get_or xs 0 x → xs ≡ x ∷ []
only [] x low high is = absurd (omega (arith, low))
only (y ∷ []) x low high is = ap (λ z. z ∷ []) (sym is)
only (y ∷ (z ∷ xs)) x low high is = absurd (omega (arith, high))

own_name : same_name (codes "documents") (codes "documents") ≡ true
unfolding everything
own_name = refl

stands_alone : (tree : ℕ) → nat_le (2 ^ 31) tree ≡ false → HasDocuments (documents_at tree ∷ []) 0 tree
stands_alone tree stored = record {
  named = ap (λ (b : Bool). cond b (Some 0) None) own_name;
  at = refl;
  stored = stored;
  own = ap (λ (b : Bool). cond b (Some (documents_at tree)) None) ((Decides-eqb tree tree).1 refl);
  unreferred = (tt, tt);
}

pub alone : (schema : Schema) (t : Table) → schema.tables ≡ t ∷ [] → t ≡ documents_at t.tree → nat_le (2 ^ 31) t.tree ≡ false → HasStoreTable schema
alone schema t one ours stored = (0, t.tree, subst (λ (ts : List Table). HasDocuments ts 0 t.tree) (sym (one ∙ ap (λ (x : Table). x ∷ []) ours)) (stands_alone t.tree stored))

pub alone_if : (schema : Schema) (t : Table) (r : Result Bool AllocError) → schema.tables ≡ t ∷ [] → IfOk r (λ own. IsTrue own → t ≡ documents_at t.tree) → IfOk r (λ own. IsTrue own → nat_le (2 ^ 31) t.tree ≡ false)
    → IfOk r (λ own. IsTrue own → HasStoreTable schema)
alone_if schema t (Ok own) one ours stored = λ is. alone schema t one (ours is) (stored is)
alone_if schema t (Err e) one ours stored = tt
