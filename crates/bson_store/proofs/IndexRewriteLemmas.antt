-- Indexes are kept where a row gets another body.
use Rattle.std.proofs.Common.{◌≡◌, ◌<ℤ◌, ◌∷◌, [], ℕ, ℤ, List, Bool, true, false, cond, Option, Some, option_map, find, Ok, Err, Vec, Global, refl, sym, subst, ◌∙◌}
use Rattle.std.specs.List.{AllByRecursion}
use Rattle.std.proofs.lemmas.Bool.Decides.{Decides-int_eq}
use Rattle.sqlite.specs.State.{State}
use Rattle.bson_store.specs.Find.{Finds}
use Rattle.bson_store.specs.declared.indexed.indexes.Indexes.{Indexes}
use Rattle.store_table.specs.Moves.{Moves, WasOpen}
use Rattle.store_table.specs.Rows.{TableRow, IsRising, is_at, with_body_at}
use Rattle.store_table.specs.declared.fault.Fault.{Fault}
use Rattle.store_table.proofs.PlaceLemmas.{not_at_above, at_same, all_past, past, none_changed}
use Rattle.store_table.proofs.StatementLemmas.{seen}
use Rattle.bson_store.specs.Changing.{Rewrites}
use Rattle.bson_store.specs.Kept.{FindsRow, FindsRows, HasKept}
use Rattle.bson_store.proofs.KeepLemmas.{keeps, read_keeps}

some_is : {X : Type 0} {a b : X} → Some a ≡ Some b → a ≡ b
some_is e = cc

module _ (ixs jxs : Indexes) (place : ℤ) (kept : (c : List ℕ) (p : ℤ) (b : List ℕ) → (p ≡ place → ⊥) → Finds ixs c p b → Finds jxs c p b) where
  others : (docs : List TableRow) → AllByRecursion (λ (d : TableRow). place <ℤ d.place) docs → FindsRows ixs docs → FindsRows jxs docs
  others [] above h = tt
  others (d ∷ docs) above h = (kept d.coll d.place d.body (λ same. let x : true ≡ false = sym (at_same place d same) ∙ not_at_above place d above.0 in absurd (cc)) h.0, others docs above.1 h.1)

  pub rewritten : (coll body : List ℕ) (docs : List TableRow) → IsRising docs → Some coll ≡ option_map (λ (d : TableRow). d.coll) (find (is_at place) docs) → Finds jxs coll place body → FindsRows ixs docs → FindsRows jxs (with_body_at place body docs)
  rewritten coll body [] up at one h = tt
  rewritten coll body (d ∷ docs) up at one h = by (is_at place d) refl at (λ e. rewritten coll body docs up.1 e one h.1)
    where
      by : (b : Bool) → is_at place d ≡ b → Some coll ≡ option_map (λ (x : TableRow). x.coll) (cond b (Some d) (find (is_at place) docs))
          → (Some coll ≡ option_map (λ (x : TableRow). x.coll) (find (is_at place) docs) → FindsRows jxs (with_body_at place body docs))
          → FindsRow jxs (cond b (record d { body = body }) d) × FindsRows jxs (with_body_at place body docs)
      by true e c rest =
          let here : d.place ≡ place = (Decides-int_eq d.place place).0 e in
          let above = all_past place d docs here up.0 in (
            subst (λ k. Finds jxs k d.place body) (some_is c) (subst (λ (p : ℤ). Finds jxs coll p body) (sym here) one),
            subst (FindsRows jxs) (sym (none_changed place (λ x. record x { body = body }) docs (past place docs above).0)) (others docs above h.1),
          )
      by false e c rest = (kept d.coll d.place d.body (λ same. let x : true ≡ false = sym (at_same place d same) ∙ e in absurd (cc)) h.0, rest c)

pub rewrite_kept : {shown : Bool} (old new : State) (ixs jxs : Indexes) (place : ℤ) (body : List ℕ) (coll : Vec ℕ Global) → Moves old new (Rewrites place body (Ok (Some coll))) → WasOpen {A = Option (Vec ℕ Global)} {E = Fault} old new (Ok (Some coll))
    → (ixs.list.items ≡ [] → jxs.list.items ≡ []) → ((c : List ℕ) (p : ℤ) (b : List ℕ) → (p ≡ place → ⊥) → Finds ixs c p b → Finds jxs c p b) → Finds jxs coll.items place body → HasKept old shown ixs → HasKept new shown jxs
rewrite_kept old new ixs jxs place body coll moves was none kept noted =
    keeps old new ixs jxs (Rewrites place body (Ok (Some coll))) moves none
    (λ clean docs after stands p finds.
    let holds = stands (was clean docs stands).0 in
    subst (FindsRows jxs) (sym p.done) (rewritten ixs jxs place kept coll.items body docs (seen holds.table).rising p.found noted finds))

pub rewrite_refused : {shown : Bool} (old new : State) (ixs : Indexes) (place : ℤ) (body : List ℕ) (x : Fault) → Moves old new (Rewrites place body (Err x)) → HasKept old shown ixs → HasKept new shown ixs
rewrite_refused old new ixs place body x moves = read_keeps old new ixs (Rewrites place body (Err x)) moves (λ docs after p. p.refused)
