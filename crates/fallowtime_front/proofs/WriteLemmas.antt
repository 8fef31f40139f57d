-- Changes of one row that are committed, and rows that are found.
use Rattle.std.proofs.Common.{◌≡◌, ◌≢◌, inl, inr, ℕ, ℤ, List, [], ◌∷◌, find, Option, Some, None, Result, Ok, Err, Vec, Global, refl, sym, ap, subst, ◌∙◌}
use Rattle.std.specs.Prelude.{IfErr, OnOk, option_map}
use Rattle.std.proofs.lemmas.Bool.{cases_Bool, cond-true, cond-false}
use Rattle.sqlite_disk.specs.declared.Disk.{Ghosts}
use Rattle.sqlite_btree.specs.Cut.{IsIn}
use Rattle.sqlite_pool.specs.Stored.{Keeps}
use Rattle.sqlite_pool.specs.StoredLaws.{Keeps-refl}
use Rattle.sqlite_wal.specs.State.{StaysOrFails}
use Rattle.sqlite.specs.Effect.{Database}
use Rattle.store_table.specs.Rows.{TableRow, is_row_named}
use Rattle.store_table.specs.Moves.{FindsRow, parts_of_row}
use Rattle.store_table.specs.declared.fault.Fault.{Fault}
use Rattle.store_table.specs.declared.fault.Fault.TheVariants.{Places}
use Rattle.store_table.specs.declared.row.Found.{Found}
use Rattle.bson_store.proofs.TableLemmas.{named_is}
use Rattle.store_table.specs.Store.{row_at}
use Rattle.store_table.specs.Writer.{Leaves, LeavesEither, Serves, state_of}
use Rattle.store_table.specs.declared.pages.writer.Writer.{Writer}
use Rattle.store_table.proofs.WriterLemmas.{all_kept}
use Rattle.fallowtime_front.specs.Changes.{Committed}

pub on_ok : {A E : Type 0} (r : Result A E) (P : Type 0) → P → OnOk r P
on_ok (Ok x) P h = h
on_ok (Err e) P h = tt

pub never_full : {A : Type 0} (r : Result A Fault) (P : Type 0) → IfErr r (λ e. e ≢ Places) → IfErr r (λ e. e ≡ Places → P)
never_full (Ok x) P h = tt
never_full (Err e) P h = λ is. absurd (h is)

module _ {D : Type 0} {g : Ghosts D} where
  pub kept_itself : (it : Writer D g) → Keeps (state_of it) (state_of it)
  kept_itself it = Keeps-refl (state_of it)

  pub stays_itself : (it : Writer D g) → StaysOrFails (state_of it) (state_of it)
  stays_itself it = (Keeps-refl (state_of it)).stays

  pub kept_left : (first : Database) (old new : Writer D g) (docs : List TableRow) → Keeps (state_of old) (state_of new) → Leaves first old docs → Leaves first new docs
  kept_left first old new docs k all = all_kept first (state_of old) (state_of new) docs k all

  -- a change that wrote nothing durable, and its commit
  pub committed : (first : Database) (old mid new : Writer D g) (r : Result (Unit {0}) Fault) (docs made : List TableRow) → Keeps (state_of old) (state_of mid) → OnOk r (Leaves first new made)
      → (Leaves first mid docs → LeavesEither first new docs made) → IfErr r (λ e. e ≢ Places) → Committed first old new r docs made
  committed first old mid new (Ok x) docs made k done crash faults = record { done = done; crash = tt; full = tt }
  committed first old mid new (Err e) docs made k done crash faults = record { done = tt; crash = λ all. crash (kept_left first old mid docs k all); full = λ is. absurd (faults is) }

  -- there was no place
  pub not_placed : (first : Database) (old new : Writer D g) (docs made : List TableRow) → Keeps (state_of old) (state_of new) → Committed first old new (Err Places) docs made
  not_placed first old new docs made k = record {
    done = tt;
    crash = λ all left may. inl (kept_left first old new docs k all left may);
    full = λ _ all. kept_left first old new docs k all;
  }

-- ---- rows that are found

found_in : (n k : List ℕ) (docs : List TableRow) (d : TableRow) → find (is_row_named n k) docs ≡ Some d → IsIn d docs × (d.coll ≡ n) × (d.idkey ≡ k)
found_in n k [] d h = cc
found_in n k (e ∷ docs) d h = elim (cases_Bool (is_row_named n k e)) [
  | inl met ↦
      let is : Some e ≡ Some d = sym (cond-true _ _ _ met) ∙ h in
      let same : d ≡ e = cc in
      let parts = named_is n k e met in
      (inl same, ap (λ (x : TableRow). x.coll) same ∙ parts.0, ap (λ (x : TableRow). x.idkey) same ∙ parts.1)
  | inr missed ↦
      let rest = found_in n k docs d (sym (cond-false _ _ _ missed) ∙ h) in
      (inr rest.0, rest.1, rest.2)
]

pub found_row : (n k : List ℕ) (docs : List TableRow) (f : Found) → FindsRow n k (Ok (Some f)) docs docs → IsIn (row_at f.place n k f.body.items) docs
found_row n k docs f h = by (find (is_row_named n k) docs) refl h.found
  where
    by : (o : Option TableRow) → find (is_row_named n k) docs ≡ o → Some (f.place, f.body.items) ≡ option_map parts_of_row o → IsIn (row_at f.place n k f.body.items) docs
    by None e h = cc
    by (Some d) e h =
        let there = found_in n k docs d e in
        let parts : ◌≡◌ {A = ℤ × List ℕ} (f.place, f.body.items) (d.place, d.body) = cc in
        let place : d.place ≡ f.place = sym (ap (λ x. x.0) parts) in
        let body : d.body ≡ f.body.items = sym (ap (λ x. x.1) parts) in
        let same : d ≡ row_at f.place n k f.body.items = ap (λ z. row_at z d.coll d.idkey d.body) place ∙ ap (λ c. row_at f.place c d.idkey d.body) there.1 ∙ ap (λ x. row_at f.place n x d.body) there.2 ∙ ap (λ b. row_at f.place n k b) body in
        subst (λ x. IsIn x docs) same there.0

-- the place and the body that were found are those of one row
pub no_row : (n k : List ℕ) (docs : List TableRow) (o : Option ℤ) → o ≡ None → o ≡ option_map (λ (d : TableRow). d.place) (find (is_row_named n k) docs) → FindsRow n k (Ok None) docs docs
no_row n k docs o none told = record { same = refl; found = by (find (is_row_named n k) docs) (sym none ∙ told); faults = tt }
  where
    by : (o : Option TableRow) → None ≡ option_map (λ (d : TableRow). d.place) o → None ≡ option_map parts_of_row o
    by None h = refl
    by (Some d) h = cc

pub row_found : (n k : List ℕ) (docs : List TableRow) (p q : ℤ) (v : Vec ℕ Global) (o : Option ℤ) (w : Option (Vec ℕ Global)) → q ≡ p → o ≡ Some p → o ≡ option_map (λ (d : TableRow). d.place) (find (is_row_named n k) docs)
    → w ≡ Some v → option_map (λ (x : Vec ℕ Global). x.items) w ≡ option_map (λ (d : TableRow). d.body) (find (is_row_named n k) docs) → FindsRow n k (Ok (Some (record { place = q; body = v }))) docs docs
row_found n k docs p q v o w same at place has body = record {
  same = refl;
  found = by (find (is_row_named n k) docs) (sym (ap Some same ∙ sym at ∙ place)) (sym (ap (option_map (λ (x : Vec ℕ Global). x.items)) has) ∙ body);
  faults = tt;
}
  where
    by : (r : Option TableRow) → option_map (λ (d : TableRow). d.place) r ≡ Some q → Some v.items ≡ option_map (λ (d : TableRow). d.body) r → Some (q, v.items) ≡ option_map parts_of_row r
    by None h e = cc
    by (Some d) h e = let place : d.place ≡ q = cc in let body : v.items ≡ d.body = cc in ap (λ z. Some (z, v.items)) (sym place) ∙ ap (λ b. Some (d.place, b)) body

-- the same of a name, a key and a row that are these
pub found_as : (n k m j : List ℕ) (docs : List TableRow) (o p : Option Found) → m ≡ n → j ≡ k → o ≡ p → FindsRow m j (Ok o) docs docs → FindsRow n k (Ok p) docs docs
found_as n k m j docs o p is same row h = subst (λ c. FindsRow c k (Ok p) docs docs) is (subst (λ x. FindsRow m x (Ok p) docs docs) same (subst (λ f. FindsRow m j (Ok f) docs docs) row h))
