-- Exits of the calls, by what their steps promise of the very bytes that they are handed.
use Rattle.std.proofs.Common.{◌≡◌, ◌≢◌, ℕ, ℤ, List, find, Option, Some, None, Result, Ok, Err, sym, ap, subst, ◌∙◌}
use Rattle.std.specs.Prelude.{IfErr, IsTrue, IsUtf8}
use Rattle.std.specs.Cow.{cow_slice_items}
use Rattle.sqlite_disk.specs.declared.Disk.{Ghosts}
use Rattle.sqlite_btree.specs.Cut.{IsIn}
use Rattle.sqlite_pool.specs.Stored.{Keeps}
use Rattle.sqlite_wal.specs.Recovery.{Image}
use Rattle.sqlite.specs.Effect.{Database}
use Rattle.store_table.specs.Rows.{TableRow, is_row_named, with_body_at, without_place}
use Rattle.store_table.specs.Moves.{FindsRow, with_row}
use Rattle.store_table.specs.declared.fault.Fault.{Fault}
use Rattle.store_table.specs.declared.fault.Fault.TheVariants as faults
use Rattle.store_table.specs.declared.row.Found.{Found}
use Rattle.store_documents.specs.Bodies.{AnswersKept}
use Rattle.store_documents.specs.declared.write.KeptRow.{KeptRow}
use Rattle.store_model.specs.Reading.{Reading, ReadsBytes, readable}
use Rattle.store_model.specs.State.{IsName, in_bytes, insert, on, replace}
use Rattle.store_model.specs.Table.{DocumentTable}
use Rattle.store_model.specs.Refusal.{refusal}
use Rattle.store_model.specs.declared.error.StoreError.{StoreError}
use Rattle.store_model.proofs.ManyLemmas.{bytes_alike}
use Rattle.bson_store.specs.Calls.{DoesBytes}
use Rattle.bson_store.specs.Refusals.{as_done, kind_of_fault, reply_by}
use Rattle.bson_store.specs.Shown.{Represents}
use Rattle.bson_store.proofs.ServeLemmas.{none_is}
use Rattle.store_table.specs.Store.{row_at}
use Rattle.store_table.specs.Writer.{Leaves, state_of}
use Rattle.store_table.specs.declared.pages.writer.Writer.{Writer}
use Rattle.fallowtime_front.specs.Changes.{Committed, IsLeftBy, IsUnfound, Turned, outcome}
use Rattle.fallowtime_front.proofs.TurnLemmas.{HasPlace, PlaceIs, insert_leaves, insert_turns, replace_leaves, replace_turns, since}
use Rattle.fallowtime_front.proofs.WriteLemmas.{found_as, found_row}

pub place_as : (n k m j : List ℕ) (docs : List TableRow) (o p : Option ℤ) → m ≡ n → j ≡ k → o ≡ p → PlaceIs m j o docs → PlaceIs n k p docs
place_as n k m j docs o p is same none h = subst (λ c. PlaceIs c k p docs) is (subst (λ x. PlaceIs m x p docs) same (subst (λ f. PlaceIs m j f docs) none h))

module _ {D : Type 0} {g : Ghosts D} (first : Database) (old mid new : Writer D g) (docs : List TableRow) (k : Keeps (state_of old) (state_of mid)) (n b : List ℕ) (w : KeptRow) (kept : AnswersKept b (Ok w)) (good : IsName n)
    (m j z : List ℕ) (is : m ≡ n) (same : j ≡ w.key.items) (body : z ≡ cow_slice_items w.body) (r : Result (Unit {0}) Fault) where
  -- a row that is put in
  module _ (text : IsUtf8 n) (o : Option ℤ) (none : o ≡ None) (found : PlaceIs m j o docs) (commits : find (is_row_named m j) docs ≡ None → Committed first mid new r docs (with_row m j z docs)) (room : HasPlace first old new docs r) where
    absent : PlaceIs n w.key.items None docs
    absent = place_as n w.key.items m j docs o None is same none found

    made : Committed first old new r docs (with_row n w.key.items (cow_slice_items w.body) docs)
    made =
        subst (λ x. Committed first old new r docs (with_row n w.key.items x docs)) body
        (subst (λ x. Committed first old new r docs (with_row n x z docs)) same
        (subst (λ x. Committed first old new r docs (with_row x j z docs)) is (since first old mid new r docs _ k (commits (none_is (find (is_row_named m j) docs) (sym none ∙ found))))))

    pub put_turns : Turned first old new (outcome r) (DoesBytes n (insert in_bytes) b (reply_by as_done (outcome r))) docs
    put_turns = insert_turns first old new docs n b w kept good text absent r room made

    pub put_leaves : (x : Reading) → ReadsBytes b x → Leaves first old docs → (a : DocumentTable) → Represents docs a → (left : Image) → (state_of new).may_leave left → IsLeftBy new (on n (insert in_bytes x)) (reply_by as_done (outcome r)) first a left
    put_leaves x reads all a shown left may =
        subst (λ (y : Reading). IsLeftBy new (on n (insert in_bytes y)) (reply_by as_done (outcome r)) first a left) (sym (bytes_alike b kept.0 x kept.1 reads)) (insert_leaves first old new docs n b w kept good text absent r room made all a shown left may)

  -- a row that gets another body
  module _ (f : Found) (o : Option Found) (there : o ≡ Some f) (found : FindsRow m j (Ok o) docs docs) (p : ℤ) (at : p ≡ f.place) (commits : (was : List ℕ) → IsIn (row_at p m j was) docs → Committed first mid new r docs (with_body_at p z docs)) where
    its : FindsRow n w.key.items (Ok (Some f)) docs docs
    its = found_as n w.key.items m j docs o (Some f) is same there found

    own : FindsRow m j (Ok (Some f)) docs docs
    own = subst (λ p. FindsRow m j (Ok p) docs docs) there found

    put_back : Committed first old new r docs (with_body_at f.place (cow_slice_items w.body) docs)
    put_back =
        subst (λ x. Committed first old new r docs (with_body_at f.place x docs)) body
        (since first old mid new r docs _ k (subst (λ q. IsIn (row_at q m j f.body.items) docs → Committed first mid new r docs (with_body_at q z docs)) at (commits f.body.items) (found_row m j docs f own)))

    pub back_turns : IfErr r (λ e. e ≢ faults.Places) → Turned first old new (outcome r) (DoesBytes n (replace in_bytes) b (reply_by as_done (outcome r))) docs
    back_turns other = replace_turns first old new docs n b w kept good f its r other put_back

    pub back_leaves : (x : Reading) → ReadsBytes b x → Leaves first old docs → (a : DocumentTable) → Represents docs a → (left : Image) → (state_of new).may_leave left → IsLeftBy new (on n (replace in_bytes x)) (reply_by as_done (outcome r)) first a left
    back_leaves x reads all a shown left may =
        subst (λ (y : Reading). IsLeftBy new (on n (replace in_bytes y)) (reply_by as_done (outcome r)) first a left) (sym (bytes_alike b kept.0 x kept.1 reads)) (replace_leaves first old new docs n b w kept good f its r put_back all a shown left may)

-- ---- by an id

module _ {D : Type 0} {g : Ghosts D} (first : Database) (old mid new : Writer D g) (docs : List TableRow) (k : Keeps (state_of old) (state_of mid)) (m j : List ℕ) (f : Found) (o : Option Found) (there : o ≡ Some f) (found : FindsRow m j (Ok o) docs docs)
    (r : Result (Unit {0}) Fault) (p : ℤ) (at : p ≡ f.place) where
  here : IsIn (row_at f.place m j f.body.items) docs
  here = found_row m j docs f (subst (λ p. FindsRow m j (Ok p) docs docs) there found)

  pub rewritten : (z y : List ℕ) → z ≡ y → ((was : List ℕ) → IsIn (row_at p m j was) docs → Committed first mid new r docs (with_body_at p z docs)) → Committed first old new r docs (with_body_at f.place y docs)
  rewritten z y body commits =
      subst (λ x. Committed first old new r docs (with_body_at f.place x docs)) body
      (since first old mid new r docs _ k (subst (λ q. IsIn (row_at q m j f.body.items) docs → Committed first mid new r docs (with_body_at q z docs)) at (commits f.body.items) here))

  pub taken : ((was : List ℕ) → IsIn (row_at p m j was) docs → Committed first mid new r docs (without_place p docs)) → Committed first old new r docs (without_place f.place docs)
  taken commits = since first old mid new r docs _ k (subst (λ q. IsIn (row_at q m j f.body.items) docs → Committed first mid new r docs (without_place q docs)) at (commits f.body.items) here)

pub never_unfound : (r : Result (Unit {0}) Fault) → IsUnfound (outcome r) → ⊥
never_unfound (Ok x) h = h
never_unfound (Err faults.Memory) h = cc
never_unfound (Err faults.Database) h = cc
never_unfound (Err faults.Places) h = cc

-- what was changed, or not
module _ {D : Type 0} {g : Ghosts D} (first : Database) (old new : Writer D g) (docs made : List TableRow) where
  pub is_done : (r : Result (Unit {0}) Fault) (x : Unit {0}) → outcome r ≡ Ok x → Committed first old new r docs made → Committed first old new (Ok tt) docs made
  is_done (Ok y) x is h = record { done = h.done; crash = tt; full = tt }
  is_done (Err e) x is h = cc

pub is_refused : (r : Result (Unit {0}) Fault) (e : StoreError) (P : StoreError → Type 0) → outcome r ≡ Err e → IfErr r (λ x. x ≢ faults.Places) → ((x : Fault) → x ≢ faults.Places → P (refusal (kind_of_fault x))) → P e
is_refused (Ok y) e P is other h = cc
is_refused (Err x) e P is other h = let same : refusal (kind_of_fault x) ≡ e = cc in subst P same (h x other)
