-- What the exits of the calls come to, in the words of the store.
use Rattle.std.proofs.Common.{◌≡◌, ◌≢◌, ◌⊎◌, inl, inr, ℕ, ℤ, List, Bool, true, false, find, Option, Some, None, Result, Ok, Err, Vec, Global, refl, sym, ap, subst, ◌∙◌}
use Rattle.std.proofs.Math.Logic.{∥∥₁_map}
use Rattle.std.specs.Prelude.{IfErr, IsTrue, IsUtf8, OnOk, option_map}
use Rattle.std.specs.Cow.{cow_slice_items}
use Rattle.sqlite_disk.specs.declared.Disk.{Ghosts}
use Rattle.sqlite_btree.specs.Cut.{IsIn}
use Rattle.sqlite_pool.specs.Stored.{Keeps}
use Rattle.sqlite_wal.specs.Recovery.{Image}
use Rattle.sqlite.specs.Effect.{Database}
use Rattle.bson_base.specs.Value.{Members, Value}
use Rattle.store_table.specs.Rows.{TableRow, is_row_named, with_body_at, without_place}
use Rattle.store_table.specs.Moves.{FindsRow, IsRoomFor, with_row}
use Rattle.store_table.specs.declared.fault.Fault.{Fault}
use Rattle.store_table.specs.declared.fault.Fault.TheVariants as faults
use Rattle.store_table.specs.declared.row.Found.{Found}
use Rattle.store_documents.specs.Bodies.{AnswersKept, AnswersWritten, IsKeyOf}
use Rattle.store_documents.specs.declared.change.Unset.{Unset}
use Rattle.store_documents.specs.declared.write.KeptRow.{KeptRow}
use Rattle.store_model.specs.Left.{HoldsAfter}
use Rattle.store_model.specs.Reading.{Reading, ReadsBytes, readable}
use Rattle.store_model.specs.State as model
use Rattle.store_model.specs.State.{Call, Command, Form, IsFreeKey, IsName, Reply, bytes, done, flag, get_raw, in_bytes, insert, on, refused, remove, replace, unset}
use Rattle.store_model.specs.Table.{DocumentTable, IsRefusal, state_of as lists_of}
use Rattle.store_model.specs.declared.error.ErrorKind.{ErrorKind}
use Rattle.store_model.specs.declared.error.ErrorKind.TheVariants as kind
use Rattle.store_model.specs.declared.error.StoreError.{StoreError}
use Rattle.store_model.proofs.LeftLemmas.{left_after, left_before}
use Rattle.store_model.proofs.ManyLemmas.{bytes_alike}
use Rattle.bson_store.specs.Calls.{Does, DoesBytes, DoesRead}
use Rattle.bson_store.specs.Refusals.{as_done, as_flag, kind_of_fault, reply_by}
use Rattle.bson_store.specs.Shown.{Represents}
use Rattle.bson_store.proofs.CrashLemmas.{step_of}
use Rattle.bson_store.proofs.FindLemmas.{found_looks, got, not_there, removed, there, unchanged}
use Rattle.bson_store.proofs.ReplaceLemmas.{not_put_in_place, put_in_place, replace_none}
use Rattle.bson_store.proofs.RewriteLemmas.{Remakes, rewritten}
use Rattle.bson_store.proofs.ServeLemmas.{duplicate, not_put_in, put_in, written_fits}
use Rattle.bson_store.proofs.SetLemmas.{unset_remakes, unset_stays}
use Rattle.store_table.specs.Store.{HoldRows}
use Rattle.store_table.specs.Writer.{Leaves, LeavesEither, Serves, size_of, state_of}
use Rattle.store_table.specs.declared.pages.writer.Writer.{Writer}
use Rattle.fallowtime_front.specs.Changes.{Along, Committed, HoldState, IsUnfound, LeavesBytes, LeavesCall, IsLeftBy, Reads, Turned, Turns, outcome}
use Rattle.fallowtime_front.proofs.WriteLemmas.{kept_left, on_ok}

-- a place that was found, or that there is none
abbrev pub PlaceIs : List ℕ → List ℕ → Option ℤ → List TableRow → Type 0
PlaceIs n k f docs = f ≡ option_map (λ (d : TableRow). d.place) (find (is_row_named n k) docs)

-- ---- what a crash leaves

pub shows_before : (first : Database) (size : ℕ) (docs : List TableRow) (a : DocumentTable) (left : Image) → ∥ HoldRows first size left docs ∥₁ → Represents docs a → HoldState first size left (lists_of a)
shows_before first size docs a left h shown = ∥∥₁_map h (λ r. (docs, r, (a, shown, refl)))

module _ {D : Type 0} {g : Ghosts D} (first : Database) (old new : Writer D g) (docs : List TableRow) where
  abbrev Before : DocumentTable → Image → Type 0
  Before a x = HoldState first (size_of new) x (lists_of a)

  -- an accepted call
  accepted_left : (c : Command) (r : Reply) → (IsRefusal r → ⊥) → (made : List TableRow) → Does c r docs made → (Leaves first old docs → Leaves first new made)
      → Leaves first old docs → (a : DocumentTable) → Represents docs a → (left : Image) → (state_of new).may_leave left → IsLeftBy new c r first a left
  accepted_left c r accepted made does leaves all a shown left may =
      let d = does a shown in
      left_after (HoldState first (size_of new)) (Before a) (lists_of a) c r left accepted (lists_of d.0, step_of a c r d.0 accepted d.2, shows_before first (size_of new) made d.0 left (leaves all left may) d.1)

  -- a refused one that wrote nothing durable
  refused_left : (c : Command) (k : ErrorKind) (i : Option ℕ) → Leaves first new docs → (a : DocumentTable) → Represents docs a → (left : Image) → (state_of new).may_leave left → IsLeftBy new c (refused k i) first a left
  refused_left c k i all a shown left may = left_before (HoldState first (size_of new)) (Before a) (lists_of a) c k i left (shows_before first (size_of new) docs a left (all left may) shown)

  -- a commit that was refused
  uncommitted_left : (c : Command) (q : Reply) → (IsRefusal q → ⊥) → (made : List TableRow) → Does c q docs made → (e : Fault) → Committed first old new (Err e) docs made
      → Leaves first old docs → (a : DocumentTable) → Represents docs a → (left : Image) → (state_of new).may_leave left → IsLeftBy new c (refused (kind_of_fault e) None) first a left
  uncommitted_left c q accepted made does faults.Places h all a shown left may = refused_left c kind.Places None (h.full refl all) a shown left may
  uncommitted_left c q accepted made does faults.Memory h all a shown left may = elim (h.crash all left may) [
    | inl was ↦ inl (shows_before first (size_of new) docs a left was shown)
    | inr now ↦ let d = does a shown in inr (q, (lists_of d.0, step_of a c q d.0 accepted d.2, shows_before first (size_of new) made d.0 left now d.1))
  ]
  uncommitted_left c q accepted made does faults.Database h all a shown left may = elim (h.crash all left may) [
    | inl was ↦ inl (shows_before first (size_of new) docs a left was shown)
    | inr now ↦ let d = does a shown in inr (q, (lists_of d.0, step_of a c q d.0 accepted d.2, shows_before first (size_of new) made d.0 left now d.1))
  ]

  -- a change that was made, whatever became of its commit
  pub change_left : {A : Type 0} (f : A → Reply) (x : A) → (IsRefusal (f x) → ⊥) → (c : Command) (made : List TableRow) → Does c (f x) docs made → (r : Result (Unit {0}) Fault) → Committed first old new r docs made
      → Leaves first old docs → (a : DocumentTable) → Represents docs a → (left : Image) → (state_of new).may_leave left → IsLeftBy new c (reply_by (λ (u : Unit {0}). f x) (outcome r)) first a left
  change_left f x accepted c made does (Ok u) h all a shown left may = accepted_left c (f x) accepted made does (λ _. h.done) all a shown left may
  change_left f x accepted c made does (Err e) h all a shown left may = uncommitted_left c (f x) accepted made does e h all a shown left may

-- ---- calls that wrote nothing

module _ {D : Type 0} {g : Ghosts D} (old new : Writer D g) (k : Keeps (state_of old) (state_of new)) where
  pub call_refused : (n : List ℕ) (call : Call) (e : ErrorKind) (i : Option ℕ) → LeavesCall old new n call (refused e i)
  call_refused n call e i clean first docs serves all a shown left may = refused_left first old new docs (on n call) e i (kept_left first old new docs k all) a shown left may

  pub bytes_refused : (n b : List ℕ) (call : Reading → Call) (e : ErrorKind) (i : Option ℕ) → LeavesBytes old new n call b (refused e i)
  bytes_refused n b call e i x reads = call_refused n (call x) e i

  -- a call that was accepted and changes nothing
  pub call_stays : (n : List ℕ) (call : Call) (r : Reply) → (IsRefusal r → ⊥) → Reads old new (Does (on n call) r) → LeavesCall old new n call r
  call_stays n call r accepted reads clean first docs serves all a shown left may =
      accepted_left first old new docs (on n call) r accepted docs (reads clean first docs serves).0 (λ own. kept_left first old new docs k own) all a shown left may

  pub turn_stays : {A : Type 0} (r : A → Reply) (x : A) (c : Command) → Reads old new (Does c (r x)) → Turns old new (Ok x) (Does c (r x))
  turn_stays r x c reads clean first docs serves = (docs, (reads clean first docs serves).0, λ all. kept_left first old new docs k all)

-- ---- what was found before a change

module _ {D : Type 0} {g : Ghosts D} where
  -- a change that was made behind calls that only read
  pub since : (first : Database) (old mid new : Writer D g) (r : Result (Unit {0}) Fault) (docs made : List TableRow) → Keeps (state_of old) (state_of mid) → Committed first mid new r docs made → Committed first old new r docs made
  since first old mid new (Ok x) docs made k h = record { done = h.done; crash = tt; full = tt }
  since first old mid new (Err e) docs made k h = record {
    done = tt;
    crash = λ all. h.crash (kept_left first old mid docs k all);
    full = λ is all. h.full is (kept_left first old mid docs k all);
  }

module _ {D : Type 0} {g : Ghosts D} (first : Database) (old new : Writer D g) (docs : List TableRow) where
  -- ---- a row that is put in

  -- there was a place; or there was none, and that is the refusal
  abbrev pub HasPlace : Result (Unit {0}) Fault → Type 0
  HasPlace r = (IsRoomFor 1 docs × IfErr r (λ e. e ≢ faults.Places)) ⊎ ((r ≡ Err faults.Places) × ¬ IsRoomFor 1 docs)

  module _ (n b : List ℕ) (w : KeptRow) (kept : AnswersKept b (Ok w)) (good : IsName n) (text : IsUtf8 n) (none : PlaceIs n w.key.items None docs) where
    abbrev with_it : List TableRow
    with_it = with_row n w.key.items (cow_slice_items w.body) docs

    goes_in : IsRoomFor 1 docs → Does (on n (insert in_bytes (readable kept.0))) done docs with_it
    goes_in room =
        put_in docs docs with_it n w.key.items (cow_slice_items w.body) kept.0 good text (written_fits kept.0 w kept.2 kept.3) (record { same = refl; found = none; faults = tt })
        (record { done = refl; room = room; refused = tt; full = tt }) in_bytes

    stays_out : (e : Fault) → (e ≡ faults.Places → ¬ IsRoomFor 1 docs) → Does (on n (insert in_bytes (readable kept.0))) (refused (kind_of_fault e) None) docs docs
    stays_out e full =
        not_put_in docs docs docs n w.key.items (cow_slice_items w.body) kept.0 e good (written_fits kept.0 w kept.2 kept.3) (record { same = refl; found = none; faults = tt })
        (record { done = tt; room = tt; refused = refl; full = full }) in_bytes

    pub insert_turns : (r : Result (Unit {0}) Fault) → HasPlace r → Committed first old new r docs with_it → Turned first old new (outcome r) (DoesBytes n (insert in_bytes) b (reply_by as_done (outcome r))) docs
    insert_turns (Ok x) (inl room) h = (with_it, (readable kept.0, kept.1, goes_in room.0), λ _. h.done)
    insert_turns (Ok x) (inr full) h = cc
    insert_turns (Err e) (inl room) h = (readable kept.0, kept.1, stays_out e (λ is. absurd (room.1 is)))
    insert_turns (Err e) (inr full) h = (readable kept.0, kept.1, stays_out e (λ _. full.1))

    pub insert_leaves : (r : Result (Unit {0}) Fault) → HasPlace r → Committed first old new r docs with_it → Leaves first old docs → (a : DocumentTable) → Represents docs a → (left : Image) → (state_of new).may_leave left
        → IsLeftBy new (on n (insert in_bytes (readable kept.0))) (reply_by as_done (outcome r)) first a left
    insert_leaves r (inl room) h all = change_left first old new docs as_done tt (λ e. e) (on n (insert in_bytes (readable kept.0))) with_it (goes_in room.0) r h all
    insert_leaves (Ok x) (inr full) h all = cc
    insert_leaves (Err e) (inr full) h all = let is : e ≡ faults.Places = cc in refused_left first old new docs (on n (insert in_bytes (readable kept.0))) (kind_of_fault e) None (h.full is all)

  -- a document with its `_id` is there
  pub is_duplicate : (n b : List ℕ) (w : KeptRow) → AnswersKept b (Ok w) → IsName n → (p : ℤ) → PlaceIs n w.key.items (Some p) docs → DoesBytes n (insert in_bytes) b (refused kind.DuplicateId None) docs docs
  is_duplicate n b w kept good p found =
      (readable kept.0, kept.1, duplicate docs docs n w.key.items (cow_slice_items w.body) kept.0 p good (written_fits kept.0 w kept.2 kept.3) (record { same = refl; found = found; faults = tt }) in_bytes)

  -- ---- a row that gets another body

  module _ (n b : List ℕ) (w : KeptRow) (kept : AnswersKept b (Ok w)) (good : IsName n) where
    pub is_unfound : FindsRow n w.key.items (Ok None) docs docs → DoesBytes n (replace in_bytes) b (refused kind.NotFound None) docs docs
    is_unfound found = (readable kept.0, kept.1, replace_none docs docs n w.key.items (cow_slice_items w.body) kept.0 good (written_fits kept.0 w kept.2 kept.3) found in_bytes)

    module _ (f : Found) (found : FindsRow n w.key.items (Ok (Some f)) docs docs) where
      abbrev in_place : List TableRow
      in_place = with_body_at f.place (cow_slice_items w.body) docs

      goes_there : Does (on n (replace in_bytes (readable kept.0))) done docs in_place
      goes_there = put_in_place docs docs in_place n w.key.items (cow_slice_items w.body) kept.0 f good (written_fits kept.0 w kept.2 kept.3) found (record { done = refl; refused = tt; faults = tt }) in_bytes

      pub replace_turns : (r : Result (Unit {0}) Fault) → IfErr r (λ e. e ≢ faults.Places) → Committed first old new r docs in_place → Turned first old new (outcome r) (DoesBytes n (replace in_bytes) b (reply_by as_done (outcome r))) docs
      replace_turns (Ok x) other h = (in_place, (readable kept.0, kept.1, goes_there), λ _. h.done)
      replace_turns (Err e) other h = (
        readable kept.0,
        kept.1,
        not_put_in_place docs docs docs n w.key.items (cow_slice_items w.body) kept.0 f e good (written_fits kept.0 w kept.2 kept.3) found (record { done = tt; refused = refl; faults = other }) in_bytes,
      )

      pub replace_leaves : (r : Result (Unit {0}) Fault) → Committed first old new r docs in_place → Leaves first old docs → (a : DocumentTable) → Represents docs a → (left : Image) → (state_of new).may_leave left
          → IsLeftBy new (on n (replace in_bytes (readable kept.0))) (reply_by as_done (outcome r)) first a left
      replace_leaves r h = change_left first old new docs as_done tt (λ e. e) (on n (replace in_bytes (readable kept.0))) in_place goes_there r h

  -- ---- by an id

  module _ (n k : List ℕ) (id : Value) (good : IsName n) (own : IsKeyOf k id) where
    pub got_none : FindsRow n k (Ok None) docs docs → Does (on n (get_raw id)) (refused kind.NotFound None) docs docs
    got_none found = not_there docs docs n id (get_raw id) good (λ a none. inr (none, (refl, refl))) (found_looks docs docs n k id None own found)

    pub removes_none : FindsRow n k (Ok None) docs docs → Does (on n (remove id)) (refused kind.NotFound None) docs docs
    removes_none found = not_there docs docs n id (remove id) good (λ a none. inr (none, (refl, refl))) (found_looks docs docs n k id None own found)

    pub unsets_none : (key : List ℕ) → IsFreeKey key → FindsRow n k (Ok None) docs docs → Does (on n (unset id key)) (refused kind.NotFound None) docs docs
    unsets_none key free found = not_there docs docs n id (unset id key) good (λ a none. inl (free, inr (none, (refl, refl)))) (found_looks docs docs n k id None own found)

    module _ (f : Found) (found : FindsRow n k (Ok (Some f)) docs docs) where
      pub got_body : Does (on n (get_raw id)) (bytes f.body.items) docs docs
      got_body = there docs docs n id f (get_raw id) (bytes f.body.items) good (λ x. x) (found_looks docs docs n k id (Some f) own found) (got id f)

      goes : Does (on n (remove id)) done docs (without_place f.place docs)
      goes = removed docs docs (without_place f.place docs) n id f good (found_looks docs docs n k id (Some f) own found) (record { done = refl; refused = tt; faults = tt })

      pub remove_turns : (r : Result (Unit {0}) Fault) → IfErr r (λ e. e ≢ faults.Places) → Committed first old new r docs (without_place f.place docs) → Turned first old new (outcome r) (Does (on n (remove id)) (reply_by as_done (outcome r))) docs
      remove_turns (Ok x) other h = (without_place f.place docs, goes, λ _. h.done)
      remove_turns (Err e) other h =
          unchanged docs docs docs n id f (remove id) (without_place f.place) e good (λ x. x) (found_looks docs docs n k id (Some f) own found) (record { done = tt; refused = refl; faults = other })

      pub remove_leaves : (r : Result (Unit {0}) Fault) → Committed first old new r docs (without_place f.place docs) → Leaves first old docs → (a : DocumentTable) → Represents docs a → (left : Image) → (state_of new).may_leave left
          → IsLeftBy new (on n (remove id)) (reply_by as_done (outcome r)) first a left
      remove_leaves r h = change_left first old new docs as_done tt (λ e. e) (on n (remove id)) (without_place f.place docs) goes r h

      module _ (key : List ℕ) (free : IsFreeKey key) (u : Unset) (unsets : (d : Members) → model.IsKept d → f.body.items ≡ Rattle.bson_bytes.specs.Encode.encode d → Rattle.store_documents.specs.Bodies.AnswersUnset key d (Ok u)) where
        pub lacks_key : u.was_there ≡ false → Does (on n (unset id key)) (flag false) docs docs
        lacks_key away = there docs docs n id f (unset id key) (flag false) good (λ bad. bad free) (found_looks docs docs n k id (Some f) own found) (unset_stays id key f u free away unsets)

        module _ (was : u.was_there ≡ true) where
          abbrev without_it : List TableRow
          without_it = with_body_at f.place u.body.items docs

          loses_key : Does (on n (unset id key)) (flag true) docs without_it
          loses_key =
              rewritten docs docs without_it n id f (unset id key) (flag true) u.body.items good (λ sound. sound) (found_looks docs docs n k id (Some f) own found) (unset_remakes id key f u free was unsets)
              (record { done = refl; refused = tt; faults = tt })

          pub unset_turns : Committed first old new (Ok tt) docs without_it → Turned first old new (Ok true) (Does (on n (unset id key)) (flag true)) docs
          unset_turns h = (without_it, loses_key, λ _. h.done)

          pub unset_leaves : (r : Result (Unit {0}) Fault) → Committed first old new r docs without_it → Leaves first old docs → (a : DocumentTable) → Represents docs a → (left : Image) → (state_of new).may_leave left
              → IsLeftBy new (on n (unset id key)) (reply_by (λ (x : Unit {0}). flag true) (outcome r)) first a left
          unset_leaves r h = change_left first old new docs as_flag true (λ e. e) (on n (unset id key)) without_it loses_key r h

      pub not_unset : (key : List ℕ) → IsFreeKey key → (b : List ℕ) → (e : Fault) → e ≢ faults.Places → Does (on n (unset id key)) (refused (kind_of_fault e) None) docs docs
      not_unset key free b e other =
          unchanged docs docs docs n id f (unset id key) (with_body_at f.place b) e good (λ bad. bad free) (found_looks docs docs n k id (Some f) own found) (record { done = tt; refused = refl; faults = other })
