-- What a crash leaves after the exits of the calls.
use Rattle.std.proofs.Common.{◌≡◌, ◌≢◌, ◌⊎◌, inl, inr, ℕ, List, Option, None, Some, Result, Ok, Err, IsErr, IsTrue, Vec, Global, refl, sym, subst, subst₂, arith}
use Rattle.serde_json.specs.Data.{Data}
use Rattle.sqlite_trees.specs.Tree.{Trees}
use Rattle.sqlite.specs.Effect.{Database}
use Rattle.sqlite.specs.State.{State, HasCleanDisk, Survives}
use Rattle.sqlite.proofs.StateLemmas.{survives_then}
use Rattle.bson_base.specs.Value.{Value, Members}
use Rattle.store_table.specs.Rows.{TableRow, HasRows, with_body_at, without_place}
use Rattle.store_table.specs.Moves.{Changes, FindsRow, Stands, Moves, MayLeave, WasOpen}
use Rattle.store_table.specs.declared.row.Found.{Found}
use Rattle.bson_base.specs.Kinds.{IsSound}
use Rattle.store_table.specs.declared.fault.Fault.{Fault}
use Rattle.store_table.specs.declared.fault.Fault.TheVariants as faults
use Rattle.store_model.specs.Reading.{Documents, Reading, readable, ReadsBytes, ReadsStream, ReadsTree}
use Rattle.store_model.specs.State as model
use Rattle.store_model.specs.Table.{DocumentTable, state_of, Serves, IsRefusal}
use Rattle.store_model.specs.declared.error.ErrorKind.{ErrorKind}
use Rattle.store_model.proofs.ReadingLemmas.{one_tree}
use Rattle.store_table.proofs.TableLemmas.{left_rows}
use Rattle.store_table.proofs.OthersLemmas.{shows_then}
use Rattle.store_model.specs.Left.{HoldsAfter, LeftBy}
use Rattle.store_model.proofs.LeftLemmas.{left_before, left_after}
use Rattle.bson_store.specs.Shown.{Represents}
use Rattle.bson_store.specs.Calls.{Does, Looks}
use Rattle.bson_store.proofs.ServeLemmas.{Fits}
use Rattle.bson_store.proofs.ReplaceLemmas.{put_in_place}
use Rattle.bson_store.proofs.RewriteLemmas.{Remakes, rewritten}
use Rattle.bson_store.proofs.FindLemmas.{removed}
use Rattle.bson_store.specs.Left.{Holds, Leaves, LeavesBytes, LeavesImport, LeavesMany, LeavesTree, LeavesRead, LeavesRows}
use Rattle.bson_store.specs.Many.{AddsAll}
use Rattle.bson_base.specs.Device.{Feed, TookAll}
use Rattle.store_documents.specs.declared.write.KeptRow.{KeptRow}
use Rattle.store_documents.specs.Judging.{Judges}
use Rattle.store_model.proofs.ManyLemmas.{bytes_alike, streams_alike}
use Rattle.bson_store.specs.Refusals.{as_number, kind_of_fault, reply_by}
use Rattle.store_model.specs.declared.error.StoreError.{StoreError}
use Rattle.bson_store.proofs.MoveLemmas.{Relation, moved}

pub survives_itself : (s : State) → Survives s s (λ _. ⊥)
survives_itself s = record { clean = omega arith; shield = λ h. h; counts = omega arith; limit = refl; closes = λ _ h. inl h; crash = λ _ db h. inl h }

-- a command that wasn't refused was a step
pub step_of : (a : DocumentTable) (c : model.Command) (r : model.Reply) (b : DocumentTable) → (IsRefusal r → ⊥) → Serves a c r b → model.Step (state_of a) c r (state_of b)
step_of a c r b accepted (None, turn) = turn.0
step_of a c r b accepted (Some y, turn) = absurd (accepted (subst IsRefusal (sym turn.0.0) tt))

-- what a change of the rows would make of the state, if it were done
abbrev pub Makes : model.Command → List TableRow → List TableRow → Type 0
Makes c docs after = (a : DocumentTable) → Represents docs a → (q : model.Reply) × (b : DocumentTable) × Represents after b × model.Step (state_of a) c q (state_of b)

pub made_by : (c : model.Command) (q : model.Reply) (docs after : List TableRow) → (IsRefusal q → ⊥) → Does c q docs after → Makes c docs after
made_by c q docs after accepted does a shown = let d = does a shown in (q, d.0, d.1, step_of a c q d.0 accepted d.2)

module _ (s t : State) where
  -- a refused call that wrote nothing
  pub refused_leaves : (c : model.Command) (k : ErrorKind) (i : Option ℕ) → Survives s t (λ _. ⊥) → Leaves s t c (model.refused k i)
  refused_leaves c k i survives clean first docs beside stands a shown db may =
      left_before (Holds first) s.may_leave (state_of a) c k i db (elim (survives.crash clean db may) [ inl was ↦ was | inr none ↦ absurd none ])

  pub err_leaves : {A : Type 0} (f : A → model.Reply) (c : model.Command) (r : Result A StoreError) → IsErr r → Survives s t (λ _. ⊥) → Leaves s t c (reply_by f r)
  err_leaves f c (Ok x) is survives = absurd (let e = is in cc)
  err_leaves f c (Err e) is survives = refused_leaves c e.kind e.document survives

  -- an accepted one, which leaves the connection open, so that the last commit is what a crash leaves
  pub accepted_leaves : (c : model.Command) (r : model.Reply) → (IsRefusal r → ⊥) → (HasCleanDisk t → (docs : List TableRow) → Stands s docs → IsTrue t.is_open)
      → ((db : Trees) → IsTrue t.is_open → t.may_leave db → db ≡ t.committed.trees) → Moves s t (Does c r) → Leaves s t c r
  accepted_leaves c r accepted still settled m clean first docs beside stands a shown db may =
      let x = (m clean).1 docs stands in
      let d = x.2 a shown in
      let up = still clean docs stands in
      let rows : HasRows first db x.0 = left_rows first t x.0 db (x.1 up) (shows_then first s t beside x.3 up) (settled db up may) in
      left_after (Holds first) s.may_leave (state_of a) c r db accepted (state_of d.0, step_of a c r d.0 accepted d.2, inl (x.0, rows, (d.0, d.1, refl)))

left_denied : (first : Database) (before : Trees → Type 0) (x : Fault) → x ≢ faults.Places → (st : model.State) (c : model.Command) (db : Trees) → before db ⊎ ((q : model.Reply) × HoldsAfter (Holds first) st c q db) → LeftBy (Holds first) before st c (model.refused (kind_of_fault x) None) db
left_denied first before faults.Memory other st c db h = h
left_denied first before faults.Database other st c db h = h
left_denied first before faults.Places other st c db h = absurd (other refl)

-- a write that the table refused, after calls that wrote nothing
module _ (s m t : State) (c : model.Command) (change : List TableRow → List TableRow) (P : Relation) (moves : Moves s m P) (same : (docs after : List TableRow) → P docs after → after ≡ docs) (before : Survives s m (λ _. ⊥))
    (makes : (docs after : List TableRow) → P docs after → Makes c docs (change docs)) where
  wanted_leaves : (x : Fault) → x ≢ faults.Places → Survives m t (MayLeave change m) → Leaves s t c (model.refused (kind_of_fault x) None)
  wanted_leaves x other later clean first docs beside stands a shown db may =
      let early : HasCleanDisk m = omega (arith, clean, later.clean) in
      let y = (moves early).1 docs stands in
      left_denied first s.may_leave x other (state_of a) c db (elim (later.crash clean db may) [
        | inl mid ↦ inl (elim (before.crash early db mid) [ inl was ↦ was | inr none ↦ absurd none ])
        | inr made ↦ inr (
            let rows : HasRows first db (change docs) = subst (λ (ds : List TableRow). HasRows first db (change ds)) (same docs y.0 y.2) (made first y.0 (shows_then first s m beside y.3) y.1) in
            let k = makes docs y.0 y.2 a shown in
            (k.0, (state_of k.1, k.3, inl (change docs, rows, (k.1, k.2, refl)))))
      ])

  pub denied_leaves : (x : Fault) → Survives m t (MayLeave change m) → (x ≡ faults.Places → Survives m t (λ _. ⊥)) → Leaves s t c (model.refused (kind_of_fault x) None)
  denied_leaves faults.Memory later full = wanted_leaves faults.Memory (λ e. cc) later
  denied_leaves faults.Database later full = wanted_leaves faults.Database (λ e. cc) later
  denied_leaves faults.Places later full =
      refused_leaves s t c (kind_of_fault faults.Places) None (survives_then s m t (λ _. ⊥) (λ _. ⊥) (λ _. ⊥) (λ _ db none. none) (λ _ db none. none) before (full refl))

  -- the same of a change, which is never refused for lack of places
  pub changed_leaves : (x : Fault) → Survives m t (MayLeave change m) → Moves m t (Changes change (Err x)) → Leaves s t c (model.refused (kind_of_fault x) None)
  changed_leaves x later moved clean first docs beside stands a shown db may =
      let y = (moves (omega (arith, clean, later.clean))).1 docs stands in
      let z = (moved clean).1 y.0 y.1 in
      wanted_leaves x z.2.faults later clean first docs beside stands a shown db may

-- a read, accepted or refused
module _ (s t : State) (c : model.Command) (survives : Survives s t (λ _. ⊥)) (settled : (db : Trees) → IsTrue t.is_open → t.may_leave db → db ≡ t.committed.trees) where
  pub read_leaves : (r : model.Reply) → ((IsRefusal r → ⊥) → HasCleanDisk t → (docs : List TableRow) → Stands s docs → IsTrue t.is_open) → Moves s t (Does c r) → Leaves s t c r
  read_leaves (model.refused k i) still m = refused_leaves s t c k i survives
  read_leaves model.done still m = accepted_leaves s t c model.done (λ e. e) (still (λ e. e)) settled m
  read_leaves (model.flag b) still m = accepted_leaves s t c (model.flag b) (λ e. e) (still (λ e. e)) settled m
  read_leaves (model.number i) still m = accepted_leaves s t c (model.number i) (λ e. e) (still (λ e. e)) settled m
  read_leaves (model.bytes b) still m = accepted_leaves s t c (model.bytes b) (λ e. e) (still (λ e. e)) settled m
  read_leaves (model.bytes_list b) still m = accepted_leaves s t c (model.bytes_list b) (λ e. e) (still (λ e. e)) settled m
  read_leaves (model.json j) still m = accepted_leaves s t c (model.json j) (λ e. e) (still (λ e. e)) settled m
  read_leaves (model.json_list js) still m = accepted_leaves s t c (model.json_list js) (λ e. e) (still (λ e. e)) settled m
  read_leaves (model.names ns) still m = accepted_leaves s t c (model.names ns) (λ e. e) (still (λ e. e)) settled m

  pub result_leaves : {A : Type 0} (f : A → model.Reply) (result : Result A StoreError) → WasOpen s t result → Moves s t (Does c (reply_by f result)) → Leaves s t c (reply_by f result)
  result_leaves f (Ok x) stays m = read_leaves (f x) (λ accepted clean docs stands. (stays clean docs stands).1) m
  result_leaves f (Err e) stays m = read_leaves (model.refused e.kind e.document) (λ accepted. absurd (accepted tt)) m

-- ---- what changes make of the state

change_done : (change : List TableRow → List TableRow) (docs : List TableRow) → Changes change (Ok tt) docs (change docs)
change_done change docs = record { done = refl; refused = tt; faults = tt }

pub row_replaces : (f : model.Form) (docs after : List TableRow) (n k b : List ℕ) (d : Members) (o : Option Found) (x : Found) → model.IsName n → Fits d k b → o ≡ Some x → FindsRow n k (Ok o) docs after → Makes (model.on n (model.replace f (readable d))) docs (with_body_at x.place b docs)
row_replaces f docs after n k b d o x good fits is h =
    made_by (model.on n (model.replace f (readable d))) model.done docs (with_body_at x.place b docs) (λ e. e)
    (put_in_place docs docs (with_body_at x.place b docs) n k b d x good fits (subst (λ p. FindsRow n k (Ok p) docs docs) is (record { same = refl; found = h.found; faults = tt })) (change_done (with_body_at x.place b) docs) f)

found_so : (docs after : List TableRow) (n nb : List ℕ) (id : Value) (o : Option Found) (x : Found) → nb ≡ n → o ≡ Some x → Looks nb id (Ok o) docs after → Looks n id (Ok (Some x)) docs docs
found_so docs after n nb id o x e is h = subst (λ m. Looks m id (Ok (Some x)) docs docs) e (subst (λ p. Looks nb id (Ok p) docs docs) is (record { same = refl; found = h.found; denied = tt }))

pub id_rewrites : (docs after : List TableRow) (n nb : List ℕ) (id : Value) (o : Option Found) (x : Found) (c : model.Call) (q : model.Reply) (b : List ℕ) → model.IsName n → (IsRefusal q → ⊥) → (IsSound id → model.IsCall c) → nb ≡ n → o ≡ Some x → Looks nb id (Ok o) docs after → Remakes id c q x b
    → Makes (model.on n c) docs (with_body_at x.place b docs)
id_rewrites docs after n nb id o x c q b good accepted call e is h remakes =
    made_by (model.on n c) q docs (with_body_at x.place b docs) accepted (rewritten docs docs (with_body_at x.place b docs) n id x c q b good call (found_so docs after n nb id o x e is h) remakes (change_done (with_body_at x.place b) docs))

pub id_removes : (docs after : List TableRow) (n nb : List ℕ) (id : Value) (o : Option Found) (x : Found) → model.IsName n → nb ≡ n → o ≡ Some x → Looks nb id (Ok o) docs after → Makes (model.on n (model.remove id)) docs (without_place x.place docs)
id_removes docs after n nb id o x good e is h =
    made_by (model.on n (model.remove id)) model.done docs (without_place x.place docs) (λ e. e) (removed docs docs (without_place x.place docs) n id x good (found_so docs after n nb id o x e is h) (change_done (without_place x.place) docs))

-- ---- what was read

pub bytes_leave : (s t : State) (n nb b : List ℕ) (call : model.Form → Reading → model.Call) (d : Members) (r : model.Reply) → nb ≡ n → ReadsBytes b (readable d) → LeavesRead nb call d r s t → LeavesBytes n (call model.in_bytes) b r s t
bytes_leave s t n nb b call d r e reads h x told =
    subst (λ (y : Reading). Leaves s t (model.on n (call model.in_bytes y)) r) (sym (bytes_alike b d x reads told)) (subst (λ m. Leaves s t (model.on m (call model.in_bytes (readable d))) r) e (h model.in_bytes))

pub tree_leaves : (s t : State) (n nb : List ℕ) (j : Data) (call : model.Form → Reading → model.Call) (d : Members) (r : model.Reply) → nb ≡ n → ReadsTree j (readable d) → LeavesRead nb call d r s t → LeavesTree n (call model.in_json) j r s t
tree_leaves s t n nb j call d r e reads h x told =
    subst (λ (y : Reading). Leaves s t (model.on n (call model.in_json y)) r) (one_tree j (readable d) x reads told) (subst (λ m. Leaves s t (model.on m (call model.in_json (readable d))) r) e (h model.in_json))

pub many_leave : (s t : State) (n nb : List ℕ) (Reads : Documents → Option ErrorKind → Type 0) → ((ds more : Documents) (stop : Option ErrorKind) → Reads ds None → Reads more stop → (more ≡ ds) × (stop ≡ None)) → (rows : Vec KeptRow Global) (r : Result ℕ StoreError)
    → nb ≡ n → Judges Reads (Ok rows) → LeavesRows nb rows.items r s t → LeavesMany n Reads (reply_by as_number r) s t
many_leave s t n nb Reads one rows r e h adds ds stop told =
    let same = one h.0 ds stop h.1 told in
    subst₂ (λ (more : Documents) (k : Option ErrorKind). Leaves s t (model.on n (model.import more k)) (reply_by as_number r)) (sym same.0) (sym same.1)
    (subst (λ m. Leaves s t (model.on m (model.import h.0 None)) (reply_by as_number r)) e (adds h.0 h.2 h.3 h.4))

pub fed_leave : (s t : State) (n nb bytes : List ℕ) (old new : Feed) (rows : Vec KeptRow Global) (r : Result ℕ StoreError) → nb ≡ n → model.IsName n → TookAll old new bytes → Judges (ReadsStream bytes) (Ok rows) → Moves s t (AddsAll nb rows.items r) → LeavesRows nb rows.items r s t
    → LeavesImport n old new r s t
fed_leave s t n nb bytes old new rows r e good took h moves adds = inr (record {
  name = good;
  bytes = bytes;
  took = took;
  documents = h.0;
  reads = h.1;
  moves = moved s t (AddsAll nb rows.items r) (Does (model.on n (model.import h.0 None)) (reply_by as_number r)) moves
      (λ docs after added. subst (λ m. Does (model.on m (model.import h.0 None)) (reply_by as_number r) docs after) e (added.does h.0 h.2 h.3 h.4));
  crash = subst (λ m. Leaves s t (model.on m (model.import h.0 None)) (reply_by as_number r)) e (adds h.0 h.2 h.3 h.4);
})

-- a source that gives these bytes and no others
pub memory_leaves : (s t : State) (n bytes : List ℕ) (old new : Feed) (r : Result ℕ StoreError) → ((bs : List ℕ) → TookAll old new bs → bs ≡ bytes) → LeavesImport n old new r s t → LeavesMany n (ReadsStream bytes) (reply_by as_number r) s t
memory_leaves s t n bytes old new r whole h ds stop told = elim h [
  | inl refused ↦ err_leaves s t as_number (model.on n (model.import ds stop)) r refused.0 refused.1
  | inr stream ↦
      let same = streams_alike bytes stream.documents ds stop (subst (λ b. ReadsStream b stream.documents None) (whole stream.bytes stream.took) stream.reads) told in
      subst₂ (λ (more : Documents) (k : Option ErrorKind). Leaves s t (model.on n (model.import more k)) (reply_by as_number r)) (sym same.0) (sym same.1) stream.crash
]
