-- A change by query that puts a document in if none answers.
use Rattle.std.proofs.Common.{◌≡◌, ◌∙◌, ◌==◌, inl, inr, ℕ, true, false, List, [], ◌∷◌, length, map, Bool, Result, Ok, Err, IfOk, IsTrue, Vec, Global, ap, arith, eqb-true, eq-eqb, refl, subst, sym, true≢false}
use Rattle.std.proofs.lemmas.List.{length-map}
use Rattle.sqlite.specs.State.{State, HasCleanDisk, Survives}
use Rattle.sqlite_trees.specs.Tree.{Trees}
use Rattle.bson_bytes.specs.Encode.{encode}
use Rattle.bson_model.specs.View.{content}
use Rattle.bson_model.specs.declared.bson.Bson.{Bson}
use Rattle.bson_model.specs.declared.document.Document.{Document}
use Rattle.store_asked.specs.Asking.{AskedFrom}
use Rattle.store_documents.proofs.StreamLemmas.{any_bytes}
use Rattle.store_model.proofs.LeftLemmas.{left_more}
use Rattle.store_model.specs.Left.{LeftBy}
use Rattle.store_model.specs.Reading.{Documents}
use Rattle.store_model.specs.State.{Call, done, in_bytes, insert, on, refused, Reply}
use Rattle.store_model.specs.Table.{IsRefusal, state_of}
use Rattle.store_model.specs.declared.error.StoreError.{StoreError}
use Rattle.store_question.specs.Reads.{Form}
use Rattle.store_table.specs.Moves.{Moves, WasOpen}
use Rattle.store_table.specs.Rows.{TableRow}
use Rattle.store_table.proofs.OthersLemmas.{shows_then}
use Rattle.store_update.specs.declared.error.UpdateError.{UpdateError}
use Rattle.bson_store.specs.Export.{bytes_of_each}
use Rattle.bson_store.specs.Left.{Holds}
use Rattle.bson_store.specs.Refusals.{as_done, reply_by}
use Rattle.bson_store.specs.Shown.{Represents}
use Rattle.bson_store.specs.Whole.{HoldsDone}
use Rattle.bson_store.specs.declared.edit.Edit.{Edit}
use Rattle.bson_store.proofs.MoveLemmas.{moved, moved_twice, rests}
use Rattle.fallowtime_commands.specs.Asking.{AreChosen}
use Rattle.fallowtime_commands.specs.Changing.{AreEdits, Applies, Changes, ChangesBodies, outcome_of}
use Rattle.fallowtime_commands.specs.Left.{LeavesApplied, LeavesEnd, LeavesStored, LeavesUpsert, LeftByUpsert}
use Rattle.fallowtime_commands.specs.Performing.{IsChange, IsEnd, IsUpsert, reply_of}
use Rattle.fallowtime_commands.specs.Upserting.{Ends, Upserts, UpsertsFound}
use Rattle.fallowtime_commands.specs.declared.answer.Answer.{Answer}
use Rattle.fallowtime_commands.specs.declared.answer.Answer.TheVariants.{NotUpserted, Upserted}
use Rattle.fallowtime_commands.specs.declared.changing.Unmade.{Unmade}
use Rattle.fallowtime_commands.proofs.ChangeLemmas.{AllHave, AllStop, Bodies, Finding, applied_bodies, found_are, unfound_are, unmade_bodies}
use Rattle.fallowtime_requests.specs.declared.request.Otherwise.{Otherwise}
use Rattle.fallowtime_requests.specs.declared.request.Otherwise.TheVariants.{Insert, Refuse}
use Rattle.fallowtime_requests.specs.declared.request.Work.{Work}

-- ---- whether there are documents

-- as many bodies as documents
many_as : (bodies : Bodies) (ds : Documents) → bytes_of_each bodies.items ≡ map encode ds → length bodies.items ≡ length ds
many_as bodies ds are = sym (length-map bodies.items (λ (v : Vec ℕ Global). v.items)) ∙ (ap length are ∙ length-map ds encode)

none_are : (bodies : Bodies) (ds : Documents) → length bodies.items ≡ 0 → bytes_of_each bodies.items ≡ map encode ds → ds ≡ []
none_are bodies [] none are = refl
none_are bodies (d ∷ ds) none are = let same = many_as bodies (d ∷ ds) are in absurd (omega (arith, none, same))

some_are : (bodies : Bodies) (ds : Documents) → (length bodies.items ≡ 0 → ⊥) → bytes_of_each bodies.items ≡ map encode ds → ds ≡ [] → ⊥
some_are bodies [] some are is = some (many_as bodies [] are)
some_are bodies (d ∷ ds) some are is = absurd cc

-- by the test of the number that their list has
pub none_by : (b : Bool) (n m : ℕ) → b ≡ (n == 0) → n ≡ m → b ≡ true → m ≡ 0
none_by b n m is same holds = sym same ∙ eqb-true n 0 (sym is ∙ holds)

pub some_by : (b : Bool) (n m : ℕ) → b ≡ (n == 0) → n ≡ m → b ≡ false → m ≡ 0 → ⊥
some_by b n m is same fails none = true≢false (sym (is ∙ eq-eqb n 0 (same ∙ none)) ∙ fails)

-- what comes of documents, if there are any, is what comes of their change
changed : (n : List ℕ) (w : Work) (u : Otherwise) (ds : Documents) (o : Result Answer StoreError) (r : Reply) (docs after : List TableRow) → (ds ≡ [] → ⊥) → Changes n w ds o docs after → Upserts n w u ds o r docs after
changed n w u [] o r docs after some h = absurd (some refl)
changed n w u (d ∷ ds) o r docs after some h = h

left : (From : Call → Type 0) (Done : List Edit → Type 0) (n : List ℕ) (w : Work) (u : Otherwise) (ds : Documents) (xs : List Edit) → (ds ≡ [] → ⊥) → AreEdits n w ds xs → Done xs → LeftByUpsert From Done n w u ds
left From Done n w u [] xs some edits has = absurd (some refl)
left From Done n w u (d ∷ ds) xs some edits has = (xs, edits, has)

module _ (n : List ℕ) (form : Form) (w : Work) (many : Bool) (u : Otherwise) where
  pub unfound_rows : (e : StoreError) (r : Reply) (docs after : List TableRow) → AskedFrom (AreChosen many) n form (Err e) docs after → UpsertsFound n form w many u (Err e) r docs after
  unfound_rows e r docs after h q reads a shown = inl (unfound_are n form q many e docs after a reads shown h)

  pub unfound_moves : (s t : State) (e : StoreError) (r : Reply) → Moves s t (AskedFrom (AreChosen many) n form (Err e)) → Moves s t (UpsertsFound n form w many u (Err e) r)
  unfound_moves s t e r m = moved s t (AskedFrom (AreChosen many) n form (Err e)) (UpsertsFound n form w many u (Err e) r) m (λ docs after h. unfound_rows e r docs after h)

  -- ---- some answer

  module _ (bodies : Bodies) (some : length bodies.items ≡ 0 → ⊥) where
    pub changed_rows : (o : Result Answer StoreError) (r : Reply) (docs mid after : List TableRow) → Finding n form w many bodies docs mid → ChangesBodies n w bodies.items o mid after → UpsertsFound n form w many u o r docs after
    changed_rows o r docs mid after h changes q reads a shown =
        let x = found_are n form q many bodies docs mid a reads shown h in
        let there : Changes n w x.documents o docs after = subst (λ (rows : List TableRow). Changes n w x.documents o rows after) x.same (changes x.documents x.are_kept x.are) in
        inr (x.good, (x.documents, x.meant, changed n w u x.documents o r docs after (some_are bodies x.documents some x.are) there))

    pub unmade_moves : (s t : State) (why : Unmade) (r : Reply) → AllStop n w bodies why → Moves s t (Finding n form w many bodies) → Moves s t (UpsertsFound n form w many u (outcome_of why) r)
    unmade_moves s t why r stop m =
        moved s t (Finding n form w many bodies) (UpsertsFound n form w many u (outcome_of why) r) m (λ docs after h. changed_rows (outcome_of why) r docs after after h (unmade_bodies n w bodies why after stop))

    pub applied_moves : (s m t : State) (xs : List Edit) (k : ℕ) (o : Result Answer StoreError) (r : Reply) → k ≡ length bodies.items → AllHave n w bodies xs
        → Moves s m (Finding n form w many bodies) → Moves m t (Applies w xs k o) → Moves s t (UpsertsFound n form w many u o r)
    applied_moves s m t xs k o r count have first second =
        moved_twice s m t (Finding n form w many bodies) (Applies w xs k o) (UpsertsFound n form w many u o r) first second
        (λ docs mid after h applies. changed_rows o r docs mid after h (applied_bodies n w bodies xs k o mid after count have applies))

    pub applied_leaves : (s m t : State) (xs : List Edit) (k : ℕ) (o : Result Answer StoreError) → AllHave n w bodies xs
        → Moves s m (Finding n form w many bodies) → Survives s m (λ _. ⊥) → Moves m t (Applies w xs k o) → LeavesApplied xs o m t → LeavesUpsert n form w many u (reply_of o) s t
    applied_leaves s m t xs k (Ok x) have first_move survives second_move leaves clean first docs beside stands a shown db may q reads =
        let early = (second_move clean).0 in
        let y = (first_move early).1 docs stands in
        let f = found_are n form q many bodies docs y.0 a reads shown y.2 in
        let there : Represents y.0 a = subst (λ (rows : List TableRow). Represents rows a) (sym f.same) shown in
        inr (f.documents, f.meant, left (λ call. LeftBy (Holds first) s.may_leave (state_of a) (on n call) (reply_of (Ok x)) db) (λ ys. HoldsDone first a ys db) n w u f.documents xs (some_are bodies f.documents some f.are) (have f.documents f.are_kept f.are) (leaves clean first y.0 (shows_then first s m beside y.3) y.1 a there db may))
    applied_leaves s m t xs k (Err e) have first_move survives second_move (r, leaves) clean first docs beside stands a shown db may q reads =
        let early = (second_move clean).0 in
        let y = (first_move early).1 docs stands in
        let f = found_are n form q many bodies docs y.0 a reads shown y.2 in
        let there : Represents y.0 a = subst (λ (rows : List TableRow). Represents rows a) (sym f.same) shown in
        elim (leaves clean first y.0 (shows_then first s m beside y.3) y.1 a there db may) [
          | inl before ↦ inl (tt, elim (survives.crash early db before) [ inl was ↦ was | inr none ↦ absurd none ])
          | inr whole ↦ inr (f.documents, f.meant, left (λ call. LeftBy (Holds first) s.may_leave (state_of a) (on n call) (reply_of (Err e)) db) (λ ys. HoldsDone first a ys db) n w u f.documents xs (some_are bodies f.documents some f.are) (have f.documents f.are_kept f.are) whole.1)
        ]

  pub refused_leaves : (s t : State) (r : Reply) → IsRefusal r → Survives s t (λ _. ⊥) → LeavesUpsert n form w many u r s t
  refused_leaves s t r refusal survives clean first docs beside stands a shown db may q reads = inl (refusal, elim (survives.crash clean db may) [ inl was ↦ was | inr none ↦ absurd none ])

-- ---- none answers

module _ (n : List ℕ) (form : Form) (w : Work) (many : Bool) (bodies : Bodies) (none : length bodies.items ≡ 0) where
  pub ended_rows : (u : Otherwise) (o : Result Answer StoreError) (r : Reply) (docs mid after : List TableRow) → Finding n form w many bodies docs mid → Ends n u o r mid after → UpsertsFound n form w many u o r docs after
  ended_rows u o r docs mid after h ends q reads a shown =
      let x = found_are n form q many bodies docs mid a reads shown h in
      let there : Ends n u o r docs after = subst (λ (rows : List TableRow). Ends n u o r rows after) x.same ends in
      inr (x.good, (x.documents, x.meant, subst (λ (ds : Documents). Upserts n w u ds o r docs after) (sym (none_are bodies x.documents none x.are)) there))

  pub ended_moves : (s m t : State) (u : Otherwise) (o : Result Answer StoreError) (r : Reply) → Moves s m (Finding n form w many bodies) → Moves m t (Ends n u o r) → Moves s t (UpsertsFound n form w many u o r)
  ended_moves s m t u o r first second =
      moved_twice s m t (Finding n form w many bodies) (Ends n u o r) (UpsertsFound n form w many u o r) first second (λ docs mid after h ends. ended_rows u o r docs mid after h ends)

  -- a refusal that could leave no more than the look-up leaves no more than before
  stopped_leaves : (s m t : State) (u : Otherwise) (r : Reply) → IsRefusal r → Survives s m (λ _. ⊥) → Survives m t (λ _. ⊥) → LeavesUpsert n form w many u r s t
  stopped_leaves s m t u r refusal survives later clean first docs beside stands a shown db may q reads =
      let early : HasCleanDisk m = omega (arith, clean, later.clean) in
      let mid : m.may_leave db = elim (later.crash clean db may) [ inl was ↦ was | inr never ↦ absurd never ] in
      inl (refusal, elim (survives.crash early db mid) [ inl was ↦ was | inr never ↦ absurd never ])

  inserted_leaves : (s m t : State) (id : Bson) (d : Document) (o : Result Answer StoreError) (r : Reply) → Moves s m (Finding n form w many bodies) → Survives s m (λ _. ⊥) → Moves m t (Ends n (Insert id d) o r)
      → LeavesStored n (insert in_bytes) (content d) r m t → LeavesUpsert n form w many (Insert id d) r s t
  inserted_leaves s m t id d o r first_move survives second_move (inl (stopped, later)) =
      stopped_leaves s m t (Insert id d) r (subst IsRefusal (sym stopped.2) tt) survives later
  inserted_leaves s m t id d o r first_move survives second_move (inr leaves) = λ clean first docs beside stands a shown db may q reads.
      let early = (second_move clean).0 in
      let y = (first_move early).1 docs stands in
      let f = found_are n form q many bodies docs y.0 a reads shown y.2 in
      let there : Represents y.0 a = subst (λ (rows : List TableRow). Represents rows a) (sym f.same) shown in
      let was : (db : Trees) → m.may_leave db → s.may_leave db = λ db mid. elim (survives.crash early db mid) [ inl was ↦ was | inr never ↦ absurd never ] in
      let x = any_bytes (encode (content d)) in
      inr (
        f.documents,
        f.meant,
        subst (λ (ds : Documents). LeftByUpsert (λ call. LeftBy (Holds first) s.may_leave (state_of a) (on n call) r db) (λ ys. HoldsDone first a ys db) n w (Insert id d) ds) (sym (none_are bodies f.documents none f.are)) (
          x.0,
          x.1,
          left_more (Holds first) m.may_leave s.may_leave was (state_of a) (on n (insert in_bytes x.0)) r db (leaves x.0 x.1 clean first y.0 (shows_then first s m beside y.3) y.1 a there db may),
        ),
      )

  pub ended_leaves : (s m t : State) (u : Otherwise) (o : Result Answer StoreError) (r : Reply) → Moves s m (Finding n form w many bodies) → Survives s m (λ _. ⊥) → Moves m t (Ends n u o r) → LeavesEnd n u r m t → LeavesUpsert n form w many u r s t
  ended_leaves s m t (Insert id d) o r first_move survives second_move leaves = inserted_leaves s m t id d o r first_move survives second_move leaves
  ended_leaves s m t (Refuse e) o r first_move survives second_move leaves = stopped_leaves s m t (Refuse e) r leaves.0 survives leaves.1

-- nothing is put in
pub refused_rests : (n : List ℕ) (s : State) (e : UpdateError) (r : Reply) → Moves s s (Ends n (Refuse e) (Ok (NotUpserted e)) r)
refused_rests n s e r = rests s (Ends n (Refuse e) (Ok (NotUpserted e)) r) (λ docs. (refl, refl))

-- ---- the shape of the answer, and the connection

pub as_upsert : (w : Work) (u : Otherwise) (r : Result Answer StoreError) → IfOk r (IsChange w) → IfOk r (IsUpsert w u)
as_upsert w u (Ok a) h = inl h
as_upsert w u (Err e) h = tt

pub as_ended : (w : Work) (u : Otherwise) (r : Result Answer StoreError) → IfOk r (IsEnd u) → IfOk r (IsUpsert w u)
as_ended w u (Ok a) h = inr h
as_ended w u (Err e) h = tt

pub as_inserted : (id : Bson) (d : Document) (r : Result Answer StoreError) → IfOk r (λ a. a ≡ Upserted id) → IfOk r (IsEnd (Insert id d))
as_inserted id d (Ok a) h = (id, h, refl)
as_inserted id d (Err e) h = tt

-- what was found on an open connection goes on on it
pub found_end : (s m t : State) (x : Bodies) (P Q : List TableRow → List TableRow → Type 0) (r : Result Answer StoreError) → Moves s m P → Moves m t Q → WasOpen {A = Bodies} {E = StoreError} s m (Ok x) → (IsTrue m.is_open → WasOpen m t r) → WasOpen s t r
found_end s m t x P Q (Ok a) first second was opens = λ clean docs stands.
    let early = (second clean).0 in
    let y = (first early).1 docs stands in
    let both = was early docs stands in
    (both.0, (opens both.1 clean y.0 y.1).1)
found_end s m t x P Q (Err e) first second was opens = λ clean docs stands. tt

pub opened : (s t : State) (id : Bson) (x : Result (Unit {0}) StoreError) (y : Result Answer StoreError) → reply_of y ≡ reply_by as_done x → IfOk y (λ a. a ≡ Upserted id) → WasOpen s t x → WasOpen s t y
opened s t id x (Err e) same is h = λ clean docs stands. tt
opened s t id (Ok u) (Ok a) same is h = h
opened s t id (Err e) (Ok a) same is h = let other : done ≡ refused e.kind e.document = sym (ap (λ b. reply_of (Ok b)) is) ∙ same in absurd cc
