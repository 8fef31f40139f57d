-- Changes of one document over a writer, in the words of the commands.
use Rattle.std.proofs.Common.{◌≡◌, inl, inr, ℕ, List, Bool, Option, Some, None, Result, Ok, Err, refl, sym, subst}
use Rattle.std.specs.Prelude.{IfOk, IfSome, IsTrue}
use Rattle.sqlite_disk.specs.declared.Disk.{Ghosts}
use Rattle.sqlite_pool.specs.Stored.{Keeps}
use Rattle.sqlite_wal.specs.State.{StaysOrFails}
use Rattle.sqlite.specs.Effect.{Database}
use Rattle.bson_base.specs.Value.{Members, Value, put}
use Rattle.bson_bytes.specs.Encode.{encode}
use Rattle.store_table.specs.Rows.{TableRow}
use Rattle.store_documents.proofs.StreamLemmas.{any_bytes}
use Rattle.store_model.specs.Reading.{Reading, ReadsBytes}
use Rattle.store_model.specs.State as model
use Rattle.store_model.specs.State.{Call, get_raw, in_bytes, insert, IsKept, on, refused, replace, Reply}
use Rattle.store_model.specs.Table.{IsRefusal}
use Rattle.store_model.specs.declared.error.ErrorKind.{ErrorKind}
use Rattle.store_model.specs.declared.error.ErrorKind.TheVariants.{NotFound}
use Rattle.store_model.specs.declared.error.StoreError.{StoreError}
use Rattle.bson_store.specs.Calls.{Does, DoesBytes}
use Rattle.bson_store.specs.Refusals.{as_done, as_flag, reply_by}
use Rattle.bson_store.specs.Shown.{Represents}
use Rattle.store_table.specs.Writer.{Serves, size_of, state_of}
use Rattle.store_table.specs.declared.pages.writer.Writer.{Writer}
use Rattle.fallowtime_front.specs.Changes.{LeavesBytes, Reads, Stays, Turned, Turns}
use Rattle.fallowtime_front.proofs.TurnLemmas.{shows_before}
use Rattle.fallowtime_front.proofs.WriteLemmas.{kept_itself, kept_left, stays_itself}
use Rattle.fallowtime_commands.specs.Performing.{IsFlag, reply_of}
use Rattle.fallowtime_commands.specs.Setting.{Sets}
use Rattle.bson_store.specs.Drafting.{HasReplaced}
use Rattle.fallowtime_commands.specs.Storing.{IsFit, IsStopped, Puts, Stores}
use Rattle.fallowtime_commands.specs.declared.answer.Answer.{Answer}
use Rattle.fallowtime_commands.specs.declared.answer.Answer.TheVariants as answer
use Rattle.fallowtime_commands.proofs.SetLemmas.{got_document}
use Rattle.fallowtime_front.specs.Left.{LeavesPut, LeavesSet, LeavesStored}

abbrev pub Done : Type 0
Done = Result (Unit {0}) StoreError

-- a call whose clause has a premise
pub given : {A : Type 0} (o : Option A) (F : Type 0) (P : A → Type 0) → F → IfSome o (λ r. F → P r) → IfSome o P
given None F P f h = tt
given (Some r) F P f h = h f

module _ {D : Type 0} {g : Ghosts D} where
  -- nothing was done
  pub untouched : (it : Writer D g) → Keeps (state_of it) (state_of it)
  untouched it = kept_itself it

  pub stays_so : (it : Writer D g) → StaysOrFails (state_of it) (state_of it)
  stays_so it = stays_itself it

  -- what relates rows so, relates them so as well
  turned_as : {A : Type 0} (first : Database) (old new : Writer D g) (r : Result A StoreError) (R S : List TableRow → List TableRow → Type 0) (docs : List TableRow) → ((after : List TableRow) → R docs after → S docs after) → Turned first old new r R docs → Turned first old new r S docs
  turned_as first old new (Ok x) R S docs f h = (h.0, f h.0 h.1, h.2)
  turned_as first old new (Err e) R S docs f h = f docs h

  -- behind a call that only read
  turned_since : {A : Type 0} (first : Database) (old mid new : Writer D g) (r : Result A StoreError) (R : List TableRow → List TableRow → Type 0) (docs : List TableRow) → Keeps (state_of old) (state_of mid) → Turned first mid new r R docs → Turned first old new r R docs
  turned_since first old mid new (Ok x) R docs k h = (h.0, h.1, λ all. h.2 (kept_left first old mid docs k all))
  turned_since first old mid new (Err e) R docs k h = h

  -- what is returned of a call is as its outcome: accepted if that is, with the same reply
  answered : {A : Type 0} (old new : Writer D g) (f : A → Reply) (r : Result A StoreError) (o : Result Answer StoreError) (R : Reply → List TableRow → List TableRow → Type 0) → reply_of o ≡ reply_by f r
      → ((x : A) → IsRefusal (f x) → ⊥) → IfOk o (λ a. IsRefusal (reply_of (Ok a)) → ⊥) → Turns old new r (R (reply_by f r)) → Turns old new o (R (reply_of o))
  answered old new f (Ok x) (Ok a) R same accepts shape h = λ clean first docs serves. let t = h clean first docs serves in (t.0, subst (λ y. R y docs t.0) (sym same) t.1, t.2)
  answered old new f (Ok x) (Err e) R same accepts shape h = absurd (accepts x (subst IsRefusal same tt))
  answered old new f (Err e) (Ok a) R same accepts shape h = absurd (shape (subst IsRefusal (sym same) tt))
  answered old new f (Err e) (Err d) R same accepts shape h = λ clean first docs serves. subst (λ y. R y docs docs) (sym same) (h clean first docs serves)

  -- an accepted one returns this
  pub answered_done : (old new : Writer D g) (a : Answer) → (IsRefusal (reply_of (Ok a)) → ⊥) → (r : Done) (o : Result Answer StoreError) (R : Reply → List TableRow → List TableRow → Type 0) → reply_of o ≡ reply_by as_done r → IfOk o (λ b. b ≡ a)
      → Turns old new r (R (reply_by as_done r)) → Turns old new o (R (reply_of o))
  answered_done old new a accepts r o R same shape h = answered old new as_done r o R same (λ x refused. refused) (never o shape) h
    where
      never : (o : Result Answer StoreError) → IfOk o (λ b. b ≡ a) → IfOk o (λ b. IsRefusal (reply_of (Ok b)) → ⊥)
      never (Ok b) is = subst (λ (y : Answer). IsRefusal (reply_of (Ok y)) → ⊥) (sym is) accepts
      never (Err e) is = tt

  pub answered_flag : (old new : Writer D g) (r : Result Bool StoreError) (o : Result Answer StoreError) (R : Reply → List TableRow → List TableRow → Type 0) → reply_of o ≡ reply_by as_flag r → IfOk o IsFlag → Turns old new r (R (reply_by as_flag r)) → Turns old new o (R (reply_of o))
  answered_flag old new r o R same shape h = answered old new as_flag r o R same (λ x refused. refused) (never o shape) h
    where
      told : (a : Answer) → IsFlag a → IsRefusal (reply_of (Ok a)) → ⊥
      told (answer.Flag b) is = λ refused. refused
      told _ is = absurd is

      never : (o : Result Answer StoreError) → IfOk o IsFlag → IfOk o (λ a. IsRefusal (reply_of (Ok a)) → ⊥)
      never (Ok a) is = told a is
      never (Err e) is = tt

  module _ (n b : List ℕ) (e : Members) (is : b ≡ encode e) where
    -- ---- a document that goes in by its bytes

    pub stored_turns : (old new : Writer D g) (call : Reading → Call) → IsFit e → (o : Option Done) → IfSome o (λ r. Turns old new r (DoesBytes n call b (reply_by as_done r))) → IfSome o (λ r. Turns old new r (Stores n call e (reply_by as_done r)))
    stored_turns old new call fit None h = tt
    stored_turns old new call fit (Some r) h = λ clean first docs serves.
        turned_as first old new r (DoesBytes n call b (reply_by as_done r)) (Stores n call e (reply_by as_done r)) docs (λ after does. inr (fit, subst (λ bs. DoesBytes n call bs (reply_by as_done r) docs after) is does)) (h clean first docs serves)

    pub stored_leaves : (old new : Writer D g) (call : Reading → Call) (o : Option Done) → IfSome o (λ r. LeavesBytes old new n call b (reply_by as_done r)) → IfSome o (λ r. LeavesStored old new n call e (reply_by as_done r))
    stored_leaves old new call None h = tt
    stored_leaves old new call (Some r) h = inr (λ x reads. h x (subst (λ bs. ReadsBytes bs x) (sym is) reads))

    -- ---- a replacement, or an insertion if it finds nothing

    pub put_turns : (old new : Writer D g) (r : Done) → HasReplaced (reply_by as_done r) → IsFit e → Turns old new r (DoesBytes n (replace in_bytes) b (reply_by as_done r)) → Turns old new r (Puts n e (reply_by as_done r))
    put_turns old new r had fit h clean first docs serves =
        turned_as first old new r (DoesBytes n (replace in_bytes) b (reply_by as_done r)) (Puts n e (reply_by as_done r)) docs
        (λ after does. inr (fit, λ a shown. let c = does.2 a shown in (c.0, c.1, inl (had, (does.0, subst (λ bs. ReadsBytes bs does.0) is does.1, c.2))))) (h clean first docs serves)

    pub put_leaves : (old new : Writer D g) (r : Reply) → HasReplaced r → LeavesBytes old new n (replace in_bytes) b r → LeavesPut old new n e r
    put_leaves old new r had h = inr (inl (had, λ x reads. h x (subst (λ bs. ReadsBytes bs x) (sym is) reads)))

    -- the replacement found none
    pub found_none : (old mid : Writer D g) (r : Done) (error : StoreError) → r ≡ Err error → error.kind ≡ NotFound → Turns old mid r (DoesBytes n (replace in_bytes) b (reply_by as_done r))
        → (first : Database) (docs : List TableRow) → Serves first old docs → IsTrue (state_of mid).is_clean → DoesBytes n (replace in_bytes) b (refused NotFound error.document) docs docs
    found_none old mid r error same kind h first docs serves clean =
        let turns = subst (λ (x : Done). Turns old mid x (DoesBytes n (replace in_bytes) b (reply_by as_done x))) same h in
        subst (λ k. DoesBytes n (replace in_bytes) b (refused k error.document) docs docs) kind (turns clean first docs serves)

    module _ (old mid new : Writer D g) (i : Option ℕ) (stays : Stays old mid) (none : (first : Database) (docs : List TableRow) → Serves first old docs → IsTrue (state_of mid).is_clean → DoesBytes n (replace in_bytes) b (refused NotFound i) docs docs) where
      pub insert_turns : IsFit e → StaysOrFails (state_of mid) (state_of new) → (o : Option Done) → IfSome o (λ r. Turns mid new r (DoesBytes n (insert in_bytes) b (reply_by as_done r))) → IfSome o (λ r. Turns old new r (Puts n e (reply_by as_done r)))
      insert_turns fit fails None h = tt
      insert_turns fit fails (Some r) h = λ clean first docs serves.
          let early = fails.clean clean in
          let away = none first docs serves early in
          turned_since first old mid new r (Puts n e (reply_by as_done r)) docs stays.0
          (turned_as first mid new r (DoesBytes n (insert in_bytes) b (reply_by as_done r)) (Puts n e (reply_by as_done r)) docs
          (λ after does. inr (
            fit,
            λ a shown.
                let m = away.2 a shown in
                let c = does.2 m.0 m.1 in
                (c.0, c.1, inr (m.0, (i, away.0, subst (λ bs. ReadsBytes bs away.0) is away.1, m.2), (does.0, subst (λ bs. ReadsBytes bs does.0) is does.1, c.2))),
          )) (h clean first docs (stays.1 early first docs serves)))

      pub insert_leaves : StaysOrFails (state_of mid) (state_of new) → (o : Option Done) → IfSome o (λ r. LeavesBytes mid new n (insert in_bytes) b (reply_by as_done r)) → IfSome o (λ r. LeavesPut old new n e (reply_by as_done r))
      insert_leaves fails None h = tt
      insert_leaves fails (Some r) h = inr (inr (λ clean first docs serves all a shown left may.
          let early = fails.clean clean in
          let away = none first docs serves early in
          let m = away.2 a shown in
          let x = any_bytes b in (
            m.0,
            (i, away.0, subst (λ bs. ReadsBytes bs away.0) is away.1, m.2),
            (x.0, subst (λ bs. ReadsBytes bs x.0) is x.1, h x.0 x.1 clean first docs (stays.1 early first docs serves) (kept_left first old mid docs stays.0 all) m.0 m.1 left may),
          )))

  -- ---- a value that is set, by a read and a replacement

  module _ (n : List ℕ) (id : Value) (k : List ℕ) (v : Value) where
    pub ungot_turns : (old new : Writer D g) (e : StoreError) → Reads old new (Does (on n (get_raw id)) (refused e.kind e.document)) → Turns {A = Unit {0}} old new (Err e) (Sets n id k v (refused e.kind e.document))
    ungot_turns old new e h clean first docs serves a shown = let d = (h clean first docs serves).0 a shown in (d.0, d.1, inr (inl (tt, d.2)))

    pub ungot_leaves : (old new : Writer D g) (e : ErrorKind) (i : Option ℕ) → Keeps (state_of old) (state_of new) → LeavesSet old new n id k v (refused e i)
    ungot_leaves old new e i keeps clean first docs serves all a shown left may = inr (inl (tt, shows_before first (size_of new) docs a left (kept_left first old new docs keeps all left may) shown))

    module _ (old mid new : Writer D g) (bytes : List ℕ) (e : Members) (keeps : Keeps (state_of old) (state_of mid)) (fails : StaysOrFails (state_of mid) (state_of new)) (reads : Reads old mid (Does (on n (get_raw id)) (model.bytes bytes)))
        (with_value : (d : Members) → IsKept d → bytes ≡ encode d → e ≡ put k v d) where
      sets : (docs after : List TableRow) (r : Reply) → Does (on n (get_raw id)) (model.bytes bytes) docs docs → Stores n (replace in_bytes) e r docs after → Sets n id k v r docs after
      sets docs after r does stores a shown =
          let d = does a shown in
          let w = got_document n id bytes docs a d.0 shown d.2 in
          let same = with_value w.0 w.2.0 w.1 in
          elim stores [
            | inl stopped ↦ (d.0, subst (λ (rows : List TableRow). Represents rows d.0) (sym stopped.1) d.1, inr (inr (w.0, d.0, w.2, inl (subst (λ x. IsStopped n x r) same stopped.0, refl))))
            | inr fit_does ↦ let does_bytes = fit_does.1 in let c = does_bytes.2 d.0 d.1 in (c.0, c.1, inr (inr (w.0, d.0, w.2, inr (subst (λ x. IsFit x) same fit_does.0, does_bytes.0, subst (λ x. ReadsBytes (encode x) does_bytes.0) same does_bytes.1, c.2))))
          ]

      pub set_turns : (o : Option Done) → IfSome o (λ r. Turns mid new r (Stores n (replace in_bytes) e (reply_by as_done r))) → IfSome o (λ r. Turns old new r (Sets n id k v (reply_by as_done r)))
      set_turns None h = tt
      set_turns (Some r) h = λ clean first docs serves.
          let got = reads (fails.clean clean) first docs serves in
          turned_since first old mid new r (Sets n id k v (reply_by as_done r)) docs keeps
          (turned_as first mid new r (Stores n (replace in_bytes) e (reply_by as_done r)) (Sets n id k v (reply_by as_done r)) docs (λ after stores. sets docs after (reply_by as_done r) got.0 stores) (h clean first docs got.1))

      set_left : (r : Reply) → LeavesStored mid new n (replace in_bytes) e r → LeavesSet old new n id k v r
      set_left r (inl stopped) clean first docs serves all a shown left may =
          let now = kept_left first mid new docs stopped.1 (kept_left first old mid docs keeps all) in
          inr (inl (subst IsRefusal (sym stopped.0.2) tt, shows_before first (size_of new) docs a left (now left may) shown))
      set_left r (inr leaves) clean first docs serves all a shown left may =
          let got = reads (fails.clean clean) first docs serves in
          let d = got.0 a shown in
          let w = got_document n id bytes docs a d.0 shown d.2 in
          let same = with_value w.0 w.2.0 w.1 in
          let x = any_bytes (encode e) in
          inr (inr (w.0, d.0, w.2, (x.0, subst (λ y. ReadsBytes (encode y) x.0) same x.1, leaves x.0 x.1 clean first docs got.1 (kept_left first old mid docs keeps all) d.0 d.1 left may)))

      pub set_leaves : (o : Option Done) → IfSome o (λ r. LeavesStored mid new n (replace in_bytes) e (reply_by as_done r)) → IfSome o (λ r. LeavesSet old new n id k v (reply_by as_done r))
      set_leaves None h = tt
      set_leaves (Some r) h = set_left (reply_by as_done r) h
