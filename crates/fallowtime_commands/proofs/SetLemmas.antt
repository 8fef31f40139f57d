-- A value that is set, by a read and a replacement.
use Rattle.std.proofs.Common.{◌≡◌, inl, inr, ℕ, List, [], ◌∷◌, ◌++◌, Some, None, refl, sym, subst, ◌∙◌, Option, arith}
use Rattle.sqlite.specs.State.{State, HasCleanDisk, Survives}
use Rattle.sqlite_trees.specs.Tree.{Trees}
use Rattle.bson_base.specs.Value.{Value, Members, put}
use Rattle.bson_bytes.specs.Encode.{encode}
use Rattle.store_table.specs.Moves.{Moves}
use Rattle.store_table.specs.Rows.{TableRow}
use Rattle.store_table.proofs.OthersLemmas.{shows_then}
use Rattle.store_model.proofs.LeftLemmas.{left_more}
use Rattle.store_model.proofs.RowLemmas.{list_of-state_of}
use Rattle.store_model.specs.Reading.{Documents, Reading, ReadsBytes}
use Rattle.store_model.specs.State.{Answers, AreKept, Command, get_raw, in_bytes, IsFreeKey, IsKept, IsName, list_of, on, refused, replace, Reply, set, StandsAt, Step}
use Rattle.store_model.specs.State as model
use Rattle.store_model.specs.Table.{DocumentTable, IsRefusal, Serves, state_of}
use Rattle.store_model.specs.declared.error.ErrorKind.{ErrorKind}
use Rattle.store_model.specs.declared.error.ErrorKind.TheVariants.{Memory}
use Rattle.bson_store.specs.Calls.{Does}
use Rattle.bson_store.specs.Left.{Holds, Leaves}
use Rattle.bson_store.specs.Shown.{Represents}
use Rattle.bson_store.proofs.ManyLemmas.{kept_there}
use Rattle.bson_store.proofs.CrashLemmas.{step_of}
use Rattle.bson_store.proofs.MoveLemmas.{moved, moved_twice}
use Rattle.store_documents.proofs.StreamLemmas.{any_bytes}
use Rattle.fallowtime_commands.specs.Left.{LeavesSet, LeavesStored}
use Rattle.fallowtime_commands.specs.Setting.{Gets, Sets}
use Rattle.fallowtime_commands.specs.Storing.{IsFit, IsStopped, Stores}

kept_at : (front : Documents) (d : Members) (back : Documents) → AreKept (front ++ d ∷ back) → IsKept d
kept_at [] d back h = h.0
kept_at (e ∷ front) d back h = kept_at front d back h.1

-- the bytes that are got are those of a kept document
module _ (n : List ℕ) (id : Value) (bytes : List ℕ) (docs : List TableRow) (a b : DocumentTable) (shown : Represents docs a) where
  got : Serves a (on n (get_raw id)) (model.bytes bytes) b → IsName n × ((d : Members) × IsKept d × (bytes ≡ encode d))
  got served = by (step_of a (on n (get_raw id)) (model.bytes bytes) b (λ e. e) served)
    where
      at : (es : Documents) → Answers (get_raw id) (list_of (state_of a) n) (model.bytes bytes) es → (d : Members) × IsKept d × (bytes ≡ encode d)
      at es (inl (front, d, back, stands, is)) =
          let kept : AreKept (front ++ d ∷ back) = subst AreKept (sym (list_of-state_of a n) ∙ stands.split) (kept_there docs a n shown) in
          let same : bytes ≡ encode d = let reply = is.0 in cc in
          (d, kept_at front d back kept, same)
      at es (inr (none, is)) = let reply = is.0 in absurd (cc)

      by : Step (state_of a) (on n (get_raw id)) (model.bytes bytes) (state_of b) → IsName n × ((d : Members) × IsKept d × (bytes ≡ encode d))
      by (inl (good, (es, answers, stored))) = (good, at es answers)
      by (inr (bad, is)) = let reply = is.0 in absurd (cc)

  pub got_name : Serves a (on n (get_raw id)) (model.bytes bytes) b → IsName n
  got_name served = (got served).0

  pub got_document : Serves a (on n (get_raw id)) (model.bytes bytes) b → (d : Members) × (bytes ≡ encode d) × Gets n id a d b
  got_document served = let w = (got served).1 in (w.0, w.2, (w.1, subst (λ (bs : List ℕ). Serves a (on n (get_raw id)) (model.bytes bs) b) w.2 served))

module _ (n : List ℕ) (id : Value) (k : List ℕ) (v : Value) where
  -- ---- rows

  pub bad_key_moves : (s t : State) (r : Reply) → (IsFreeKey k → ⊥) → Moves s t (Does (on n (set id k (Some v))) r) → Moves s t (Sets n id k v r)
  bad_key_moves s t r bad m = moved s t (Does (on n (set id k (Some v))) r) (Sets n id k v r) m (λ docs after does a shown. let d = does a shown in (d.0, d.1, inl (bad, d.2)))

  pub ungot_moves : (s t : State) (kind : ErrorKind) (i : Option ℕ) → Moves s t (Does (on n (get_raw id)) (refused kind i)) → Moves s t (Sets n id k v (refused kind i))
  ungot_moves s t kind i m = moved s t (Does (on n (get_raw id)) (refused kind i)) (Sets n id k v (refused kind i)) m (λ docs after does a shown. let d = does a shown in (d.0, d.1, inr (inl (tt, d.2))))

  -- the document is got, and then it is out of memory
  pub unmade_moves : (s t : State) (bytes : List ℕ) (kind : ErrorKind) → ((d : Members) → IsKept d → bytes ≡ encode d → kind ≡ Memory) → Moves s t (Does (on n (get_raw id)) (model.bytes bytes)) → Moves s t (Sets n id k v (refused kind None))
  unmade_moves s t bytes kind memory m =
      moved s t (Does (on n (get_raw id)) (model.bytes bytes)) (Sets n id k v (refused kind None)) m
      (λ docs after does a shown.
      let d = does a shown in
      let good = got_name n id bytes docs a d.0 shown d.2 in
      let w = got_document n id bytes docs a d.0 shown d.2 in
      (d.0, d.1, inr (inr (w.0, d.0, w.2, inl ((kind, inr (good, inr (memory w.0 w.2.0 w.1)), refl), refl)))))

  pub replaced_moves : (s m t : State) (bytes : List ℕ) (e : Members) (r : Reply) → ((d : Members) → IsKept d → bytes ≡ encode d → e ≡ put k v d)
      → Moves s m (Does (on n (get_raw id)) (model.bytes bytes)) → Moves m t (Stores n (replace in_bytes) e r) → Moves s t (Sets n id k v r)
  replaced_moves s m t bytes e r with_value first second =
      moved_twice s m t (Does (on n (get_raw id)) (model.bytes bytes)) (Stores n (replace in_bytes) e r) (Sets n id k v r) first second
      (λ docs mid after does stores a shown.
      let d = does a shown in
      let w = got_document n id bytes docs a d.0 shown d.2 in
      let same = with_value w.0 w.2.0 w.1 in
      elim stores [
        | inl stopped ↦ (d.0, subst (λ (rows : List TableRow). Represents rows d.0) (sym stopped.1) d.1, inr (inr (w.0, d.0, w.2, inl (subst (λ x. IsStopped n x r) same stopped.0, refl))))
        | inr fit_does ↦ let does_bytes = fit_does.1 in let c = does_bytes.2 d.0 d.1 in (c.0, c.1, inr (inr (w.0, d.0, w.2, inr (subst (λ x. IsFit x) same fit_does.0, does_bytes.0, subst (λ x. ReadsBytes (encode x) does_bytes.0) same does_bytes.1, c.2))))
      ])

  -- ---- what a crash leaves

  pub bad_key_leaves : (s t : State) (r : Reply) → (IsFreeKey k → ⊥) → Leaves s t (on n (set id k (Some v))) r → LeavesSet n id k v r s t
  bad_key_leaves s t r bad leaves clean first docs beside stands a shown db may = inl (bad, leaves clean first docs beside stands a shown db may)

  pub refused_set_leaves : (s t : State) (kind : ErrorKind) (i : Option ℕ) → Survives s t (λ _. ⊥) → LeavesSet n id k v (refused kind i) s t
  refused_set_leaves s t kind i survives clean first docs beside stands a shown db may = inr (inl (tt, elim (survives.crash clean db may) [ inl was ↦ was | inr none ↦ absurd none ]))

  pub replaced_leaves : (s m t : State) (bytes : List ℕ) (e : Members) (r : Reply) → ((d : Members) → IsKept d → bytes ≡ encode d → e ≡ put k v d)
      → Moves s m (Does (on n (get_raw id)) (model.bytes bytes)) → Survives s m (λ _. ⊥) → Moves m t (Stores n (replace in_bytes) e r) → LeavesStored n (replace in_bytes) e r m t → LeavesSet n id k v r s t
  replaced_leaves s m t bytes e r with_value first_move survives second_move (inl (stopped, later)) clean first docs beside stands a shown db may =
      let early : HasCleanDisk m = omega (arith, clean, later.clean) in
      let mid : m.may_leave db = elim (later.crash clean db may) [ inl was ↦ was | inr none ↦ absurd none ] in
      inr (inl (subst IsRefusal (sym stopped.2) tt, elim (survives.crash early db mid) [ inl was ↦ was | inr none ↦ absurd none ]))
  replaced_leaves s m t bytes e r with_value first_move survives second_move (inr leaves) clean first docs beside stands a shown db may =
      let second = second_move clean in
      let early = second.0 in
      let y = (first_move early).1 docs stands in
      let z = second.1 y.0 y.1 in
      let d = y.2 a shown in
      let w = got_document n id bytes docs a d.0 shown d.2 in
      let same = with_value w.0 w.2.0 w.1 in
      let was : (db : Trees) → m.may_leave db → s.may_leave db = λ db mid. elim (survives.crash early db mid) [ inl was ↦ was | inr none ↦ absurd none ] in
      elim z.2 [
        | inl stopped ↦ inr (inr (w.0, d.0, w.2, reading (any_bytes (encode e)) w.0 same (λ x reads. left_more (Holds first) m.may_leave s.may_leave was (state_of d.0) (on n (replace in_bytes x)) r db (leaves x reads clean first y.0 (shows_then first s m beside y.3) y.1 d.0 d.1 db may))))
        | inr fit_does ↦ inr (inr (w.0, d.0, w.2, reading (fit_does.1.0, fit_does.1.1) w.0 same (λ x reads. left_more (Holds first) m.may_leave s.may_leave was (state_of d.0) (on n (replace in_bytes x)) r db (leaves x reads clean first y.0 (shows_then first s m beside y.3) y.1 d.0 d.1 db may))))
      ]
    where
      reading : {P : Reading → Type 0} → (x : Reading) × ReadsBytes (encode e) x → (d : Members) → e ≡ put k v d → ((x : Reading) → ReadsBytes (encode e) x → P x) → (x : Reading) × ReadsBytes (encode (put k v d)) x × P x
      reading (x, reads) d same p = (x, subst (λ y. ReadsBytes (encode y) x) same reads, p x reads)
