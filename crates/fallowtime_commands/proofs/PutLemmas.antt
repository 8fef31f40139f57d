-- A replacement that finds no document, and the insertion that follows it.
use Rattle.std.proofs.Common.{◌≡◌, inl, inr, ℕ, List, Option, None, refl}
use Rattle.sqlite.specs.State.{State}
use Rattle.bson_base.specs.Value.{Members}
use Rattle.bson_bytes.specs.Encode.{encode}
use Rattle.store_table.specs.Moves.{Moves}
use Rattle.store_table.proofs.OthersLemmas.{shows_then}
use Rattle.store_model.proofs.LeftLemmas.{left_more}
use Rattle.store_model.specs.Reading.{Reading}
use Rattle.store_model.specs.State.{Call, in_bytes, insert, on, refused, replace, Reply}
use Rattle.store_model.specs.Table.{state_of}
use Rattle.store_model.specs.declared.error.ErrorKind.{ErrorKind}
use Rattle.store_model.specs.declared.error.ErrorKind.TheVariants.{NotFound}
use Rattle.bson_store.specs.Calls.{DoesBytes}
use Rattle.bson_store.specs.Drafting.{HasReplaced}
use Rattle.bson_store.specs.Left.{Holds, LeavesBytes}
use Rattle.bson_store.proofs.CrashLemmas.{survives_itself}
use Rattle.bson_store.proofs.MoveLemmas.{moved, moved_twice, rests}
use Rattle.fallowtime_commands.specs.Left.{LeavesPut}
use Rattle.fallowtime_commands.specs.Storing.{IsFit, IsUnasked, Puts, Stores}

-- a refusal of a kind other than NotFound doesn't come from a missing document
pub other_kind : (k : ErrorKind) (i : Option ℕ) → (k ≡ NotFound → ⊥) → HasReplaced (refused k i)
other_kind NotFound i other = absurd (other refl)
other_kind _ i other = tt

module _ (n : List ℕ) (e : Members) where
  -- the call is refused before the store is asked
  pub stopped : (s : State) (call : Reading → Call) (k : ErrorKind) → IsUnasked n e k → Moves s s (Stores n call e (refused k None))
  stopped s call k why = rests s (Stores n call e (refused k None)) (λ docs. inl ((k, why, refl), refl))

  pub stored : (s t : State) (call : Reading → Call) (r : Reply) → IsFit e → Moves s t (DoesBytes n call (encode e) r) → Moves s t (Stores n call e r)
  stored s t call r fit m = moved s t (DoesBytes n call (encode e) r) (Stores n call e r) m (λ docs after does. inr (fit, does))

  pub put_stopped : (s : State) (k : ErrorKind) → IsUnasked n e k → Moves s s (Puts n e (refused k None))
  put_stopped s k why = rests s (Puts n e (refused k None)) (λ docs. inl ((k, why, refl), refl))

  pub put_stopped_leaves : (s : State) (k : ErrorKind) → IsUnasked n e k → LeavesPut n e (refused k None) s s
  put_stopped_leaves s k why = inl ((k, why, refl), survives_itself s)

  -- there was one to replace, or it is refused otherwise
  pub replaced : (s t : State) (r : Reply) → HasReplaced r → IsFit e → Moves s t (DoesBytes n (replace in_bytes) (encode e) r) → Moves s t (Puts n e r)
  replaced s t r had fit m = moved s t (DoesBytes n (replace in_bytes) (encode e) r) (Puts n e r) m (λ docs after does. inr (fit, λ a shown. let c = does.2 a shown in (c.0, c.1, inl (had, (does.0, does.1, c.2)))))

  -- there was none
  pub inserted : (s m t : State) (i : Option ℕ) (r : Reply) → IsFit e → Moves s m (DoesBytes n (replace in_bytes) (encode e) (refused NotFound i)) → Moves m t (DoesBytes n (insert in_bytes) (encode e) r) → Moves s t (Puts n e r)
  inserted s m t i r fit first second =
      moved_twice s m t (DoesBytes n (replace in_bytes) (encode e) (refused NotFound i)) (DoesBytes n (insert in_bytes) (encode e) r) (Puts n e r) first second
      (λ docs mid after none does. inr (
        fit,
        λ a shown.
            let b = none.2 a shown in
            let c = does.2 b.0 b.1 in
            (c.0, c.1, inr (b.0, (i, none.0, none.1, b.2), (does.0, does.1, c.2))),
      ))

  pub inserted_leaves : (s m t : State) (i : Option ℕ) (r : Reply) → Moves s m (DoesBytes n (replace in_bytes) (encode e) (refused NotFound i)) → LeavesBytes n (replace in_bytes) (encode e) (refused NotFound i) s m
      → Moves m t (DoesBytes n (insert in_bytes) (encode e) r) → LeavesBytes n (insert in_bytes) (encode e) r m t → LeavesPut n e r s t
  inserted_leaves s m t i r first was second leaves = inr (inr (λ clean first_db docs beside stands a shown db may.
      let next = second clean in
      let y = (first next.0).1 docs stands in
      let z = next.1 y.0 y.1 in
      let none = y.2 in
      let does = z.2 in
      let b = none.2 a shown in (
        b.0,
        (i, none.0, none.1, b.2),
        (
          does.0,
          does.1,
          left_more (Holds first_db) m.may_leave s.may_leave (λ db mid. was none.0 none.1 next.0 first_db docs beside stands a shown db mid) (state_of b.0) (on n (insert in_bytes does.0)) r db
              (leaves does.0 does.1 clean first_db y.0 (shows_then first_db s m beside y.3) y.1 b.0 b.1 db may),
        ),
      )))
