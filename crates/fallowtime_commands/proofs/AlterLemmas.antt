-- A document that is got by its `_id`, and altered by a list of one change.
use Rattle.std.proofs.Common.{◌≡◌, inl, inr, ℕ, List, [], ◌∷◌, Bool, true, false, Option, Result, Ok, Err, IfOk, refl, sym, subst}
use Rattle.sqlite.specs.State.{State, Survives}
use Rattle.bson_base.specs.Value.{Value, Members}
use Rattle.bson_bytes.specs.Encode.{encode}
use Rattle.bson_store.proofs.MoveLemmas.{moved, moved_twice}
use Rattle.bson_store.specs.Calls.{Does}
use Rattle.bson_store.specs.Whole.{DoesAll, LeavesWhole}
use Rattle.bson_store.specs.declared.edit.Edit.{Edit}
use Rattle.store_model.specs.State.{get_raw, IsKept, on, refused, Reply}
use Rattle.store_model.specs.State as model
use Rattle.store_model.specs.Table.{IsRefusal}
use Rattle.store_model.specs.declared.error.StoreError.{StoreError}
use Rattle.store_table.proofs.OthersLemmas.{shows_then}
use Rattle.store_table.specs.Moves.{Moves}
use Rattle.store_table.specs.Rows.{TableRow}
use Rattle.store_update.specs.Plan.{Plan}
use Rattle.fallowtime_commands.proofs.SetLemmas.{got_document}
use Rattle.fallowtime_commands.specs.Altering.{Alters, AltersOne, AppliesAltered, IsAlteration, IsAltered, altered_by}
use Rattle.fallowtime_commands.specs.Changing.{IsUnrenewedAt, Updates, outcome_of}
use Rattle.fallowtime_commands.specs.Left.{LeavesAltered, LeavesApplied}
use Rattle.fallowtime_commands.specs.Performing.{reply_of}
use Rattle.fallowtime_commands.specs.declared.answer.Answer.{Answer}
use Rattle.fallowtime_commands.specs.declared.answer.Answer.TheVariants as answer
use Rattle.fallowtime_commands.specs.declared.changing.Unmade.{Unmade}
use Rattle.fallowtime_commands.specs.declared.changing.Unmade.TheVariants as unmade

module _ (n : List ℕ) (id : Value) (plans : List Plan) (told : Bool) where
  abbrev Getting : Reply → List TableRow → List TableRow → Type 0
  Getting r = Does (on n (get_raw id)) r

  -- what is to be made of the document of a body, or why nothing is
  abbrev pub Makes : List ℕ → List Edit → Type 0
  Makes body xs = (d : Members) → IsKept d → body ≡ encode d → IsAlteration n plans d xs

  abbrev pub Stops : List ℕ → Unmade → Type 0
  Stops body why = (d : Members) → IsKept d → body ≡ encode d → IsUnrenewedAt (Updates plans d) 0 why

  made_of_none : (d : Members) (why : Unmade) (docs : List TableRow) → IsUnrenewedAt (Updates plans d) 0 why → AltersOne n plans told d (outcome_of why) docs docs
  made_of_none d (unmade.Update i e) docs h = (h, refl)
  made_of_none d (unmade.Store e) docs h = inl (h, refl)

  by_answer : (d : Members) (b : Bool) (xs : List Edit) (docs after : List TableRow) → IsAlteration n plans d xs → DoesAll xs (Ok tt) docs after → AltersOne n plans b d (Ok (altered_by b xs)) docs after
  by_answer d false xs docs after (change, renews, is) does = (change, renews, refl, subst (λ l. DoesAll l (Ok tt) docs after) is does)
  by_answer d true [] docs after (change, renews, is) does = (change, renews, subst (λ l. answer.Flag false ≡ altered_by true l) is refl, subst (λ l. DoesAll l (Ok tt) docs after) is does)
  by_answer d true (x ∷ xs) docs after (change, renews, is) does = (change, renews, subst (λ l. answer.Flag true ≡ altered_by true l) is refl, subst (λ l. DoesAll l (Ok tt) docs after) is does)

  applied : (d : Members) (xs : List Edit) (o : Result Answer StoreError) (docs after : List TableRow) → IsAlteration n plans d xs → AppliesAltered xs told o docs after → AltersOne n plans told d o docs after
  applied d xs (Ok a) docs after made (is, does) = subst (λ y. AltersOne n plans told d (Ok y) docs after) (sym is) (by_answer d told xs docs after made does)
  applied d xs (Err x) docs after (change, renews, listed_so) (r, is, does) = inr (change, r, renews, is, subst (λ l. DoesAll l (Err r) docs after) listed_so does)

  -- ---- rows

  pub ungot_moves : (s t : State) (e : StoreError) → Moves s t (Getting (refused e.kind e.document)) → Moves s t (Alters n id plans told (Err e))
  ungot_moves s t e m =
      moved s t (Getting (refused e.kind e.document)) (Alters n id plans told (Err e)) m (λ docs after does a shown. let d = does a shown in inl (e, d.0, refl, d.1, d.2))

  pub unmade_moves : (s t : State) (bytes : List ℕ) (why : Unmade) → Stops bytes why → Moves s t (Getting (model.bytes bytes)) → Moves s t (Alters n id plans told (outcome_of why))
  unmade_moves s t bytes why stops m =
      moved s t (Getting (model.bytes bytes)) (Alters n id plans told (outcome_of why)) m
      (λ docs after does a shown.
      let d = does a shown in
      let w = got_document n id bytes docs a d.0 shown d.2 in
      inr (w.0, d.0, after, w.2, d.1, made_of_none w.0 why after (stops w.0 w.2.0 w.1)))

  pub applied_moves : (s m t : State) (bytes : List ℕ) (xs : List Edit) (o : Result Answer StoreError) → Makes bytes xs → Moves s m (Getting (model.bytes bytes)) → Moves m t (AppliesAltered xs told o) → Moves s t (Alters n id plans told o)
  applied_moves s m t bytes xs o makes first second =
      moved_twice s m t (Getting (model.bytes bytes)) (AppliesAltered xs told o) (Alters n id plans told o) first second
      (λ docs mid after does applies a shown.
      let d = does a shown in
      let w = got_document n id bytes docs a d.0 shown d.2 in
      inr (w.0, d.0, mid, w.2, d.1, applied w.0 xs o mid after (makes w.0 w.2.0 w.1) applies))

  -- ---- what a crash leaves

  pub refused_leaves : (s t : State) (r : Reply) → IsRefusal r → Survives s t (λ _. ⊥) → LeavesAltered n id plans r s t
  refused_leaves s t r refusal survives clean first docs beside stands a shown db may = inl (refusal, elim (survives.crash clean db may) [ inl was ↦ was | inr none ↦ absurd none ])

  pub applied_leaves : (s m t : State) (bytes : List ℕ) (xs : List Edit) (o : Result Answer StoreError) → Makes bytes xs → Moves s m (Getting (model.bytes bytes)) → Survives s m (λ _. ⊥) → Moves m t (AppliesAltered xs told o) → LeavesApplied xs o m t
      → LeavesAltered n id plans (reply_of o) s t
  applied_leaves s m t bytes xs (Ok z) makes first_move survives second_move leaves clean first docs beside stands a shown db may =
      let early = (second_move clean).0 in
      let y = (first_move early).1 docs stands in
      let d = y.2 a shown in
      let w = got_document n id bytes docs a d.0 shown d.2 in
      let u = makes w.0 w.2.0 w.1 in
      let listed_leaves = subst (λ l. LeavesWhole l (Ok tt) m t) u.2 leaves in
      inr (w.0, d.0, u.0, w.2, u.1, listed_leaves clean first y.0 (shows_then first s m beside y.3) y.1 d.0 d.1 db may)
  applied_leaves s m t bytes xs (Err z) makes first_move survives second_move (r, leaves) clean first docs beside stands a shown db may =
      let early = (second_move clean).0 in
      let y = (first_move early).1 docs stands in
      let d = y.2 a shown in
      let w = got_document n id bytes docs a d.0 shown d.2 in
      let u = makes w.0 w.2.0 w.1 in
      let listed_leaves = subst (λ l. LeavesWhole l (Err r) m t) u.2 leaves in
      elim (listed_leaves clean first y.0 (shows_then first s m beside y.3) y.1 d.0 d.1 db may) [
        | inl before ↦ inl (tt, elim (survives.crash early db before) [ inl was ↦ was | inr none ↦ absurd none ])
        | inr done ↦ inr (w.0, d.0, u.0, w.2, u.1, done.1)
      ]

-- ---- the shape of the answer

shape_of : (told : Bool) (xs : List Edit) → IsAltered told (altered_by told xs)
shape_of false xs = (xs, refl)
shape_of true [] = ([], refl)
shape_of true (x ∷ xs) = (x ∷ xs, refl)

pub as_altered : (told : Bool) (xs : List Edit) (r : Result Answer StoreError) → IfOk r (λ a. a ≡ altered_by told xs) → IfOk r (IsAltered told)
as_altered told xs (Ok a) is = subst (IsAltered told) (sym is) (shape_of told xs)
as_altered told xs (Err e) is = tt

pub unmade_is : (told : Bool) (why : Unmade) → IfOk (outcome_of why) (IsAltered told)
unmade_is told (unmade.Update i e) = tt
unmade_is told (unmade.Store e) = tt
