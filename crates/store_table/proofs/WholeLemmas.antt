-- Changes of the rows in a transaction, one after the other.
use Rattle.std.proofs.Common.{◌≡◌, ℕ, ℤ, String, Vec, Global, pos, ◌+ℤ◌, ◌<ℤ◌, List, [], ◌∷◌, ◌++◌, Bool, true, false, Ok, Err, Result, OnOk, refl, sym, ap, subst, ◌∙◌, take, length, suc, zero, get_or, ◌+◌, ◌<◌, not, cond, string_bytes, arith}
use Rattle.std.proofs.lemmas.Int.{ints}
use Rattle.sqlite.specs.declared.types.Value.TheVariants.{Int, Blob}
use Rattle.sqlite.specs.Effect.{Database}
use Rattle.sqlite.specs.declared.error.Error.{Error}
use Rattle.sqlite.specs.State.{State, mode_of, ExecutesInside}
use Rattle.sqlite.specs.Listing.{understood}
use Rattle.sqlite.proofs.Callers.{runs_as, statement_of}
use Rattle.store_table.specs.declared.change.Change.{Change}
use Rattle.store_table.specs.declared.change.Change.TheVariants.{Add, Rewrite, Remove}
use Rattle.store_table.specs.Change.{with_change, with_changes}
use Rattle.store_table.specs.Rows.{TableRow, RowsIn, Inside, AreBelow, is_at, without_place, with_body_at}
use Rattle.store_table.specs.Beside.{SparesOthers}
use Rattle.store_table.proofs.StatementLemmas.{seen, unseen}
use Rattle.store_table.proofs.ChangeLemmas.{delete_command, deletes, update_command, updates}
use Rattle.store_table.proofs.ManyLemmas.{below_more, below_both}
use Rattle.store_table.proofs.TextLemmas.{delete_text, update_text}
use Rattle.store_table.proofs.MeansLemmas.{delete_is, update_is}

module _ (p : ℤ) (old new : State) (first docs : List TableRow) (h : Inside old first docs) where
  rewrite_ok : (body : List ℕ) (count : ℕ) → ExecutesInside 0 update_text (Int p ∷ Blob body ∷ []) old new (Ok count) → Inside new first (with_body_at p body docs) × SparesOthers old.now new.now
  rewrite_ok body count ran =
      let m = update_is old.now.schema (seen h.table).place (seen h.table).tree (seen h.table).stands in
      let w = runs_as update_text (Int p ∷ Blob body ∷ []) old new old.now.schema refl (update_command (seen h.table).place (seen h.table).tree) m.is m.plain count ran.0 in
      let made = updates old.step_limit (mode_of old) (statement_of update_text (understood old.now.schema update_text)) p body docs old.now w.tally new.now (seen h.table) w.changed w.sound in
      let shown = ran.1 in
      (record { is_open = shown.is_open; mode = shown.mode; table = unseen made.0; first_table = subst (λ (x : Database). RowsIn x first) (sym shown.committed_is) h.first_table }, made.1)

  pub rewrite_done : (body : List ℕ) (r : Result ℕ Error) → ExecutesInside 0 update_text (Int p ∷ Blob body ∷ []) old new r → OnOk r (Inside new first (with_body_at p body docs))
  rewrite_done body (Ok count) ran = (rewrite_ok body count ran).0
  rewrite_done body (Err e) ran = tt

  pub rewrite_spared : (body : List ℕ) (r : Result ℕ Error) → ExecutesInside 0 update_text (Int p ∷ Blob body ∷ []) old new r → OnOk r (SparesOthers old.now new.now)
  rewrite_spared body (Ok count) ran = (rewrite_ok body count ran).1
  rewrite_spared body (Err e) ran = tt

  remove_ok : (count : ℕ) → ExecutesInside 0 delete_text (Int p ∷ []) old new (Ok count) → Inside new first (without_place p docs) × SparesOthers old.now new.now
  remove_ok count ran =
      let m = delete_is old.now.schema (seen h.table).place (seen h.table).tree (seen h.table).stands in
      let w = runs_as delete_text (Int p ∷ []) old new old.now.schema refl (delete_command (seen h.table).place (seen h.table).tree) m.is m.plain count ran.0 in
      let made = deletes old.step_limit (mode_of old) (statement_of delete_text (understood old.now.schema delete_text)) p docs old.now w.tally new.now (seen h.table) w.changed w.sound in
      let shown = ran.1 in
      (record { is_open = shown.is_open; mode = shown.mode; table = unseen made.0; first_table = subst (λ (x : Database). RowsIn x first) (sym shown.committed_is) h.first_table }, made.1)

  pub remove_done : (r : Result ℕ Error) → ExecutesInside 0 delete_text (Int p ∷ []) old new r → OnOk r (Inside new first (without_place p docs))
  remove_done (Ok count) ran = (remove_ok count ran).0
  remove_done (Err e) ran = tt

  pub remove_spared : (r : Result ℕ Error) → ExecutesInside 0 delete_text (Int p ∷ []) old new r → OnOk r (SparesOthers old.now new.now)
  remove_spared (Ok count) ran = (remove_ok count ran).1
  remove_spared (Err e) ran = tt

-- ---- places

pub below_added : (last place : ℤ) (coll idkey body : List ℕ) (docs : List TableRow) → last <ℤ place → AreBelow (last +ℤ pos 1) docs
    → AreBelow (place +ℤ pos 1) (docs ++ record { place = place; coll = coll; idkey = idkey; body = body } ∷ [])
below_added last place coll idkey body docs h below =
    below_both (place +ℤ pos 1) docs _ (below_more (last +ℤ pos 1) (place +ℤ pos 1) docs (omega (arith, ints, h)) below) (omega (arith, ints), tt)

pub below_place : (last place : ℤ) (docs : List TableRow) → last <ℤ place → AreBelow (last +ℤ pos 1) docs → AreBelow place docs
below_place last place docs h below = below_more (last +ℤ pos 1) place docs (omega (arith, ints, h)) below

pub below_rewritten : (q p : ℤ) (body : List ℕ) (docs : List TableRow) → AreBelow q docs → AreBelow q (with_body_at p body docs)
below_rewritten q p body [] h = tt
below_rewritten q p body (d ∷ docs) h = go (is_at p d) (below_rewritten q p body docs h.1)
  where
    go : (b : Bool) → AreBelow q (with_body_at p body docs) → AreBelow q (cond b (record d { body = body }) d ∷ with_body_at p body docs)
    go true rest = (h.0, rest)
    go false rest = (h.0, rest)

pub below_without : (q p : ℤ) (docs : List TableRow) → AreBelow q docs → AreBelow q (without_place p docs)
below_without q p [] h = tt
below_without q p (d ∷ docs) h = go (is_at p d) (below_without q p docs h.1)
  where
    go : (b : Bool) → AreBelow q (without_place p docs) → AreBelow q (cond (not b) (d ∷ without_place p docs) (without_place p docs))
    go true rest = rest
    go false rest = (h.0, rest)

-- ---- one change more

pub one_change_more : (changes : List Change) (i : ℕ) (c : Change) (docs : List TableRow) → i < length changes → c ≡ get_or changes i c
    → with_changes (take (i + 1) changes) docs ≡ with_change c (with_changes (take i changes) docs)
one_change_more [] i c docs low is = absurd (omega (arith, low))
one_change_more (x ∷ changes) zero c docs low is = ap (λ (y : Change). with_change y docs) (sym is)
one_change_more (x ∷ changes) (suc i) c docs low is =
    let e : suc i + 1 ≡ suc (i + 1) = omega arith in
    ap (λ n. with_changes (take n (x ∷ changes)) docs) e ∙ one_change_more changes i c (with_change x docs) (omega (arith, low)) is

-- ---- a change by its parts

pub add_is : (x : Change) (p q : ℤ) (coll : String Global) (idkey body : Vec ℕ Global) (c k b : List ℕ) (docs : List TableRow) → x ≡ Add p coll idkey body → q ≡ p → c ≡ string_bytes coll → k ≡ idkey.items → b ≡ body.items
    → docs ++ record { place = q; coll = c; idkey = k; body = b } ∷ [] ≡ with_change x docs
add_is x p q coll idkey body c k b docs is place named keyed held = rw (is, place, named, keyed, held) refl

pub rewrite_is : (x : Change) (p q : ℤ) (old body : Vec ℕ Global) (b : List ℕ) (docs : List TableRow) → x ≡ Rewrite p old body → q ≡ p → b ≡ body.items → with_body_at q b docs ≡ with_change x docs
rewrite_is x p q old body b docs is place held = rw (is, place, held) refl

pub remove_is : (x : Change) (p q : ℤ) (old : Vec ℕ Global) (docs : List TableRow) → x ≡ Remove p old → q ≡ p → without_place q docs ≡ with_change x docs
remove_is x p q old docs is place = rw (is, place) refl
