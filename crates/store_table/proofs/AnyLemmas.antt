-- What holds of any SELECT with no time in it, whatever the schema is.
use Rattle.std.proofs.Common.{◌≡◌, ◌⊎◌, inl, inr, ℕ, List, [], Option, Result, Ok, Err, IsSome, IsTrue, IsErr, IfOk, IfErr, refl, subst}
use Rattle.std.proofs.lemmas.Bool.{cases_Bool}
use Rattle.sqlite.specs.Clock.{timed}
use Rattle.sqlite.specs.Order.{Row}
use Rattle.sqlite.specs.Schema.{Schema}
use Rattle.sqlite_resolve.specs.declared.compiled.Compiled.{Compiled}
use Rattle.sqlite_resolve.specs.declared.error.CompileError.{CompileError}
use Rattle.sqlite_resolve.specs.Compile.{first}
use Rattle.sqlite_trees.specs.declared.store.Store as store
use Rattle.sqlite.specs.declared.error.Error.{Error}
use Rattle.sqlite.specs.declared.error.Error.TheVariants.{QueryReturnedNoRows}
use Rattle.sqlite.specs.Command.{Command}
use Rattle.sqlite.specs.Command.TheVariants.{Select, Rows}
use Rattle.sqlite.specs.Effect.{Database, RefusesToRead}
use Rattle.sqlite_trees.specs.declared.error.StoreError.{StoreError}
use Rattle.sqlite_trees.specs.declared.error.StoreError.TheVariants.{OutOfMemory, Io, Corrupt, Full, Broken, Unstorable}
use Rattle.sqlite.specs.Listing.{understood, reads_listing, listing_schema}
use Rattle.sqlite.specs.Held.{Held, state}
use Rattle.sqlite.specs.Given.{HasBegun, HasGiven, Returns}
use Rattle.sqlite.specs.State.{State, Shown, ShowsRows, CommitsShowing, FailsToQuery, FailsToShow, IsNotRun, QueriesRow, store_error, IsUnchanged, Fails, Survives}
use Rattle.sqlite.proofs.StateLemmas.{survives_weaker}
use Rattle.store_table.specs.Rows.{TableRow, HoldsRows}
use Rattle.store_table.specs.Visit.{ReadsRows}
use Rattle.store_table.specs.Moves.{Stands}
use Rattle.store_table.specs.Open.{IsSettled, KeepsAll}
use Rattle.store_table.specs.Beside.{KeepsOthers}
use Rattle.store_table.proofs.StatementLemmas.{unchanged_shows, undone_shows, unchanged_keeps, undone_keeps}
use Rattle.store_table.proofs.OthersLemmas.{still_others, others_after, refused_others}
use Rattle.store_table.proofs.PlainLemmas.{AsksForRows, Bare, bare_if, if_select_is}

-- no refusal to read is QueryReturnedNoRows
not_read : (limit : Option ℕ) (command : Command) (db : Database) (params : Row) → RefusesToRead limit command db params QueryReturnedNoRows → ⊥
not_read limit (Select q names) db params (inl h) = absurd (let e = h.0 in cc)
not_read limit (Select q names) db params (inr (inl h)) = absurd (let e = h.0 in cc)
not_read limit (Select q names) db params (inr (inr h)) = absurd (let e = h.0 in cc)
not_read limit (Rows values width names) db params h = absurd (let e = h.0 in cc)
not_read limit _ db params h = absurd (cc)

not_stored : (k : StoreError) → QueryReturnedNoRows ≡ store_error k → ⊥
not_stored OutOfMemory h = cc
not_stored Io h = cc
not_stored Corrupt h = cc
not_stored Full h = cc
not_stored Broken h = cc
not_stored Unstorable h = cc

module _ (text : List ℕ) (asked : AsksForRows (first text)) where
  pub bare : (schema : Schema) (c : Compiled) → understood schema text ≡ Ok c → Bare c
  unfolding understood
  bare schema c h = elim (cases_Bool (reads_listing schema text)) [
    | inl hit ↦ bare_if listing_schema text (first text) refl asked c (if_select_is _ c (rw hit at h))
    | inr miss ↦ bare_if schema text (first text) refl asked c (rw miss at h)
  ]

  pub shown_same : (params : Row) (old new : State) (rows : List Row) → Shown text params old new rows → IsUnchanged old new
  unfolding Shown
  shown_same params old new rows h = (subst (λ k. ShowsRows old new text h.0 (timed params h.0.formats h.1.now) rows k) (bare old.now.schema h.0 h.1.is).0 h.2).3

  pub leaves_nothing : (params : Row) (old new : State) → Survives old new (CommitsShowing text params old) → Survives old new (λ _. ⊥)
  unfolding CommitsShowing
  leaves_nothing params old new = survives_weaker old new _ _ (λ _ db h. absurd (let e = subst IsSome (bare old.now.schema h.0 h.1.is).0 h.2 in cc))

  -- a refused one leaves what the connection showed, or shuts it
  pub refused_shows_still : (params : Row) (old new : State) (docs : List TableRow) (e : Error) → FailsToQuery text params old new e → HoldsRows old docs → IsTrue new.is_open → HoldsRows new docs
  unfolding FailsToQuery IsNotRun
  refused_shows_still params old new docs e (inl (inl not_run)) h still = unchanged_shows old new docs h not_run.1
  refused_shows_still params old new docs e (inl (inr failed)) h still = undone_shows old new docs h failed.3 still
  refused_shows_still params old new docs e (inr ran) h still =
      unchanged_shows old new docs h (subst (λ k. FailsToShow old new text ran.0 (timed params ran.0.formats ran.1.now) e k) (bare old.now.schema ran.0 ran.1.is).0 ran.2).3

  pub refused_was_open : (params : Row) (old new : State) (e : Error) → FailsToQuery text params old new e → IsTrue new.is_open → IsTrue old.is_open
  unfolding FailsToQuery IsNotRun
  refused_was_open params old new e (inl (inl not_run)) still = not_run.1.0.was_open
  refused_was_open params old new e (inl (inr failed)) still = failed.3.was_open still
  refused_was_open params old new e (inr ran) still =
      (subst (λ k. FailsToShow old new text ran.0 (timed params ran.0.formats ran.1.now) e k) (bare old.now.schema ran.0 ran.1.is).0 ran.2).3.0.was_open

  refused_keeps_all : (params : Row) (old new : State) (e : Error) → FailsToQuery text params old new e → IsSettled old → KeepsAll old new
  unfolding FailsToQuery IsNotRun
  refused_keeps_all params old new e (inl (inl not_run)) h = unchanged_keeps old new not_run.1
  refused_keeps_all params old new e (inl (inr failed)) h = undone_keeps old new h failed.3
  refused_keeps_all params old new e (inr ran) h =
      unchanged_keeps old new (subst (λ k. FailsToShow old new text ran.0 (timed params ran.0.formats ran.1.now) e k) (bare old.now.schema ran.0 ran.1.is).0 ran.2).3

  pub refused_others_still : (params : Row) (old new : State) (docs : List TableRow) (e : Error) → FailsToQuery text params old new e → Stands old docs → KeepsOthers old new
  refused_others_still params old new docs e k stands = refused_others old new docs (refused_was_open params old new e k) (refused_keeps_all params old new e k) stands

  -- what is read, whatever the rows are
  pub is_read : {X : Type 0} (params : Row) (old new : State) (rows : X → List Row) (r : Result X Error) → IfOk r (λ x. Shown text params old new (rows x)) → IfErr r (FailsToQuery text params old new) → ReadsRows old new r
  is_read params old new rows (Ok x) h k = record { unchanged = shown_same params old new (rows x) h; refused = tt; others = tt }
  is_read params old new rows (Err e) h k = record {
    unchanged = tt;
    refused = λ still. (refused_was_open params old new e k still, λ docs shows. refused_shows_still params old new docs e k shows still);
    others = λ docs stands. refused_others_still params old new docs e k stands;
  }

  pub read_err : {A E : Type 0} (params : Row) (old new : State) (why : Error) (r : Result A E) → IsErr r → FailsToQuery text params old new why → ReadsRows old new r
  read_err params old new why (Ok x) is k = absurd (let e = is in cc)
  read_err params old new why (Err e) is k = record {
    unchanged = tt;
    refused = λ still. (refused_was_open params old new why k still, λ docs shows. refused_shows_still params old new docs why k shows still);
    others = λ docs stands. refused_others_still params old new docs why k stands;
  }

  not_failed : (params : Row) (old new : State) → FailsToQuery text params old new QueryReturnedNoRows → ⊥
  unfolding FailsToQuery IsNotRun
  not_failed params old new (inl (inl (inl why, same))) = absurd (let e = why.2 in cc)
  not_failed params old new (inl (inl (inr why, same))) = absurd (elim why.2 [ inl a ↦ let e = a.1 in cc | inr b ↦ elim b [ inl x ↦ let e = x.1 in cc | inr y ↦ let e = y.1 in cc ] ])
  not_failed params old new (inl (inr failed)) = absurd (not_stored failed.0 failed.1)
  not_failed params old new (inr ran) =
      let it = subst (λ k. FailsToShow old new text ran.0 (timed params ran.0.formats ran.1.now) QueryReturnedNoRows k) (bare old.now.schema ran.0 ran.1.is).0 ran.2 in
      absurd (not_read old.step_limit ran.0.command it.0 (timed params ran.0.formats ran.1.now) it.2)

  -- the first row of a result
  pub row_same : (params : Row) (old new : State) (row : Row) → QueriesRow text params old new (Ok row) → IsUnchanged old new
  unfolding QueriesRow
  row_same params old new row (inl q) = q.1
  row_same params old new row (inr q) = shown_same params old new q.0 q.1

  pub no_rows : (params : Row) (old new : State) → QueriesRow text params old new (Err QueryReturnedNoRows) → Shown text params old new []
  unfolding QueriesRow
  no_rows params old new (inl q) = absurd (not_failed params old new q)
  no_rows params old new (inr q) = q.1

  pub row_refused : (params : Row) (old new : State) (e : Error) → QueriesRow text params old new (Err e) → IsTrue new.is_open → IsTrue old.is_open × ((docs : List TableRow) → HoldsRows old docs → HoldsRows new docs)
  unfolding QueriesRow
  row_refused params old new e (inl q) still = (refused_was_open params old new e q still, λ docs shows. refused_shows_still params old new docs e q shows still)
  row_refused params old new e (inr q) still = let u = shown_same params old new [] q.1 in (u.0.was_open, λ docs shows. unchanged_shows old new docs shows u)

  pub row_others : (params : Row) (old new : State) (e : Error) → QueriesRow text params old new (Err e) → (docs : List TableRow) → Stands old docs → KeepsOthers old new
  unfolding QueriesRow
  row_others params old new e (inl q) docs stands = refused_others_still params old new docs e q stands
  row_others params old new e (inr q) docs stands = still_others old new (shown_same params old new [] q.1)

  no_returns : (schema : Schema) (r : Result Compiled CompileError) → understood schema text ≡ r → Returns r → ⊥
  no_returns schema (Ok c) is h = absurd (let e = subst IsSome (bare schema c is).0 h in cc)
  no_returns schema (Err e) is h = h

  pub begun_any : {S : Type 0} (g : store.Ghosts S) (params : Row) (old new : Held S) → HasBegun g text params old new → HasGiven g text params new [] × IsUnchanged (state g old) (state g new)
  begun_any g params old new (inl h) = h
  begun_any g params old new (inr h) = absurd (no_returns old.schema (understood old.schema text) refl h.0)

-- a read that ends in a refusal on the way
pub read_stopped : {A E : Type 0} (old mid new : State) (why : Error) (r : Result A E) → IsErr r → IsUnchanged old mid → Fails mid new ⊥ why ⊎ IsUnchanged mid new → ReadsRows old new r
read_stopped old mid new why (Ok x) is u k = absurd (let e = is in cc)
read_stopped old mid new why (Err e) is u (inl failed) = record {
  unchanged = tt;
  refused = λ still. (u.0.was_open, λ docs shows. undone_shows mid new docs (unchanged_shows old mid docs shows u) failed.3 still);
  others = λ docs stands. others_after old mid new u
      (refused_others mid new docs failed.3.was_open (λ settled. undone_keeps mid new settled failed.3) (λ _. unchanged_shows old mid docs (stands u.0.was_open) u));
}
read_stopped old mid new why (Err e) is u (inr same) = record {
  unchanged = tt;
  refused = λ still. (u.0.was_open, λ docs shows. unchanged_shows mid new docs (unchanged_shows old mid docs shows u) same);
  others = λ docs stands. others_after old mid new u (still_others mid new same);
}

-- a read that is given up
pub read_left : {A E : Type 0} (old new : State) (r : Result A E) → IsErr r → IsUnchanged old new → ReadsRows old new r
read_left old new (Ok x) is u = absurd (let e = is in cc)
read_left old new (Err e) is u = record { unchanged = tt; refused = λ still. (u.0.was_open, λ docs shows. unchanged_shows old new docs shows u); others = λ docs stands. still_others old new u }
