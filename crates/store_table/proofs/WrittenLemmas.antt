-- What a prepared statement that writes leaves.
use Rattle.std.proofs.Common.{inl, inr, List, Result, Ok, Err, OnOk, IsErr, IsTrue, ℕ, subst, arith}
use Rattle.sqlite.specs.Order.{Row}
use Rattle.sqlite.specs.Tree.{Trees}
use Rattle.sqlite.specs.declared.error.Error.{Error}
use Rattle.sqlite.specs.State.{State, HasCleanDisk, Survives, Executes, IsNotRun, IsUnchanged}
use Rattle.sqlite.proofs.StateLemmas.{survives_then, survives_weaker}
use Rattle.store_table.specs.Rows.{TableRow, HasRows, HoldsRows}
use Rattle.store_table.specs.Moves.{MayLeave, Stands}
use Rattle.store_table.specs.Written.{WritesRows}
use Rattle.sqlite.specs.Effect.{Database}
use Rattle.store_table.specs.Beside.{SparesOthers, KeepsOthers}
use Rattle.store_table.proofs.StatementLemmas.{unchanged_shows, undone_shows, refused_shows, undone_keeps, if_refused_keeps}
use Rattle.store_table.proofs.OthersLemmas.{still_others, others_after, refused_others, left_beside, shows_then}

module _ (sql : List ℕ) (params : Row) (old new : State) where
  -- a text that isn't prepared
  pub not_prepared : (e : Error) → IsNotRun old new sql params e → IsTrue new.is_open → IsTrue old.is_open × ((docs : List TableRow) → HoldsRows old docs → HoldsRows new docs)
  unfolding IsNotRun
  not_prepared e (inl not_run) still = (not_run.1.0.was_open, λ docs h. unchanged_shows old new docs h not_run.1)
  not_prepared e (inr failed) still = (failed.3.was_open still, λ docs h. undone_shows old new docs h failed.3 still)

  pub not_prepared_others : (e : Error) → IsNotRun old new sql params e → (docs : List TableRow) → Stands old docs → KeepsOthers old new
  unfolding IsNotRun
  not_prepared_others e (inl not_run) docs stands = still_others old new not_run.1
  not_prepared_others e (inr failed) docs stands = refused_others old new docs failed.3.was_open (λ settled. undone_keeps old new settled failed.3) stands

  module _ (mid : State) (change : List TableRow → List TableRow) (same : IsUnchanged old mid) where
    pub written_by : (r : Result ℕ Error) → Executes sql params mid new r → ((docs : List TableRow) → HoldsRows mid docs → OnOk r (HoldsRows new (change docs) × SparesOthers mid.now new.now)) → WritesRows old new change r
    written_by (Ok count) ran ok = record {
      done = (same.0.was_open, λ docs h. (ok docs (unchanged_shows old mid docs h same)).0);
      refused = tt;
      others = λ docs stands. record {
        was_open = λ _. same.0.was_open;
        spared = λ _. subst (λ (d : Database). SparesOthers d new.now) same.0.now_is (ok docs (unchanged_shows old mid docs (stands same.0.was_open) same)).1;
      };
    }
    written_by (Err e) ran ok = record {
      done = tt;
      refused = λ still. (same.0.was_open, λ docs h. refused_shows sql params mid new docs e ran (unchanged_shows old mid docs h same) still);
      others = λ docs stands. others_after old mid new same
          (refused_others mid new docs (λ _. same.0.is_open) (if_refused_keeps sql params mid new (Err e) ran) (λ _. unchanged_shows old mid docs (stands same.0.was_open) same));
    }

-- nothing is committed before it
pub crash_before : (old new : State) (change : List TableRow → List TableRow) → Survives old new (λ _. ⊥) → Survives old new (MayLeave change old)
crash_before old new change = survives_weaker old new _ _ (λ _ db none. absurd none)

pub written_err : {A E : Type 0} (old new : State) (change : List TableRow → List TableRow) (r : Result A E) → IsErr r → (IsTrue new.is_open → IsTrue old.is_open × ((docs : List TableRow) → HoldsRows old docs → HoldsRows new docs))
    → ((docs : List TableRow) → Stands old docs → KeepsOthers old new) → WritesRows old new change r
written_err old new change (Ok x) is why others = absurd (let e = is in cc)
written_err old new change (Err e) is why others = record { done = tt; refused = why; others = others }

-- what a crash may leave after it
pub crash_after : (old mid new : State) (Commits : Trees → Type 0) (change : List TableRow → List TableRow) → (HasCleanDisk mid → IsUnchanged old mid) → Survives old mid (λ _. ⊥) → Survives mid new Commits
    → (HasCleanDisk mid → (docs : List TableRow) → HoldsRows mid docs → (db : Trees) → Commits db → HasRows mid.now db (change docs)) → Survives old new (MayLeave change old)
crash_after old mid new Commits change same before later made =
    survives_then old mid new (λ _. ⊥) Commits (MayLeave change old) (λ _ db none. absurd none)
    (λ clean db commits first docs beside stands.
    let early : HasCleanDisk mid = omega (arith, clean, later.clean) in
    let u = same early in
    left_beside first mid.now db (change docs) (shows_then first old mid beside (still_others old mid u) u.0.is_open) (made early docs (unchanged_shows old mid docs (stands u.0.was_open) u) db commits)) before later
