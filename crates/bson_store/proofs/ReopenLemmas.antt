-- An open over what a crash left.
use Rattle.std.proofs.Common.{◌≡◌, ◌⊎◌, inl, inr, ℕ, List, [], Option, None, true, false, is_some, IsTrue, refl, sym, ap, ◌∙◌}
use Rattle.sqlite_trees.specs.Tree.{Trees}
use Rattle.sqlite_schema.specs.Names.{table_named}
use Rattle.sqlite.specs.Effect.{Database}
use Rattle.sqlite.specs.State.{State, HasCleanDisk, IsLive, Opens, Survives}
use Rattle.store_table.specs.Rows.{TableRow, IsBlank, HoldsRows}
use Rattle.store_table.specs.Open.{table_name}
use Rattle.store_table.specs.Beside.{AreBeside}
use Rattle.store_table.specs.Renewal.{Makes}
use Rattle.store_table.proofs.AgainLemmas.{again_blank, again_shows}
use Rattle.store_table.proofs.BlankLemmas.{rows_beside}
use Rattle.store_table.proofs.StatementLemmas.{lists_own, seen}
use Rattle.store_table.proofs.OthersLemmas.{spared_all}
use Rattle.store_table.proofs.SurveyLemmas.{a_table}
use Rattle.store_table.proofs.TableLemmas.{left_rows}
use Rattle.store_model.specs.State as model
use Rattle.std.specs.FinMap.{empty}
use Rattle.bson_store.specs.Shown.{Represents}
use Rattle.bson_store.specs.Left.{Holds, HoldsBy, HoldsOnce, ShowOnce, ShowState, FindsState, LeavesOnly, Keeps}
use Rattle.store_model.specs.Left.{HoldsEndOrOneMore, IsEndOrOneMore}
use Rattle.bson_store.specs.Opening.{IsRowUnder, Opens as OpensStore}
use Rattle.bson_store.proofs.RenewalLemmas.{shown_now, shown_once}

none_shown : Represents [] []
none_shown = record { each = tt; good = tt; rising = tt }

none_now : (x : model.State) → x ≡ empty → ShowState [] x
none_now x is = ([], none_shown, is)

none_once : (x : model.State) → x ≡ empty → ShowOnce [] x
none_once x is = ([], shown_once [] [] none_shown, is)

not_none : (o : Option ℕ) → is_some o ≡ true → o ≡ None → ⊥
not_none o h e = let k : is_some o ≡ false = ap is_some e in cc

-- what is held under current keys is held
held_once : (first : Database) (db : Trees) (x : model.State) → Holds first db x → HoldsOnce first db x
held_once first db x (inl rows) = inl (rows.0, rows.1, (rows.2.0, shown_once rows.0 rows.2.0 rows.2.1, rows.2.2))
held_once first db x (inr nothing) = inr nothing

module _ (old new : State) (x : model.State) where
  -- the connection shows the state, or has no table, as the state has no list
  abbrev ShowsFound : (List TableRow → model.State → Type 0) → Type 0
  ShowsFound Shows = ((docs : List TableRow) × HoldsRows old docs × Shows docs x) ⊎ (IsBlank old × (x ≡ empty))

  finds_once : FindsState Holds old x → FindsState HoldsOnce old x
  finds_once finds = record { fresh = finds.fresh; live = finds.live; first = finds.first; holds = held_once finds.first old.committed.trees x finds.holds }

  module _ (Shows : List TableRow → model.State → Type 0) (none : x ≡ empty → Shows [] x) where
    shows_found : FindsState (HoldsBy Shows) old x → ShowsFound Shows
    shows_found finds = elim finds.holds [
      | inl rows ↦ inl (rows.0, again_shows old (record { schema = finds.first.schema; trees = old.committed.trees }) rows.0 finds.fresh finds.live rows.1.table refl, rows.2)
      | inr nothing ↦ elim nothing.0.left [
        | inl same ↦ inr (again_blank old finds.first finds.fresh finds.live same.0 nothing.0.free same.1, nothing.1)
        | inr made ↦ inl ([], again_shows old made.0 [] finds.fresh finds.live (rows_beside finds.first made.0 nothing.0.free made.1) made.2, none nothing.1)
      ]
    ]

    still_held : ShowsFound Shows → IsLive old → (db : Trees) → db ≡ old.committed.trees → HoldsBy Shows old.now db x
    still_held (inl rows) live db is = inl (rows.0, left_rows old.now old rows.0 db rows.1 (spared_all old.now old.now refl) is, rows.2)
    still_held (inr blank) live db is =
        inr (record { free = blank.0.free; left = inl (lists_own old.now (live blank.0.is_open).0, is ∙ sym (ap (λ (d : Database). d.trees) blank.0.settled)) }, blank.1)

  -- an open that was accepted
  module _ (settled : (db : Trees) → IsTrue new.is_open → new.may_leave db → db ≡ new.committed.trees) where
    kept : (docs : List TableRow) → HoldsRows new docs → ShowState docs x → Keeps new x
    kept docs k shown = ((docs, k, shown), λ db may. inl (docs, left_rows new.now new docs db k (spared_all new.now new.now refl) (settled db k.is_open may), shown))

    pub keeps_found : FindsState HoldsOnce old x → OpensStore old new → Keeps new x × LeavesOnly (Holds old.now) new x
    keeps_found finds opened = elim (shows_found ShowOnce (none_once x) finds) [
      | inl rows ↦
          let k = opened.found rows.0 rows.1 in
          let shown : ShowState k.0 x = (rows.2.0, k.2.1 rows.2.0 rows.2.1, rows.2.2) in
          (kept k.0 k.1 shown, λ db may. inl (k.0, left_rows old.now new k.0 db k.1 k.3 (settled db k.1.is_open may), shown))
      | inr blank ↦
          let k = opened.made blank.0 in
          let made = opened.beside blank.0.free.unnamed in
          let left : (db : Trees) → new.may_leave db → AreBeside old.now db = λ db may. (new.now, made.1, settled db k.is_open may ∙ sym (ap (λ (d : Database). d.trees) k.settled)) in
          (kept [] k ([], none_shown, blank.1), λ db may. inr (record { free = blank.0.free; left = inr (left db may) }, blank.1))
    ]

  -- what it committed, beside the other tables that were found
  pub held_found : FindsState HoldsOnce old x → OpensStore old new → Holds old.now new.committed.trees x
  held_found finds opened = elim (shows_found ShowOnce (none_once x) finds) [
    | inl rows ↦ let k = opened.found rows.0 rows.1 in inl (k.0, left_rows old.now new k.0 new.committed.trees k.1 k.3 refl, (rows.2.0, k.2.1 rows.2.0 rows.2.1, rows.2.2))
    | inr blank ↦
        let k = opened.made blank.0 in
        let made = opened.beside blank.0.free.unnamed in
        inr (record { free = blank.0.free; left = inr (new.now, made.1, sym (ap (λ (d : Database). d.trees) k.settled)) }, blank.1)
  ]

  -- what a refused one may have made
  made_held : ShowsFound ShowOnce → IsLive old → (db : Trees) → Makes IsRowUnder old db → Holds old.now db x
  made_held (inl rows) live db made = elim made [
    | inl none ↦ absurd (not_none (table_named old.now.schema table_name) (a_table old.now.schema (seen rows.1.table).place (seen rows.1.table).tree (seen rows.1.table).stands) none.0)
    | inr renewed ↦ let k = renewed.1.1.shown live rows.0 rows.1 in inl (k.0, k.2, (rows.2.0, shown_now rows.0 k.0 k.1 rows.2.0 rows.2.1, rows.2.2))
  ]
  made_held (inr blank) live db made = elim made [
    | inl none ↦ inr (record { free = blank.0.free; left = inr none.1 }, blank.1)
    | inr renewed ↦ absurd (renewed.0 blank.0.free.unnamed)
  ]

  module _ (settled : (db : Trees) → IsTrue old.is_open → old.may_leave db → db ≡ old.committed.trees) (survives : Survives old new (Makes IsRowUnder old)) (clean : HasCleanDisk new) where
    -- a refused one, over current keys
    pub keeps_refused : FindsState Holds old x → LeavesOnly (Holds old.now) new x
    keeps_refused finds db may = elim (survives.crash clean db may) [
      | inl was ↦ still_held ShowState (none_now x) (shows_found ShowState (none_now x) finds) finds.live db (settled db finds.fresh.is_open was)
      | inr made ↦ made_held (shows_found ShowOnce (none_once x) (finds_once finds)) finds.live db made
    ]

    -- and over current keys or keys from before
    pub keeps_refused_old : FindsState HoldsOnce old x → LeavesOnly (HoldsOnce old.now) new x
    keeps_refused_old finds db may = elim (survives.crash clean db may) [
      | inl was ↦ still_held ShowOnce (none_once x) (shows_found ShowOnce (none_once x) finds) finds.live db (settled db finds.fresh.is_open was)
      | inr made ↦ held_once old.now db x (made_held (shows_found ShowOnce (none_once x) finds) finds.live db made)
    ]

-- ---- what a crash left

pub state_found : (first : Database) (s : State) (x : model.State) → Opens s → IsLive s → Holds first s.committed.trees x → FindsState HoldsOnce s x
state_found first s x fresh live holds = record { fresh = fresh; live = live; first = first; holds = held_once first s.committed.trees x holds }

pub run_found : (first : Database) (asked : List model.Command) (end : model.State) (s : State) → Opens s → IsLive s → HoldsEndOrOneMore (Holds first) asked end s.committed.trees → (x : model.State) × FindsState HoldsOnce s x × IsEndOrOneMore asked end x
run_found first asked end s fresh live y = (y.0, state_found first s y.0 fresh live y.1, y.2)
