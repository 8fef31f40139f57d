-- What holds of any statement: a refused one leaves the table, and what a crash may leave comes from its change.
use Rattle.std.proofs.Common.{OnErr, ◌≡◌, ◌==◌, inl, inr, ℕ, List, [], ◌∷◌, length, slice_get, append-nil, flat_map, false, Option, None, Some, Ok, Err, Result, refl, sym, ap, subst, subst₂, ◌∙◌, IsTrue}
use Rattle.std.specs.List.{AllByRecursion, filter_map}
use Rattle.std.proofs.lemmas.Bool.{cases_Bool}
use Rattle.sqlite.specs.Order.{Row}
use Rattle.sqlite.specs.Tree.{Trees}
use Rattle.sqlite.specs.Command.{Command}
use Rattle.sqlite.specs.Command.TheVariants.{Commit, Release}
use Rattle.sqlite_schema.specs.declared.schema.Schema.{Schema}
use Rattle.sqlite.specs.declared.error.Error.{Error}
use Rattle.sqlite.specs.Listing.{understood}
use Rattle.sqlite.specs.Effect.{Database, IsDatabase}
use Rattle.sqlite.specs.Does.{Tally, Does, AtPlace, OnTable, OnRows}
use Rattle.sqlite.specs.Rows.{Outcome}
use Rattle.sqlite.specs.declared.run.Mode.{Mode}
use Rattle.sqlite_schema.specs.declared.schema.Keys.{Keys}
use Rattle.sqlite_schema.specs.declared.schema.Reference.{Reference}
use Rattle.sqlite_schema.specs.declared.schema.Table.{Table}
use Rattle.sqlite_schema.specs.Rules.{ParentKey, parent_key}
use Rattle.sqlite_rules.specs.declared.action.Deed.{Deed}
use Rattle.sqlite_rules.specs.Action.{pairs, deed_for, work_by, work_for, works}
use Rattle.sqlite.specs.State.{State, mode_of, Executes, ExecutesIn, IsUnchanged, IsRolledBack, IsNotRun, shows_rows, CommitsBy, MayCommit, text_of}
use Rattle.sqlite.specs.Given.{IsPlain}
use Rattle.sqlite.proofs.Callers.{command_of, statement_of}
use Rattle.store_table.specs.Schema.{HasDocuments, is_key_in}
use Rattle.store_table.specs.Open.{IsSettled, KeepsAll}
use Rattle.store_table.specs.Rows.{TableRow, TableRows, RowsIn, ListsSchema, HoldsRows}

-- a database lists its schema
pub lists_own : (db : Database) → IsDatabase db → ListsSchema db
unfolding ListsSchema
lists_own db sound = sound.lists

-- the rows of a database, with the word unfolded and folded again
pub seen : {db : Database} {docs : List TableRow} → RowsIn db docs → TableRows db docs
unfolding RowsIn
seen h = h

pub unseen : {db : Database} {docs : List TableRow} → TableRows db docs → RowsIn db docs
unfolding RowsIn
unseen h = h

-- a statement at the place of a table is about that table
pub at_table : (limit : Option ℕ) (mode : Mode) (params : Row) (db : Database) (command : Command) (at : ℕ) (table : Table) (out : Outcome (Tally × Database)) → slice_get db.schema.tables at ≡ Some table
    → OnTable limit mode params db at (λ task. OnRows task mode None command db.trees) out
    → OnRows (record { limit = limit; keys = mode.keys; schema = db.schema; table = table; params = params }) mode None command db.trees out
at_table limit mode params db command at table out is h =
    subst (λ (x : Option Table). AtPlace (λ t. OnRows (record { limit = limit; keys = mode.keys; schema = db.schema; table = t; params = params }) mode None command db.trees) x out) is h

no_work : (depth tree : ℕ) (moves : List (Row × Row)) (child : Table) (ref : Reference) (deed : Option Deed) (key : Option ParentKey) → is_key_in tree key ≡ false → work_by depth tree moves child ref deed key ≡ None
no_work depth tree moves child ref None key h = refl
no_work depth tree moves child ref (Some deed) None h = refl
no_work depth tree moves child ref (Some deed) (Some key) h = rw h refl

-- no foreign key acts on a table to which none refers
module _ (schema : Schema) (keys : Keys) (tree : ℕ) (olds news : List Row) where
  none_of : (child : Table) (refs : List Reference) → AllByRecursion (λ ref. is_key_in tree (parent_key schema.tables ref) ≡ false) refs → filter_map (work_for schema keys 0 tree olds news child) refs ≡ []
  none_of child [] h = refl
  none_of child (ref ∷ refs) h =
      rw (no_work 0 tree (pairs olds news) child ref (deed_for keys (length news == 0) ref) (parent_key schema.tables ref) h.0, none_of child refs h.1) refl

  none_of_all : (ts : List Table) → AllByRecursion (λ t. AllByRecursion (λ ref. is_key_in tree (parent_key schema.tables ref) ≡ false) t.references) ts
      → flat_map (λ child. filter_map (work_for schema keys 0 tree olds news child) child.references) ts ≡ []
  none_of_all [] h = refl
  none_of_all (t ∷ ts) h = rw (none_of t t.references h.0, none_of_all ts h.1) refl

  pub unacted : (place : ℕ) → HasDocuments schema.tables place tree → works schema keys 0 tree olds news ≡ []
  unacted place stands = none_of_all schema.tables stands.unreferred

pub unchanged_shows : (old new : State) (docs : List TableRow) → HoldsRows old docs → IsUnchanged old new → HoldsRows new docs
unchanged_shows old new docs h u = record {
  is_open = u.0.is_open;
  autocommit = u.0.mode ∙ h.autocommit;
  settled = u.0.now_is ∙ h.settled ∙ sym u.0.committed_is;
  table = subst (λ (d : Database). RowsIn d docs) (sym u.0.now_is) h.table;
}

pub undone_shows : (old new : State) (docs : List TableRow) → HoldsRows old docs → IsRolledBack old new → IsTrue new.is_open → HoldsRows new docs
undone_shows old new docs h u still =
    let back = u.undone still in
    let now : new.now ≡ old.now = back.0 ∙ sym h.settled in
    record {
      is_open = still;
      autocommit = u.autocommit;
      settled = back.0 ∙ sym back.1;
      table = subst (λ (d : Database). RowsIn d docs) (sym now) h.table;
    }

-- a statement that is refused leaves the table, or the connection is shut
pub refused_shows : (sql : List ℕ) (params : Row) (old new : State) (docs : List TableRow) (e : Error) → Executes sql params old new (Err e) → HoldsRows old docs → IsTrue new.is_open → HoldsRows new docs
unfolding ExecutesIn IsNotRun
refused_shows sql params old new docs e (inl (inl not_run)) h still = unchanged_shows old new docs h not_run.1
refused_shows sql params old new docs e (inl (inr failed)) h still = undone_shows old new docs h failed.3 still
refused_shows sql params old new docs e (inr ran) h still = elim (cases_Bool (shows_rows false ran.0)) [
  | inl shows ↦ unchanged_shows old new docs h (rw shows at ran.2).1
  | inr runs ↦ elim (rw runs at ran.2) [ inl refused ↦ unchanged_shows old new docs h refused.1 | inr failed ↦ undone_shows old new docs h failed.3 still ]
]

-- What a write commits is what its command makes.
pub commits_as : (sql : List ℕ) (params : Row) (s : State) (db : Trees) (schema : Schema) (command : Command) → s.now.schema ≡ schema → command_of (understood schema sql) ≡ command → IsPlain (understood schema sql)
    → (command ≡ Commit → ⊥) → ((name : List ℕ) → command ≡ Release name → ⊥) → CommitsBy sql params s db
    → (tally : Tally) × (after : Database) × Does s.step_limit (mode_of s) params s.now (statement_of sql (understood schema sql)) None command (Ok (tally, after)) × IsDatabase after × (db ≡ after.trees)
unfolding CommitsBy
commits_as sql params s db schema command has is plain no_commit no_release h =
    let known = sym h.1.is ∙ ap (λ x. understood x sql) has in
    let bare = subst IsPlain (sym known) plain in
    let same : h.0.command ≡ command = ap command_of known ∙ is in
    let it : MayCommit s None h.0.command (text_of sql h.0) params db = rw (bare.0, bare.1, append-nil params) at h.2 in
    elim (subst₂ (λ k t. MayCommit s None k t params db) same (ap (statement_of sql) known) it) [
      | inl ends ↦ absurd (elim ends.0 [ inl c ↦ no_commit c | inr r ↦ no_release r.0 r.2 ])
      | inr w ↦ (w.1, w.2, w.3, w.4, w.5)
    ]

-- a refused statement leaves the database, if no transaction is open
pub undone_keeps : (old new : State) → IsSettled old → IsRolledBack old new → KeepsAll old new
undone_keeps old new settled u still =
    let back = u.undone still in
    let was = u.was_open still in
    record { was_open = was; is_open = still; now_is = back.0 ∙ sym (settled.committed was); committed_is = back.1; mode = u.autocommit ∙ sym settled.autocommit }

pub unchanged_keeps : (old new : State) → IsUnchanged old new → KeepsAll old new
unchanged_keeps old new u still = u.0

-- what is left after what left it
pub keeps_then : (old mid new : State) → KeepsAll old mid → KeepsAll mid new → KeepsAll old new
keeps_then old mid new h k still =
    let two = k still in
    let one = h two.was_open in
    record { was_open = one.was_open; is_open = two.is_open; now_is = two.now_is ∙ one.now_is; committed_is = two.committed_is ∙ one.committed_is; mode = two.mode ∙ one.mode }

-- if nothing changed, nothing is left open
pub settled_still : (old new : State) → IsUnchanged old new → IsSettled old → IsSettled new
settled_still old new u h = record { autocommit = u.0.mode ∙ h.autocommit; committed = λ still. u.0.now_is ∙ h.committed u.0.was_open ∙ sym u.0.committed_is }

refused_keeps : (sql : List ℕ) (params : Row) (old new : State) (e : Error) → Executes sql params old new (Err e) → IsSettled old → KeepsAll old new
unfolding ExecutesIn IsNotRun
refused_keeps sql params old new e (inl (inl not_run)) h = unchanged_keeps old new not_run.1
refused_keeps sql params old new e (inl (inr failed)) h = undone_keeps old new h failed.3
refused_keeps sql params old new e (inr ran) h = elim (cases_Bool (shows_rows false ran.0)) [
  | inl shows ↦ unchanged_keeps old new (rw shows at ran.2).1
  | inr runs ↦ elim (rw runs at ran.2) [ inl refused ↦ unchanged_keeps old new refused.1 | inr failed ↦ undone_keeps old new h failed.3 ]
]

pub if_refused_keeps : (sql : List ℕ) (params : Row) (old new : State) (r : Result ℕ Error) → Executes sql params old new r → IsSettled old → OnErr r (KeepsAll old new)
if_refused_keeps sql params old new (Ok count) e h = tt
if_refused_keeps sql params old new (Err why) e h = refused_keeps sql params old new why e h
