-- What a call leaves of all else in the database.
use Rattle.std.proofs.Common.{◌≡◌, ◌≢◌, ◌∷◌, [], ℕ, List, Result, Ok, Err, OnOk, IsTrue, false, refl, sym, ap, subst, ◌∙◌}
use Rattle.std.specs.List.{AllByRecursion}
use Rattle.sqlite.specs.Tree.{Trees}
use Rattle.sqlite.specs.Table.{Table}
use Rattle.sqlite.specs.Schema.{Schema}
use Rattle.sqlite.specs.Effect.{Database}
use Rattle.sqlite.specs.declared.error.Error.{Error}
use Rattle.sqlite.specs.State.{State, IsUnchanged, KeepsCounts, Shows as Sees}
use Rattle.store_table.specs.Schema.{HasDocuments}
use Rattle.store_table.specs.Rows.{TableRow, RowsIn, HasRows, HoldsRows}
use Rattle.store_table.specs.Moves.{Stands}
use Rattle.store_table.specs.Open.{IsSettled, KeepsAll}
use Rattle.store_table.specs.Beside.{SparesOthers, KeepsOthers, ShowsOthers}
use Rattle.store_table.proofs.StatementLemmas.{unchanged_keeps}
use Rattle.store_table.proofs.UniqueLemmas.{one_stand}

-- the rows of all tables but the one over this tree
abbrev KeepsBut : ℕ → List Table → Trees → Trees → Type 0
KeepsBut tree tables old new = AllByRecursion (λ t. t.tree ≢ tree → new t.tree ≡ old t.tree) tables

-- a write of the table
pub spared_by : (db after : Database) (place tree : ℕ) (made : Trees) → HasDocuments db.schema.tables place tree → after.schema ≡ db.schema → after.trees ≡ made
    → AllByRecursion (λ t. t.tree ≢ tree → made t.tree ≡ db.trees t.tree) db.schema.tables → SparesOthers db after
spared_by db after place tree made stands schema trees kept = record {
  schema = schema;
  rows = λ p n again.
      let same = (one_stand db.schema.tables place p tree n stands again).1 in
      subst (λ k. KeepsBut k db.schema.tables db.trees after.trees) (sym same) (subst (λ (ts : Trees). KeepsBut tree db.schema.tables db.trees ts) (sym trees) kept);
}

all_same : (tree : ℕ) (tables : List Table) (trees : Trees) → KeepsBut tree tables trees trees
all_same tree [] trees = tt
all_same tree (t ∷ tables) trees = (λ _. refl, all_same tree tables trees)

pub spared_all : (old new : Database) → new ≡ old → SparesOthers old new
spared_all old new is = subst (SparesOthers old) (sym is) (record { schema = refl; rows = λ p n stands. all_same n old.schema.tables old.trees })

both_keep : (tree : ℕ) (tables : List Table) (a b c : Trees) → KeepsBut tree tables a b → KeepsBut tree tables b c → KeepsBut tree tables a c
both_keep tree [] a b c h k = tt
both_keep tree (t ∷ tables) a b c h k = (λ other. k.0 other ∙ h.0 other, both_keep tree tables a b c h.1 k.1)

pub spared_then : (a b c : Database) → SparesOthers a b → SparesOthers b c → SparesOthers a c
spared_then a b c h k = record {
  schema = k.schema ∙ h.schema;
  rows = λ p n stands.
      let tables = ap (λ (s : Schema). s.tables) h.schema in
      let later = k.rows p n (subst (λ (ts : List Table). HasDocuments ts p n) (sym tables) stands) in
      both_keep n a.schema.tables a.trees b.trees c.trees (h.rows p n stands) (subst (λ (ts : List Table). KeepsBut n ts b.trees c.trees) tables later);
}

-- what is left is the database with other rows in the table
pub trees_have : (first db : Database) (docs : List TableRow) → RowsIn db docs → SparesOthers first db → HasRows first db.trees docs
trees_have first db docs h spared = record {
  table = subst (λ (s : Schema). RowsIn (record { schema = s; trees = db.trees }) docs) spared.schema h;
  others = subst (λ (s : Schema). SparesOthers first (record { schema = s; trees = db.trees })) spared.schema spared;
}

-- what is left beside the tables of one is left beside those of another that has them too
pub left_beside : (a b : Database) (trees : Trees) (docs : List TableRow) → SparesOthers a b → HasRows b trees docs → HasRows a trees docs
left_beside a b trees docs h r = trees_have a (record { schema = b.schema; trees = trees }) docs r.table (spared_then a b (record { schema = b.schema; trees = trees }) h r.others)

-- if the other tables are kept, an open connection still shows them
pub shows_then : (first : Database) (old new : State) → ShowsOthers first old → KeepsOthers old new → ShowsOthers first new
shows_then first old new h k still = spared_then first old.now new.now (h (k.was_open still)) (k.spared still)

pub keeps_others : (old new : State) → KeepsAll old new → KeepsOthers old new
keeps_others old new h = record { was_open = λ still. (h still).was_open; spared = λ still. spared_all old.now new.now (h still).now_is }

pub still_others : (old new : State) → IsUnchanged old new → KeepsOthers old new
still_others old new u = keeps_others old new (unchanged_keeps old new u)

pub others_then : (a b c : State) → KeepsOthers a b → KeepsOthers b c → KeepsOthers a c
others_then a b c h k = record {
  was_open = λ still. h.was_open (k.was_open still);
  spared = λ still. spared_then a.now b.now c.now (h.spared (k.was_open still)) (k.spared still);
}

-- nothing was done
pub rest_others : (s : State) → KeepsOthers s s
rest_others s = record { was_open = λ still. still; spared = λ still. spared_all s.now s.now refl }

-- after a read
pub others_after : (old mid new : State) → IsUnchanged old mid → KeepsOthers mid new → KeepsOthers old new
others_after old mid new u = others_then old mid new (still_others old mid u)

pub settled_of : (s : State) (docs : List TableRow) → HoldsRows s docs → IsSettled s
settled_of s docs h = record { autocommit = h.autocommit; committed = λ _. h.settled }

-- a refusal, if no transaction was open
pub refused_others : (old new : State) (docs : List TableRow) → (IsTrue new.is_open → IsTrue old.is_open) → (IsSettled old → KeepsAll old new) → Stands old docs → KeepsOthers old new
refused_others old new docs was kept stands = record {
  was_open = was;
  spared = λ still. spared_all old.now new.now (kept (settled_of old docs (stands (was still))) still).now_is;
}

-- a commit makes what the transaction showed the state
pub spared_commit : (old last new : State) (r : Result (Unit {0}) Error) → SparesOthers old.now last.now
    → OnOk r (IsTrue last.in_transaction × Sees last new last.now last.now false × KeepsCounts last new × (new.marks ≡ [])) → OnOk r (SparesOthers old.now new.now)
spared_commit old last new (Err e) h k = tt
spared_commit old last new (Ok u) h k = subst (λ (d : Database). SparesOthers old.now d) (sym k.1.now_is) h
