-- What an open says of what it read.
use Rattle.std.proofs.Common.{ℤ, ◌++◌, ◌∷◌, append-nil, append_assoc, ◌≡◌, ◌≢◌, ◌⊎◌, inl, inr, ℕ, List, [], true, false, Option, Some, None, is_some, Result, Ok, Err, OnOk, IfErr, IsTrue, sym, ap, subst, refl}
use Rattle.sqlite.specs.State.{State, Survives, IsLive, IsUnchanged}
use Rattle.sqlite.proofs.StateLemmas.{survives_weaker}
use Rattle.sqlite.specs.Schema.{Schema}
use Rattle.sqlite_schema.specs.Names.{table_named}
use Rattle.store_table.specs.declared.opening.OpenError.{OpenError}
use Rattle.store_table.specs.declared.opening.OpenError.TheVariants.{NotAStore, BadRow, IdsCollide, Memory, Database}
use Rattle.store_table.specs.Schema.{HasDocuments, HasStoreTable}
use Rattle.store_table.specs.Rows.{TableRow, HoldsRows, IsBlank}
use Rattle.store_table.specs.Beside.{StandsBeside, AreBeside}
use Rattle.store_table.specs.Check.{IsGoodAfter, AreGoodAfter, AreGood, IsFirstBad}
use Rattle.store_table.specs.Open.{RefusesOpening, HasTable, HasNoTable, table_name}
use Rattle.store_table.specs.Renewal.{IsOwn, AcceptsOnce, AreRenewed, Renewed, Unrenewed, RenewsOld, PassesOnce, Opened, Unopened, Makes}
use Rattle.store_table.proofs.StatementLemmas.{seen}
use Rattle.store_table.proofs.ListedLemmas.{read_shown, shows_read}

is_there : (o : Option ℕ) → is_some o ≡ true → o ≢ None
is_there (Some n) h e = cc
is_there None h e = cc

is_missing : (o : Option ℕ) → is_some o ≡ false → o ≡ None
is_missing (Some n) h = absurd (cc)
is_missing None h = refl

pub a_table : (schema : Schema) (place tree : ℕ) → HasDocuments schema.tables place tree → is_some (table_named schema table_name) ≡ true
a_table schema place tree h = ap is_some h.named

pub none_there : (s : State) → is_some (table_named s.now.schema table_name) ≡ false → HasNoTable s
none_there s h = is_missing (table_named s.now.schema table_name) h

pub one_there : (s : State) → is_some (table_named s.now.schema table_name) ≡ true → HasTable s
one_there s h = is_there (table_named s.now.schema table_name) h

module _ (accepts : List ℕ → List ℕ → List ℕ → Type 0) (old new : State) where
  pub refuses_other : (e : OpenError) → (e ≡ Memory) ⊎ (e ≡ Database) → RefusesOpening accepts old new e
  refuses_other e (inl is) = subst (RefusesOpening accepts old new) (sym is) tt
  refuses_other e (inr is) = subst (RefusesOpening accepts old new) (sym is) tt

-- good rows have no bad one among them
good_at : (accepts : List ℕ → List ℕ → List ℕ → Type 0) (seen front : List TableRow) (d : TableRow) (back : List TableRow) → AreGoodAfter accepts seen (front ++ d ∷ back) → IsGoodAfter accepts (seen ++ front) d
good_at accepts seen [] d back h = subst (λ (s : List TableRow). IsGoodAfter accepts s d) (sym (append-nil seen)) h.0
good_at accepts seen (x ∷ front) d back h = subst (λ (s : List TableRow). IsGoodAfter accepts s d) (append_assoc seen (x ∷ []) front) (good_at accepts (seen ++ x ∷ []) front d back h.1)

none_bad : (accepts : List ℕ → List ℕ → List ℕ → Type 0) (docs : List TableRow) (place : ℤ) → AreGood accepts docs → IsFirstBad accepts docs place → ⊥
none_bad accepts docs place good bad = bad.refused (good_at accepts [] bad.front bad.bad bad.back (subst (AreGood accepts) bad.all good))

module _ (renews : List ℕ → List ℕ → List ℕ → List ℕ → Type 0) (old new : State) where
  module _ (found : Renewed (IsOwn renews) renews old new) (passed : PassesOnce renews old new) where
    one_list_of : (docs : List TableRow) → HoldsRows old docs → (docs : List TableRow) × (after : List TableRow) × HoldsRows old docs × HoldsRows new after × AreRenewed renews docs after × AreGood (IsOwn renews) after
    one_list_of docs shows = let f = found docs shows in (docs, f.0, shows, f.1, f.2, f.3)

    listed_by_read : IsLive old → old.in_transaction ≡ false → (IsTrue old.is_open → old.now ≡ old.committed) → HasStoreTable old.now.schema
        → (docs : List TableRow) × (after : List TableRow) × HoldsRows old docs × HoldsRows new after × AreRenewed renews docs after × AreGood (IsOwn renews) after
    listed_by_read live auto settled has = elim passed [
      | inl p ↦ one_list_of p.0 (shows_read (IsOwn renews) old new p.0 has live auto settled p.1 p.2)
      | inr p ↦ let now = p.1.1.0 in one_list_of now.docs (shows_read (AcceptsOnce renews) old old now.docs has live auto settled now.reads now.good)
    ]

    unwritten_by : (docs : List TableRow) → HoldsRows old docs → AreGood (IsOwn renews) docs → IsUnchanged old new
    unwritten_by docs shows good = elim passed [
      | inl p ↦ p.1.unchanged
      | inr p ↦ absurd (none_bad (IsOwn renews) docs p.0.1 good (subst (λ (ds : List TableRow). IsFirstBad (IsOwn renews) ds p.0.1) (read_shown old old docs p.0.0 shows p.0.2) p.0.3))
    ]

    opened_by : IsLive old → old.in_transaction ≡ false → (IsTrue old.is_open → old.now ≡ old.committed) → is_some (table_named old.now.schema table_name) ≡ true → Opened renews old new
    opened_by live auto settled there = record {
      made = λ blank. absurd (let e : is_some (table_named old.now.schema table_name) ≡ false = ap is_some blank.free.unnamed in cc);
      beside = λ none. absurd (one_there old there none);
      found = found;
      listed = listed_by_read live auto settled;
      other = inr passed;
      unwritten = unwritten_by;
    }

  pub opened_if : IsLive old → old.in_transaction ≡ false → (IsTrue old.is_open → old.now ≡ old.committed) → is_some (table_named old.now.schema table_name) ≡ true
      → (r : Result (Unit {0}) OpenError) → OnOk r (Renewed (IsOwn renews) renews old new) → OnOk r (PassesOnce renews old new) → OnOk r (Opened renews old new)
  opened_if live auto settled there (Ok u) f p = opened_by f p live auto settled there
  opened_if live auto settled there (Err e) f p = tt

  says : (e : OpenError) → HasTable old → Unrenewed (IsOwn renews) renews old new e → Unopened renews old new e
  says NotAStore there h = inl (there, h)
  says (BadRow place) there h = (there, h)
  says (IdsCollide first second) there h = (there, h)
  says Memory there h = tt
  says Database there h = tt

  pub says_if : is_some (table_named old.now.schema table_name) ≡ true → (r : Result (Unit {0}) OpenError) → IfErr r (Unrenewed (IsOwn renews) renews old new) → IfErr r (Unopened renews old new)
  says_if there (Ok u) h = tt
  says_if there (Err e) h = says e (one_there old there) h

  pub renews_if : is_some (table_named old.now.schema table_name) ≡ true → Survives old new (RenewsOld renews old) → Survives old new (Makes renews old)
  renews_if there kept = survives_weaker old new _ _ (λ _ db made. inr (one_there old there, made)) kept

  made_by : is_some (table_named old.now.schema table_name) ≡ false → (IsBlank old → HoldsRows new []) → StandsBeside old new → Opened renews old new
  made_by missing made beside =
      let no_such : (place tree : ℕ) → HasDocuments old.now.schema.tables place tree → ⊥ = λ place tree has. let e = a_table old.now.schema place tree has in cc in
      record {
        made = made;
        beside = λ none. beside;
        found = λ docs shows. absurd (no_such (seen shows.table).place (seen shows.table).tree (seen shows.table).stands);
        listed = λ has. absurd (no_such has.0 has.1 has.2);
        other = inl (none_there old missing);
        unwritten = λ docs shows good. absurd (no_such (seen shows.table).place (seen shows.table).tree (seen shows.table).stands);
      }

  pub made_if : is_some (table_named old.now.schema table_name) ≡ false → (r : Result (Unit {0}) OpenError) → (IsBlank old → OnOk r (HoldsRows new [])) → OnOk r (StandsBeside old new) → OnOk r (Opened renews old new)
  made_if missing (Ok u) made beside = made_by missing made beside
  made_if missing (Err e) made beside = tt

  told : (e : OpenError) → (e ≡ Memory) ⊎ (e ≡ Database) → Unopened renews old new e
  told e (inl is) = subst (Unopened renews old new) (sym is) tt
  told e (inr is) = subst (Unopened renews old new) (sym is) tt

  pub told_if : (r : Result (Unit {0}) OpenError) → IfErr r (λ e. (e ≡ Memory) ⊎ (e ≡ Database)) → IfErr r (Unopened renews old new)
  told_if (Ok u) h = tt
  told_if (Err e) h = told e h

  pub makes_if : is_some (table_named old.now.schema table_name) ≡ false → Survives old new (AreBeside old.now) → Survives old new (Makes renews old)
  makes_if missing made = survives_weaker old new _ _ (λ _ db made. inl (none_there old missing, made)) made
