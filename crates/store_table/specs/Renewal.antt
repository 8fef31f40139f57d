-- Rows under old keys, and the rows that they become.
use Rattle.std.specs.Prelude.{◌≡◌, ◌⊎◌, ◌++◌, ◌∷◌, [], ◌≤ℤ◌, ℕ, ℤ, false, List, Some, option_map, find, MatchOption}
use Rattle.std.specs.List.{AllByRecursion}
use Rattle.std.specs.BTreeMap.{BTreeMap, get}
use Rattle.store_table.specs.declared.row.NewKey.{NewKey}
use Rattle.store_table.specs.declared.renewal.Renewals.{Renewals}
use Rattle.sqlite.specs.State.{State, IsLive, IsUnchanged, Shows as Sees}
use Rattle.sqlite.specs.Effect.{Database as Held}
use Rattle.sqlite_trees.specs.Tree.{Trees}
use Rattle.store_table.specs.declared.opening.OpenError.{OpenError}
use Rattle.store_table.specs.declared.opening.OpenError.TheVariants.{NotAStore, BadRow, IdsCollide, Memory, Database}
use Rattle.store_table.specs.Open.{HasTable, HasNoTable, IsNameTaken, Reads, ReadsNot, PassesOpening}
use Rattle.store_table.specs.Beside.{StandsBeside, AreBeside, SparesOthers}
use Rattle.store_table.specs.Schema.{HasStoreTable}
use Rattle.store_table.specs.Rows.{TableRow, IsBlank, HoldsRows, HasRows, is_row_named, with_keys_at, last_place}
use Rattle.store_table.specs.Check.{AreGood, IsFirstBad}
use Rattle.store_table.specs.Seen.{Pair, pair_cmp}
use Rattle.store_table.specs.Keys.{PutsKeys}

-- what may be committed while these keys are put
pub record MayPut (keys : List NewKey) (old : State) (trees : Trees) : Type 0 where
  pub shown : (docs : List TableRow) → HoldsRows old docs → HasRows old.now trees (with_keys_at keys docs)
  pub put : (db : Held) × PutsKeys old.step_limit keys old.now db × (trees ≡ db.trees)

-- the map has the place of each row under its key and its collection
abbrev pub HasPlaces : BTreeMap Pair ℤ → List TableRow → Type 0
HasPlaces places docs = (p : Pair) → get pair_cmp places p ≡ option_map (λ (d : TableRow). d.place) (find (is_row_named p.1.items p.0.items) docs)

-- the second is the least place whose collection and key an earlier row has, and the first is that row's place
module _ (accepts : List ℕ → List ℕ → List ℕ → Type 0) where
  pub record IsTwin (docs : List TableRow) (first second : ℤ) : Type 0 where
    pub front : List TableRow
    pub twin : TableRow
    pub back : List TableRow
    pub all : docs ≡ front ++ twin ∷ back
    pub good : AreGood accepts front
    pub met : option_map (λ (d : TableRow). d.place) (find (is_row_named twin.coll twin.idkey) front) ≡ Some first
    pub is : twin.place ≡ second

module _ (renews : List ℕ → List ℕ → List ℕ → List ℕ → Type 0) where
  -- the row has another key, and all else as it was
  pub record IsRenewed (d e : TableRow) : Type 0 where
    pub place : e.place ≡ d.place
    pub coll : e.coll ≡ d.coll
    pub body : e.body ≡ d.body
    pub key : renews d.coll d.idkey d.body e.idkey

  abbrev pub AreRenewed : List TableRow → List TableRow → Type 0
  AreRenewed [] [] = Unit {0}
  AreRenewed (d ∷ ds) (e ∷ es) = IsRenewed d e × AreRenewed ds es
  AreRenewed _ _ = ⊥

  -- a row under its own key
  abbrev pub IsOwn : List ℕ → List ℕ → List ℕ → Type 0
  IsOwn coll idkey body = renews coll idkey body idkey

  -- a row under some key that makes it one of the store's own
  abbrev pub AcceptsOnce : List ℕ → List ℕ → List ℕ → Type 0
  AcceptsOnce coll idkey body = (now : List ℕ) × renews coll idkey body now

module _ (accepts : List ℕ → List ℕ → List ℕ → Type 0) (renews : List ℕ → List ℕ → List ℕ → List ℕ → Type 0) where
  -- no two of the renewed rows have the same collection and key; the map has their places, and the keys turn the rows
  -- into these
  pub record StandApart (docs after : List TableRow) (r : Renewals) : Type 0 where
    pub good : AreGood accepts after
    pub places : HasPlaces r.places after
    pub keys : with_keys_at r.keys.items docs ≡ after
    pub low : AllByRecursion (λ (k : NewKey). k.place ≤ℤ last_place docs) r.keys.items
    pub last : last_place after ≡ last_place docs

  -- what is known of the rows so far
  pub record AreRenewals (docs : List TableRow) (r : Renewals) : Type 0 where
    pub after : List TableRow
    pub renewed : AreRenewed renews docs after
    pub told : MatchOption r.twin (StandApart docs after r) (λ p. IsTwin accepts after p.0 p.1)

  -- the rows have their current keys, no two of a collection have the same, and the other tables are as they were
  abbrev pub Renewed : State → State → Type 0
  Renewed old new = (docs : List TableRow) → HoldsRows old docs → (after : List TableRow) × HoldsRows new after × AreRenewed renews docs after × AreGood accepts after × SparesOthers old.now new.now

  -- why they don't
  abbrev pub Unrenewed : State → State → OpenError → Type 0
  Unrenewed old new NotAStore = ReadsNot old new
  Unrenewed old new (BadRow place) = (docs : List TableRow) × Reads old new docs × IsFirstBad (AcceptsOnce renews) docs place
  Unrenewed old new (IdsCollide first second) =
      (docs : List TableRow) × (after : List TableRow) × Reads old new docs × AreGood (AcceptsOnce renews) docs × AreRenewed renews docs after × IsTwin accepts after first second
  Unrenewed old new Memory = Unit {0}
  Unrenewed old new Database = Unit {0}

  -- The rows that are read are good under some key, and these keys, each at its place, turn them into rows under
  -- current keys, no two of which have the same collection and key.
  pub record KeysOfNow (old : State) : Type 0 where
    pub docs : List TableRow
    pub after : List TableRow
    pub keys : List NewKey
    pub reads : Reads old old docs
    pub good : AreGood (AcceptsOnce renews) docs
    pub renewed : AreRenewed renews docs after
    pub apart : AreGood accepts after
    pub makes : with_keys_at keys docs ≡ after

  -- Such keys were put into the table, whatever its rules, and nothing else was written.
  abbrev pub Rekeys : State → Held → Type 0
  Rekeys old db = (now : KeysOfNow old) × PutsKeys old.step_limit now.keys old.now db

  -- this was committed
  abbrev pub HasRekeyed : State → State → Type 0
  HasRekeyed old new = Sees old new new.now new.now false × Rekeys old new.now

  -- what may be committed on the way
  pub record MayRenew (old : State) (trees : Trees) : Type 0 where
    pub shown : IsLive old → (docs : List TableRow) → HoldsRows old docs → (after : List TableRow) × AreRenewed renews docs after × HasRows old.now trees after
    pub rekeyed : (db : Held) × Rekeys old db × (trees ≡ db.trees)

module _ (renews : List ℕ → List ℕ → List ℕ → List ℕ → Type 0) where
  -- a row that is read isn't good under its own key
  abbrev pub HasOldKey : State → Type 0
  HasOldKey old = (docs : List TableRow) × (place : ℤ) × Reads old old docs × IsFirstBad (IsOwn renews) docs place

  -- if a row isn't, the current keys may be committed
  abbrev pub RenewsOld : State → Trees → Type 0
  RenewsOld old trees = HasOldKey old × MayRenew (IsOwn renews) renews old trees

  -- the rows are good under their own keys, and nothing changes; or one of them isn't, and the current keys were put
  abbrev pub PassesOnce : State → State → Type 0
  PassesOnce old new = PassesOpening (IsOwn renews) old new ⊎ (HasOldKey old × HasRekeyed (IsOwn renews) renews old new)

  -- what an open leaves: the table made, beside what there was, or found with rows that a store can have written, which
  -- have their current keys
  pub record Opened (old new : State) : Type 0 where
    pub made : IsBlank old → HoldsRows new []
    pub beside : HasNoTable old → StandsBeside old new
    pub found : Renewed (IsOwn renews) renews old new
    pub listed : HasStoreTable old.now.schema → (docs : List TableRow) × (after : List TableRow) × HoldsRows old docs × HoldsRows new after × AreRenewed renews docs after × AreGood (IsOwn renews) after
    pub other : HasNoTable old ⊎ PassesOnce old new
    pub unwritten : (docs : List TableRow) → HoldsRows old docs → AreGood (IsOwn renews) docs → IsUnchanged old new

  -- when each refusal comes
  abbrev pub Unopened : State → State → OpenError → Type 0
  Unopened old new NotAStore = (HasTable old × ReadsNot old new) ⊎ (HasNoTable old × IsNameTaken old)
  Unopened old new (BadRow place) = HasTable old × Unrenewed (IsOwn renews) renews old new (BadRow place)
  Unopened old new (IdsCollide first second) = HasTable old × Unrenewed (IsOwn renews) renews old new (IdsCollide first second)
  Unopened old new Memory = Unit {0}
  Unopened old new Database = Unit {0}

  -- what an open may commit: the table, or the current keys if a row doesn't have its own
  abbrev pub Makes : State → Trees → Type 0
  Makes old trees = (HasNoTable old × AreBeside old.now trees) ⊎ (HasTable old × RenewsOld old trees)
