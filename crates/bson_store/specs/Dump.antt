-- The trees of a collection, as they are made and passed to a taker.
use Rattle.std.specs.Prelude.{◌≡◌, ◌⊎◌, ℕ, ◌+◌, List, [], ◌∷◌, ◌++◌, length, Option, Some, None, Result, Ok, Err, map, MatchOption, MatchResult}
use Rattle.serde_json.specs.Data.{Data}
use Rattle.serde_json.specs.View.{view as data_of}
use Rattle.serde_json.specs.Written.{compact_text}
use Rattle.serde_json.specs.declared.value.Value.{Value as Json}
use Rattle.bson_bytes.specs.Encode.{encode}
use Rattle.store_table.specs.Rows.{TableRow}
use Rattle.store_model.specs.Reading.{Documents}
use Rattle.store_model.specs.State.{AreKept, IsName, refused, trees_of, trees_reply}
use Rattle.store_model.specs.Table.{DocumentTable, documents_of}
use Rattle.store_model.specs.declared.error.ErrorKind.{ErrorKind}
use Rattle.store_model.specs.declared.error.ErrorKind.TheVariants.{BadName, Memory}
use Rattle.bson_store.specs.Refusals.{IsDenied}
use Rattle.store_model.specs.Refusal.{refusal, refusal_at}
use Rattle.bson_store.specs.Shown.{Represents}
use Rattle.store_model.specs.declared.error.StoreError.{StoreError}
use Rattle.store_documents.specs.Answers.{IsOfStore}

-- the tree that r has, or its refusal, at the place i; or out of memory
abbrev pub TellsTree : Result Data ErrorKind → ℕ → Result Json StoreError → Type 0
TellsTree r i (Ok j) = r ≡ Ok (data_of j)
TellsTree r i (Err e) = (e ≡ refusal Memory) ⊎ ((k : ErrorKind) × (r ≡ Err k) × (e ≡ refusal_at k i))

-- the text of the tree that r has, or its refusal, at the place i; or out of memory
abbrev pub TellsText : Result Data ErrorKind → ℕ → List ℕ → Result (Unit {0}) StoreError → Type 0
TellsText r i t (Ok x) = (j : Data) × (r ≡ Ok j) × (t ≡ compact_text j)
TellsText r i t (Err e) = (e ≡ refusal Memory) ⊎ ((k : ErrorKind) × (r ≡ Err k) × (e ≡ refusal_at k i))

-- The tree that r has was taken after these; or the taker refused it; or only these were taken, and the refusal of r is
-- reported, or memory ran out, or the database refused.
abbrev pub StepsOn : (List Data → Type 0) → (List Data → StoreError → Type 0) → List Data → ℕ → Result Data ErrorKind → Result (Unit {0}) StoreError → Type 0
StepsOn took refused_by out i r (Ok x) = (j : Data) × (r ≡ Ok j) × took (out ++ j ∷ [])
StepsOn took refused_by out i r (Err e) = refused_by out e ⊎ (took out × (IsDenied e ⊎ ((k : ErrorKind) × (r ≡ Err k) × (e ≡ refusal_at k i))))

-- the same, with the next place
abbrev pub HandsOn : (List Data → Type 0) → (List Data → StoreError → Type 0) → List Data → ℕ → Result Data ErrorKind → Result ℕ StoreError → Type 0
HandsOn took refused_by out i r (Ok next) = StepsOn took refused_by out i r (Ok tt) × (next ≡ i + 1)
HandsOn took refused_by out i r (Err e) = StepsOn took refused_by out i r (Err e)

-- the trees of all these documents were taken
abbrev pub TakesAll : (List Data → Type 0) → Documents → Type 0
TakesAll took ds = (js : List Data) × (trees_of 0 ds ≡ Ok js) × took js

-- the trees of the first of the documents
abbrev pub AreFirstTrees : List Data → Documents → Type 0
AreFirstTrees js ds = (front : Documents) × (back : Documents) × (ds ≡ front ++ back) × (trees_of 0 front ≡ Ok js)

-- The trees of the first documents were taken, and the taker refused the next one; or memory ran out or the database
-- refused after them, or the first document without a tree is reported.
abbrev pub Stops : (List Data → Type 0) → (List Data → StoreError → Type 0) → Documents → StoreError → Type 0
Stops took refused_by ds e = (js : List Data) × AreFirstTrees js ds × (refused_by js e ⊎ (took js × (IsDenied e ⊎ (trees_reply (trees_of 0 ds) ≡ refused e.kind e.document))))

-- whatever documents the bodies were written for, the trees of all of them were taken, i in number, unless there is a
-- refusal
abbrev pub HandedOn : (List Data → Type 0) → (List Data → StoreError → Type 0) → ℕ → List (List ℕ) → Option StoreError → Type 0
HandedOn took refused_by i bodies refusal = (ds : Documents) → AreKept ds → bodies ≡ map encode ds
    → MatchOption refusal (TakesAll (λ js. took js × (i ≡ length js)) ds) (Stops took refused_by ds)

-- Whatever table the rows show, the trees of its list were taken; or the name is bad, and none was taken; or the first
-- ones were, and it is reported why no more were. The rows stay.
pub record HandsTrees {T : Type 0} (took : T → List Data → Type 0) (refused_by : T → List Data → StoreError → Type 0) (n : List ℕ) (result : Result T (StoreError × T)) (docs after : List TableRow) : Type 0 where
  pub same : after ≡ docs
  pub handed : (a : DocumentTable) → Represents docs a → MatchResult result
      (λ t. IsName n × TakesAll (took t) (documents_of a n))
      (λ e. ((IsName n → ⊥) × (e.0 ≡ refusal BadName) × took e.1 []) ⊎ (IsName n × Stops (took e.1) (refused_by e.1) (documents_of a n) e.0))

-- Whatever table the rows show, each document of its list has a tree; or the name is bad; or memory ran out or the
-- database refused; or the first document without a tree is reported. The rows stay.
pub record ChecksTrees (n : List ℕ) (result : Result (Unit {0}) StoreError) (docs after : List TableRow) : Type 0 where
  pub same : after ≡ docs
  pub checked : (a : DocumentTable) → Represents docs a → MatchResult result
      (λ _. IsName n × ((js : List Data) × (trees_of 0 (documents_of a n) ≡ Ok js)))
      (λ e. ((IsName n → ⊥) × (e ≡ refusal BadName)) ⊎ (IsName n × (IsDenied e ⊎ (trees_reply (trees_of 0 (documents_of a n)) ≡ refused e.kind e.document))))

-- ---- whatever the disk does

-- the taker stands; or it refused with this error; or it stands, and the store refused
abbrev pub Outlasts : {A : Type 0} → Type 0 → (StoreError → Type 0) → Result A StoreError → Type 0
Outlasts stands refused_by (Ok x) = stands
Outlasts stands refused_by (Err e) = refused_by e ⊎ (stands × IsOfStore e.kind)

-- the same of the first refusal of a walk, if there is one
abbrev pub Lasts : Type 0 → (StoreError → Type 0) → Option StoreError → Type 0
Lasts stands refused_by None = stands
Lasts stands refused_by (Some e) = refused_by e ⊎ (stands × IsOfStore e.kind)

-- the same of a taker that is given back
abbrev pub GivesBack : {T : Type 0} → (T → Type 0) → (T → StoreError → Type 0) → Result T (StoreError × T) → Type 0
GivesBack stands refused_by (Ok t) = stands t
GivesBack stands refused_by (Err e) = refused_by e.1 e.0 ⊎ (stands e.1 × IsOfStore e.0.kind)
