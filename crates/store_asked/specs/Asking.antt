-- What a taker took of the documents of a collection that answer a question.
use Rattle.std.specs.Prelude.{◌≡◌, ◌⊎◌, ℕ, List, Result, Err, IfOk, IfErr}
use Rattle.store_table.specs.Rows.{TableRow}
use Rattle.store_model.specs.Reading.{Documents}
use Rattle.store_model.specs.Refusal.{refusal}
use Rattle.store_model.specs.State.{IsName}
use Rattle.store_model.specs.Table.{DocumentTable, documents_of}
use Rattle.store_model.specs.declared.error.ErrorKind.TheVariants.{BadName}
use Rattle.store_model.specs.declared.error.StoreError.{StoreError}
use Rattle.store_question.specs.Asked.{Asked}
use Rattle.store_question.specs.Reads.{Form, Reads}
use Rattle.bson_store.specs.Refusals.{IsDenied}
use Rattle.bson_store.specs.Shown.{Represents}
use Rattle.bson_store.specs.Drafted.{IsOver, drafted}
use Rattle.bson_store.specs.declared.draft.Draft.{Draft}
use Rattle.store_question.specs.Keeps.{Keeps}

-- whatever table the rows show, what the question keeps of a collection was taken; the rows stay
pub record Answered {T : Type 0} (took : T → Documents → Type 0) (n : List ℕ) (q : Asked) (result : Result T StoreError) (docs after : List TableRow) : Type 0 where
  pub same : after ≡ docs
  pub taken : (a : DocumentTable) → Represents docs a → IfOk result (λ t. (kept : Documents) × Keeps q (documents_of a n) kept × took t kept)
  pub denied : (a : DocumentTable) → Represents docs a → IfErr result IsDenied

-- the same of any name: one that is bad is refused
abbrev pub AnsweredFrom : {T : Type 0} → (T → Documents → Type 0) → List ℕ → Asked → Result T StoreError → List TableRow → List TableRow → Type 0
AnsweredFrom took n q result docs after = (IsName n × Answered took n q result docs after) ⊎ ((IsName n → ⊥) × (result ≡ Err (refusal BadName)) × (after ≡ docs))

-- the same of what a question of the code stands for
abbrev pub AskedFrom : {T : Type 0} → (T → Documents → Type 0) → List ℕ → Form → Result T StoreError → List TableRow → List TableRow → Type 0
AskedFrom took n form result docs after = (q : Asked) → Reads form q → AnsweredFrom took n q result docs after

-- the same in the rows that a draft would make; the table's stay
pub record AskedDrafted (draft : Draft) {T : Type 0} (took : T → Documents → Type 0) (n : List ℕ) (form : Form) (result : Result T StoreError) (docs after : List TableRow) : Type 0 where
  pub same : after ≡ docs
  pub asked : IsOver draft docs → AskedFrom took n form result (drafted draft docs) (drafted draft docs)
