-- What is asked of a part of the documents that a question keeps.
use Rattle.std.specs.Prelude.{◌≡◌, ◌⊎◌, ◌<◌, ◌-◌, ◌≤ℤ◌, ℕ, Bool, true, false, List, [], ◌∷◌, length, slice_index_or, Some, Result, Ok, Err, None, Option, IfOk, IfErr, IfSome, Vec}
use Rattle.std.specs.declared.alloc.Global.{Global}
use Rattle.bson_base.specs.Value.{Members, Value, document, value_kind}
use Rattle.bson_order.specs.Order.{rank}
use Rattle.bson_store.specs.Fronts.{LiesIn}
use Rattle.bson_store.specs.Parts.{part}
use Rattle.bson_store.specs.Refusals.{IsDenied}
use Rattle.bson_store.specs.Shown.{Represents}
use Rattle.bson_store.specs.declared.indexed.range.Range.{Range}
use Rattle.store_table.specs.Rows.{TableRow}
use Rattle.store_model.specs.Reading.{Documents}
use Rattle.store_model.specs.Refusal.{refusal}
use Rattle.store_model.specs.State.{IsName}
use Rattle.store_model.specs.Table.{DocumentTable, documents_of}
use Rattle.store_model.specs.declared.error.ErrorKind.TheVariants.{BadName}
use Rattle.store_model.specs.declared.error.StoreError.{StoreError}
use Rattle.store_question.specs.Asked.{Answers, Asked}
use Rattle.store_question.specs.Keeps.{Keeps}
use Rattle.store_question.specs.Reads.{Form, Reads}
use Rattle.store_question.specs.Filters.{path_of}
use Rattle.store_pipeline.specs.Bodies.{AreBodies}
use Rattle.store_pipeline.specs.Order.{sorted_by}
use Rattle.store_pipeline.specs.declared.sorted.arrangement.Arrangement.{Arrangement}
use Rattle.store_pipeline.specs.declared.sorted.keys.SortKey.{SortKey}
use Rattle.store_asked.specs.Asking.{AnsweredFrom}

-- some were left out, of which Q holds
abbrev pub LeavesOut : {X : Type 0} → (X → Type 0) → List X → List X → Type 0
LeavesOut {X = X} Q [] out = out ≡ []
LeavesOut {X = X} Q (d ∷ ds) out = ((rest : List X) × (out ≡ d ∷ rest) × LeavesOut Q ds rest) ⊎ (Q d × LeavesOut Q ds out)

-- a value of the rank of a range, with a part that is not beyond its ends
abbrev pub IsInside : Range → Value → Type 0
IsInside r v = (rank (value_kind v) ≡ r.rank) × (r.low ≤ℤ part v) × (part v ≤ℤ r.high)

-- what a document is sorted by
abbrev pub value_by : SortKey → Members → Value
value_by k d = sorted_by (path_of k.path.items) k.descending d

-- so many bodies, and what the last one's document is sorted by is inside of the range
abbrev pub AreFirst : List (Vec ℕ Global) → ℕ → SortKey → Range → Type 0
AreFirst bodies n k r = (length bodies ≡ n) × (0 < n) × ((es : List Members) → AreBodies bodies es → (e : Members) → IsInside r (value_by k (slice_index_or es (n - 1) e)))

-- a value is beyond the end of a range that comes last in the order
abbrev pub IsBeyond : Bool → Range → Value → Type 0
IsBeyond true r v = r.low ≤ℤ part v → ⊥
IsBeyond false r v = part v ≤ℤ r.high → ⊥

-- what a document is sorted by is of the range's rank, and beyond that end
abbrev pub GoesBehind : Range → SortKey → Members → Type 0
GoesBehind r k d = (rank (value_kind (value_by k d)) ≡ r.rank) × IsBeyond k.descending r (value_by k d)

-- each document that answers lies in the range, or goes behind it
abbrev pub Ends : Form → Range → SortKey → Type 0
Ends form r k = (q : Asked) → Reads form q → (d : Members) → Answers q (Some (document d)) → (LiesIn r d → ⊥) → GoesBehind r k d

-- whatever table the rows show, documents that the question keeps of a collection were taken, and none left out that lies in the range; the rows stay
pub record AnsweredNear {T : Type 0} (took : T → Documents → Type 0) (n : List ℕ) (q : Asked) (r : Range) (result : Result T StoreError) (docs after : List TableRow) : Type 0 where
  pub same : after ≡ docs
  pub taken : (a : DocumentTable) → Represents docs a → IfOk result (λ t. (kept out : Documents) × Keeps q (documents_of a n) kept × LeavesOut (λ d. Answers q (Some (document d)) × (LiesIn r d → ⊥)) kept out × took t out)
  pub denied : (a : DocumentTable) → Represents docs a → IfErr result IsDenied

abbrev pub AskedNear : {T : Type 0} → (T → Documents → Type 0) → List ℕ → Form → Range → Result T StoreError → List TableRow → List TableRow → Type 0
AskedNear took n form r result docs after = (q : Asked) → Reads form q → (IsName n × AnsweredNear took n q r result docs after) ⊎ ((IsName n → ⊥) × (result ≡ Err (refusal BadName)) × (after ≡ docs))

-- nothing is told, and the rows stay; or it is what is told of all
abbrev pub MayTell : {T : Type 0} → (T → Documents → Type 0) → List ℕ → Form → Result (Option T) StoreError → List TableRow → List TableRow → Type 0
MayTell took n form result docs after = (q : Asked) → Reads form q → ((result ≡ Ok None) × (after ≡ docs)) ⊎ AnsweredFrom (λ o ds. IfSome o (λ t. took t ds)) n q result docs after

-- what is sorted by first
abbrev pub BeginsBy : Arrangement → SortKey → Type 0
BeginsBy a k = (more : List SortKey) × (a.keys.items ≡ k ∷ more)
