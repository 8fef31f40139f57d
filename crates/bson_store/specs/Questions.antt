-- Questions to collections: which there are, and what a filter selects of one.
use Rattle.std.specs.Prelude.{◌≡◌, ◌⊎◌, ℕ, List, [], ◌∷◌, ◌++◌, map, Option, Some, None, Result, Ok, Err, MatchOption, IfOk, IfErr, String, Vec, string_bytes}
use Rattle.std.specs.declared.alloc.Global.{Global}
use Rattle.bson_base.specs.Value.{document, Members}
use Rattle.bson_bytes.specs.Encode.{encode}
use Rattle.bson_raw.specs.View.{bytes_of as view_bytes}
use Rattle.bson_raw.specs.declared.document.RawDocument.{RawDocument}
use Rattle.store_table.specs.Rows.{TableRow}
use Rattle.store_model.specs.Filter.{Filter, Selects}
use Rattle.store_model.specs.Reading.{Documents}
use Rattle.store_model.specs.Refusal.{refusal}
use Rattle.store_model.specs.State.{AreKept, IsName, Picks, When, Reply, bytes_list, names}
use Rattle.store_model.specs.Table.{DocumentTable, documents_of}
use Rattle.bson_store.specs.Export.{bytes_of_each}
use Rattle.bson_store.specs.Refusals.{IsDenied}
use Rattle.bson_store.specs.Shown.{Represents}
use Rattle.store_model.specs.declared.error.ErrorKind.TheVariants.{BadName}
use Rattle.store_model.specs.declared.error.StoreError.{StoreError}

abbrev pub as_list : Vec (Vec ℕ Global) Global → Reply
as_list v = bytes_list (bytes_of_each v.items)

abbrev pub as_names : Vec (String Global) Global → Reply
as_names v = names (map string_bytes v.items)

-- there is a view of a document's bytes if the filter selects the document; nothing is refused
abbrev pub IsPick : Filter → Members → List ℕ → Result (Option RawDocument) StoreError → Type 0
IsPick f d bytes (Ok None) = Selects f (document d) → ⊥
IsPick f d bytes (Ok (Some view)) = Selects f (document d) × (view_bytes view ≡ bytes)
IsPick f d bytes (Err e) = ⊥

-- a document is taken after the others, if the filter selects it
abbrev pub Turns : (Documents → Type 0) → Filter → Documents → Members → Type 0
Turns took f out d = When (Selects f (document d)) (took (out ++ d ∷ [])) (took out)

-- what was taken is what there is to take, whatever kept documents may come
abbrev pub IsSettled : (Documents → Type 0) → Type 0
IsSettled took = (out more : Documents) → AreKept more → took out → took (out ++ more)

-- Whatever documents the bodies were written for, those that the filter selects were taken, unless there was a fault.
abbrev pub GivesPicked : (Documents → Type 0) → Filter → List (List ℕ) → Option StoreError → Type 0
GivesPicked took f bodies fault = (ds : Documents) → AreKept ds → bodies ≡ map encode ds → MatchOption fault ((out : Documents) × Picks f ds out × took out) IsDenied

-- of the documents none was left out of which P holds
abbrev pub Spared : (Members → Type 0) → Documents → Documents → Type 0
Spared P [] out = out ≡ []
Spared P (d ∷ ds) out = ((rest : Documents) × (out ≡ d ∷ rest) × Spared P ds rest) ⊎ ((P d → ⊥) × Spared P ds out)

-- whatever table the rows show, documents of a collection came, none left out of which P holds, and what the filter selects of them was taken; the rows stay
pub record PickedOf {T : Type 0} (took : T → Documents → Type 0) (n : List ℕ) (P : Members → Type 0) (f : Filter) (result : Result T StoreError) (docs after : List TableRow) : Type 0 where
  pub same : after ≡ docs
  pub taken : (a : DocumentTable) → Represents docs a → IfOk result (λ t. (came : Documents) × Spared P (documents_of a n) came × (out : Documents) × Picks f came out × took t out)
  pub denied : (a : DocumentTable) → Represents docs a → IfErr result IsDenied

-- the same of a filter that selects all, and of any name: one that is bad is refused
pub record Passed {T : Type 0} (took : T → Documents → Type 0) (n : List ℕ) (P : Members → Type 0) (result : Result T StoreError) (docs after : List TableRow) : Type 0 where
  pub same : after ≡ docs
  pub taken : (a : DocumentTable) → Represents docs a → IfOk result (λ t. (out : Documents) × Spared P (documents_of a n) out × took t out)
  pub denied : (a : DocumentTable) → Represents docs a → IfErr result IsDenied

abbrev pub PassedFrom : {T : Type 0} → (T → Documents → Type 0) → List ℕ → (Members → Type 0) → Result T StoreError → List TableRow → List TableRow → Type 0
PassedFrom took n P result docs after = (IsName n × Passed took n P result docs after) ⊎ ((IsName n → ⊥) × (result ≡ Err (refusal BadName)) × (after ≡ docs))

-- whatever table the rows show, what the filter selects of a collection was taken; the rows stay
pub record Picked {T : Type 0} (took : T → Documents → Type 0) (n : List ℕ) (f : Filter) (result : Result T StoreError) (docs after : List TableRow) : Type 0 where
  pub same : after ≡ docs
  pub taken : (a : DocumentTable) → Represents docs a → IfOk result (λ t. (out : Documents) × Picks f (documents_of a n) out × took t out)
  pub denied : (a : DocumentTable) → Represents docs a → IfErr result IsDenied

-- the same of any name: one that is bad is refused
abbrev pub PickedFrom : {T : Type 0} → (T → Documents → Type 0) → List ℕ → Filter → Result T StoreError → List TableRow → List TableRow → Type 0
PickedFrom took n f result docs after = (IsName n × Picked took n f result docs after) ⊎ ((IsName n → ⊥) × (result ≡ Err (refusal BadName)) × (after ≡ docs))

-- an index was made or dropped, or not: the rows stay
pub record Indexed {A : Type 0} (n : List ℕ) (result : Result A StoreError) (docs after : List TableRow) : Type 0 where
  pub same : after ≡ docs
  pub bad : (IsName n → ⊥) → result ≡ Err (refusal BadName)
  pub denied : IsName n → IfErr result IsDenied
