-- What the callers say of the documents that a store shows.
use Rattle.std.specs.Prelude.{◌≡◌, ℕ, List, [], ◌∷◌, ◌++◌, Result, IfOk, Vec}
use Rattle.std.specs.declared.alloc.Global.{Global}
use Rattle.bson_base.specs.Value.{Value, Members}
use Rattle.bson_bytes.specs.Encode.{encode}
use Rattle.store_table.specs.Rows.{TableRow}
use Rattle.store_model.specs.Reading.{readable, ReadsBytes}
use Rattle.store_model.specs.State.{HasId}
use Rattle.store_model.specs.Table.{DocumentTable, documents_of}
use Rattle.store_model.specs.declared.error.StoreError.{StoreError}
use Rattle.bson_store.specs.Many.{Restored}
use Rattle.bson_store.specs.Shown.{Represents}

-- The bytes mean a document, which is last in the list of the name now; and if the id means its own, what was got is the document as
-- it is written.
pub record IsPutAndGot (n bytes : List ℕ) (id : Value) (got : List ℕ) (a : DocumentTable) (after : List TableRow) : Type 0 where
  pub d : Members
  pub reads : ReadsBytes bytes (readable d)
  pub b : DocumentTable
  pub shown : Represents after b
  pub last : documents_of b n ≡ documents_of a n ++ d ∷ []
  pub found : HasId id d → got ≡ encode d

abbrev pub PutsAndGets : List ℕ → List ℕ → Value → Result (Vec ℕ Global) StoreError → List TableRow → List TableRow → Type 0
PutsAndGets n bytes id result docs after = IfOk result (λ v. (a : DocumentTable) → Represents docs a → IsPutAndGot n bytes id v.items a after)

-- if the list of the name was empty, it is now that of the table a, and has `count` documents
abbrev pub Copies : List ℕ → DocumentTable → Result ℕ StoreError → List TableRow → List TableRow → Type 0
Copies n a result more last = IfOk result (λ count. (b : DocumentTable) → Represents more b → documents_of b n ≡ [] → Restored n (documents_of a n) count last)
