-- The table of documents that rows of bytes show.
use Rattle.std.specs.Prelude.{◌≡◌, ◌⊎◌, ℕ, ◌<◌, pos, List, [], ◌∷◌, IsUtf8}
use Rattle.bson_bytes.specs.Encode.{encode}
use Rattle.bson_meaning.specs.Before.{key as key_before}
use Rattle.bson_meaning.specs.Meaning.{key}
use Rattle.store_table.specs.Rows.{TableRow}
use Rattle.store_model.specs.Table.{DocumentRow, DocumentTable, AreRows, own_id}

-- a row of bytes is that of a document: its name is a text, its key that of the document's `_id`, its body the document's written form
pub record IsRowOf (r : DocumentRow) (d : TableRow) : Type 0 where
  pub place : d.place ≡ pos r.place
  pub name : d.coll ≡ r.name
  pub text : IsUtf8 r.name
  pub key : d.idkey ≡ key (own_id r.document)
  pub body : d.body ≡ encode r.document

abbrev pub AreRowsOf : DocumentTable → List TableRow → Type 0
AreRowsOf [] [] = Unit {0}
AreRowsOf (r ∷ rs) (d ∷ ds) = IsRowOf r d × AreRowsOf rs ds
AreRowsOf [] (d ∷ ds) = ⊥
AreRowsOf (r ∷ rs) [] = ⊥

-- the places rise from above n
abbrev pub Rises : ℕ → DocumentTable → Type 0
Rises n [] = Unit {0}
Rises n (r ∷ rs) = (n < r.place) × Rises r.place rs

-- the rows of bytes show the table
pub record Represents (docs : List TableRow) (t : DocumentTable) : Type 0 where
  pub each : AreRowsOf t docs
  pub good : AreRows t
  pub rising : Rises 0 t

-- ---- under keys from before

-- a row of bytes is that of a document, but its key may be the one that the `_id` had before the two zeros of a double meant the same
pub record IsRowOnceOf (r : DocumentRow) (d : TableRow) : Type 0 where
  pub place : d.place ≡ pos r.place
  pub name : d.coll ≡ r.name
  pub text : IsUtf8 r.name
  pub key : (d.idkey ≡ key (own_id r.document)) ⊎ (d.idkey ≡ key_before (own_id r.document))
  pub body : d.body ≡ encode r.document

abbrev pub AreRowsOnceOf : DocumentTable → List TableRow → Type 0
AreRowsOnceOf [] [] = Unit {0}
AreRowsOnceOf (r ∷ rs) (d ∷ ds) = IsRowOnceOf r d × AreRowsOnceOf rs ds
AreRowsOnceOf [] (d ∷ ds) = ⊥
AreRowsOnceOf (r ∷ rs) [] = ⊥

-- the rows of bytes show the table, each under its current key or the older one
pub record RepresentsOnce (docs : List TableRow) (t : DocumentTable) : Type 0 where
  pub each : AreRowsOnceOf t docs
  pub good : AreRows t
  pub rising : Rises 0 t
