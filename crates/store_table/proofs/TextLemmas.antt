-- What the texts mean under the schema.
use Rattle.std.proofs.Common.{◌≡◌, ℕ, pos, negsuc, List, [], ◌∷◌, codes, false, None, Ok, refl}
use Rattle.sqlite.specs.Query.{Query, inner, end}
use Rattle.sqlite.specs.Term.{Term, lit, col, op2}
use Rattle.sqlite_sql.specs.declared.ops.BinaryOp.TheVariants.{Compare}
use Rattle.sqlite_sql.specs.declared.ops.CompareOp.TheVariants.{Eq}
use Rattle.sqlite.specs.Collation.TheVariants.{Binary}
use Rattle.sqlite_value.specs.declared.keys.Key.{Key}
use Rattle.sqlite_schema.specs.declared.program.Program.{Program}
use Rattle.sqlite.specs.Compile.{table_defined_by}
use Rattle.sqlite.specs.declared.types.Value.TheVariants.{Null, Int}
use Rattle.sqlite_tied.specs.Compute.{everything}
use Rattle.store_table.specs.Schema.{documents}
pub use Rattle.store_table.specs.Keys.{rekey_text}
use Rattle.store_table.specs.Visit.{IsSelect}

abbrev pub create_text : List ℕ
create_text = codes "CREATE TABLE documents (place INTEGER PRIMARY KEY, coll TEXT NOT NULL, idkey BLOB NOT NULL, body BLOB NOT NULL, UNIQUE (coll, idkey)) STRICT"

pub create_defines : table_defined_by create_text ≡ Ok documents
unfolding everything
create_defines = refl

abbrev pub insert_text : List ℕ
insert_text = codes "INSERT INTO documents (place, coll, idkey, body) VALUES (?1, ?2, ?3, ?4)"

abbrev pub insert_terms : List Term
insert_terms = col 0 0 ∷ lit Null ∷ col 0 1 ∷ col 0 2 ∷ col 0 3 ∷ []

-- a query of the table's rows with no grouping
abbrev pub plain_query : List Term → List Term → List (Term × Key) → Query
plain_query filter project order = record { from = inner 0 end; filter = filter; group = None; project = project; distinct = false; collations = []; order = order; limit = lit (Int (negsuc 0)); offset = lit (Int (pos 0)) }

-- the same of the rows of any tree
abbrev pub query_at : ℕ → List Term → List Term → List (Term × Key) → Query
query_at tree filter project order = record (plain_query filter project order) { from = inner tree end }

abbrev pub equals : ℕ → ℕ → Term
equals column param = op2 (Compare Eq Binary) (col 1 column) (col 0 param)

abbrev pub by_place : List (Term × Key)
by_place = (col 1 0, record { collation = Binary; descending = false }) ∷ []

abbrev pub program : Query → Program
program q = record { lets = []; body = q }

abbrev pub delete_text : List ℕ
delete_text = codes "DELETE FROM documents WHERE place = ?1"

abbrev pub update_text : List ℕ
update_text = codes "UPDATE documents SET body = ?2 WHERE place = ?1"

abbrev pub greatest_text : List ℕ
greatest_text = codes "SELECT place FROM documents ORDER BY place DESC LIMIT 1"

abbrev pub find_text : List ℕ
find_text = codes "SELECT place, body FROM documents WHERE coll = ?1 COLLATE BINARY AND idkey = ?2 ORDER BY place"

abbrev pub places_text : List ℕ
places_text = codes "SELECT place FROM documents WHERE coll = ?1 COLLATE BINARY AND idkey = ?2 ORDER BY place"

abbrev pub at_text : List ℕ
at_text = codes "SELECT coll, body FROM documents WHERE place = ?1 ORDER BY place"

pub at_asks : IsSelect at_text
unfolding everything
at_asks = (refl, refl)

pub places_asks : IsSelect places_text
unfolding everything
places_asks = (refl, refl)

abbrev pub all_query : Query
all_query = plain_query [] (col 1 0 ∷ col 1 2 ∷ col 1 3 ∷ col 1 4 ∷ []) by_place

pub find_asks : IsSelect find_text
unfolding everything
find_asks = (refl, refl)
