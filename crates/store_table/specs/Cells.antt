-- Values of a row that was read.
use Rattle.std.specs.Prelude.{ℕ, ℤ, pos, Bool, true, false, ◌&&◌, List, []}
use Rattle.sqlite.specs.declared.types.Value.{Value}
use Rattle.sqlite.specs.declared.types.Value.TheVariants.{Int, Text, Blob}
use Rattle.sqlite_value.specs.Order.{Row, column}
use Rattle.store_table.specs.Rows.{TableRow}

abbrev pub is_int : Value → Bool
is_int (Int n) = true
is_int _ = false

abbrev pub is_text : Value → Bool
is_text (Text t) = true
is_text _ = false

abbrev pub is_blob : Value → Bool
is_blob (Blob b) = true
is_blob _ = false

-- a row of the four columns has these types
abbrev pub is_listed : Row → Bool
is_listed r = is_int (column r 0) && (is_text (column r 1) && (is_blob (column r 2) && is_blob (column r 3)))

abbrev pub int_in : Value → ℤ
int_in (Int n) = n
int_in _ = pos 0

abbrev pub bytes_in : Value → List ℕ
bytes_in (Text t) = t
bytes_in (Blob b) = b
bytes_in _ = []

abbrev pub doc_of : Row → TableRow
doc_of r = record { place = int_in (column r 0); coll = bytes_in (column r 1); idkey = bytes_in (column r 2); body = bytes_in (column r 3) }
