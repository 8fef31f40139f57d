-- A listed row as the table stores it.
use Rattle.std.proofs.Common.{◌≡◌, List, [], ◌∷◌, map, true, ◌&&◌, refl, ap₂}
use Rattle.std.specs.List.{list_all}
use Rattle.std.proofs.lemmas.Bool.{and_parts}
use Rattle.sqlite.specs.declared.types.Value.{Value}
use Rattle.sqlite.specs.declared.types.Value.TheVariants.{Null, Int, Real, Text, Blob}
use Rattle.sqlite.specs.Order.{Row, column}
use Rattle.store_table.specs.Rows.{columns_of}
use Rattle.store_table.specs.Cells.{is_int, is_text, is_blob, is_listed, int_in, bytes_in, doc_of}

an_int : (v : Value) → is_int v ≡ true → v ≡ Int (int_in v)
an_int Null h = absurd (cc)
an_int (Int n) h = refl
an_int (Real x) h = absurd (cc)
an_int (Text t) h = absurd (cc)
an_int (Blob b) h = absurd (cc)

a_text : (v : Value) → is_text v ≡ true → v ≡ Text (bytes_in v)
a_text Null h = absurd (cc)
a_text (Int n) h = absurd (cc)
a_text (Real x) h = absurd (cc)
a_text (Text t) h = refl
a_text (Blob b) h = absurd (cc)

a_blob : (v : Value) → is_blob v ≡ true → v ≡ Blob (bytes_in v)
a_blob Null h = absurd (cc)
a_blob (Int n) h = absurd (cc)
a_blob (Real x) h = absurd (cc)
a_blob (Text t) h = absurd (cc)
a_blob (Blob b) h = refl

abbrev pub put_down : Row → Row
put_down r = column r 0 ∷ Null ∷ column r 1 ∷ column r 2 ∷ column r 3 ∷ []

same_four : (a b c d a' b' c' d' : Value) → a ≡ a' → b ≡ b' → c ≡ c' → d ≡ d' → ◌≡◌ {A = Row} (a ∷ Null ∷ b ∷ c ∷ d ∷ []) (a' ∷ Null ∷ b' ∷ c' ∷ d' ∷ [])
same_four a b c d a' b' c' d' p q r s = rw (p, q, r, s) refl

pub put_down_is : (rows : List Row) → list_all is_listed rows ≡ true → map put_down rows ≡ map columns_of (map doc_of rows)
put_down_is [] h = refl
put_down_is (r ∷ rows) h =
    let all = and_parts (is_listed r) (list_all is_listed rows) h in
    let one = and_parts (is_int (column r 0)) (is_text (column r 1) && (is_blob (column r 2) && is_blob (column r 3))) all.0 in
    let two = and_parts (is_text (column r 1)) (is_blob (column r 2) && is_blob (column r 3)) one.1 in
    let three = and_parts (is_blob (column r 2)) (is_blob (column r 3)) two.1 in
    ap₂ (λ x xs. x ∷ xs) (same_four _ _ _ _ _ _ _ _ (an_int _ one.0) (a_text _ two.0) (a_blob _ three.0) (a_blob _ three.1)) (put_down_is rows all.1)
