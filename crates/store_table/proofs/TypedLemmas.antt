-- A row that obeys the table's rules has five values of their kinds.
use Rattle.std.proofs.Common.{◌≡◌, ℕ, List, [], ◌∷◌, drop, true, false, ◌&&◌, not, Some, refl}
use Rattle.std.proofs.lemmas.Bool.{and_parts}
use Rattle.sqlite.specs.declared.types.Value.{Value}
use Rattle.sqlite.specs.declared.types.Value.TheVariants.{Null, Int, Real, Text, Blob}
use Rattle.sqlite.specs.Order.{Row}
use Rattle.sqlite_sql.specs.Ops.{is_null}
use Rattle.sqlite_schema.specs.declared.schema.Kind.TheVariants as kind
use Rattle.sqlite_schema.specs.Rules.{is_of, are_typed, are_present}
use Rattle.store_table.specs.Schema.{documents}

nothing : (a : Value) → is_null a ≡ true → a ≡ Null
nothing Null h = refl
nothing (Int n) h = absurd (cc)
nothing (Real x) h = absurd (cc)
nothing (Text t) h = absurd (cc)
nothing (Blob b) h = absurd (cc)

a_text : (a : Value) → is_of kind.Text a ≡ true → not (is_null a) ≡ true → (t : List ℕ) × (a ≡ Text t)
a_text Null h k = absurd (cc)
a_text (Int n) h k = absurd (cc)
a_text (Real x) h k = absurd (cc)
a_text (Text t) h k = (t, refl)
a_text (Blob b) h k = absurd (cc)

a_blob : (a : Value) → is_of kind.Blob a ≡ true → not (is_null a) ≡ true → (t : List ℕ) × (a ≡ Blob t)
a_blob Null h k = absurd (cc)
a_blob (Int n) h k = absurd (cc)
a_blob (Real x) h k = absurd (cc)
a_blob (Text t) h k = absurd (cc)
a_blob (Blob b) h k = (b, refl)

pub record IsTyped (row : Row) : Type 0 where
  pub id : Value
  pub coll : List ℕ
  pub idkey : List ℕ
  pub body : List ℕ
  pub is : row ≡ id ∷ Null ∷ Text coll ∷ Blob idkey ∷ Blob body ∷ []

five : (v a x y z : Value) (t b c : List ℕ) → a ≡ Null → x ≡ Text t → y ≡ Blob b → z ≡ Blob c → ◌≡◌ {A = Row} (v ∷ a ∷ x ∷ y ∷ z ∷ []) (v ∷ Null ∷ Text t ∷ Blob b ∷ Blob c ∷ [])
five v a x y z t b c p q r s = rw (p, q, r, s) refl

pub typed_row : (row : Row) → are_typed (Some 0) 0 documents.columns (drop 1 row) ≡ true → are_present (Some 0) 0 documents.columns row ≡ true → IsTyped row
typed_row [] t p = absurd (cc)
typed_row (v ∷ []) t p = absurd (cc)
typed_row (v ∷ (a ∷ [])) t p = absurd (cc)
typed_row (v ∷ (a ∷ (x ∷ []))) t p = absurd (let q : false ≡ true = (and_parts (not (is_null x)) false p).1 in cc)
typed_row (v ∷ (a ∷ (x ∷ (y ∷ [])))) t p = absurd (let q : false ≡ true = (and_parts (not (is_null y)) false (and_parts (not (is_null x)) (not (is_null y) && false) p).1).1 in cc)
typed_row (v ∷ (a ∷ (x ∷ (y ∷ (z ∷ []))))) t p =
    let zt = is_of kind.Blob z && true in
    let yt = is_of kind.Blob y && zt in
    let xt = is_of kind.Text x && yt in
    let t1 = and_parts (is_null a) xt t in
    let t2 = and_parts (is_of kind.Text x) yt t1.1 in
    let t3 = and_parts (is_of kind.Blob y) zt t2.1 in
    let t4 = and_parts (is_of kind.Blob z) true t3.1 in
    let zp = not (is_null z) && true in
    let yp = not (is_null y) && zp in
    let p2 = and_parts (not (is_null x)) yp p in
    let p3 = and_parts (not (is_null y)) zp p2.1 in
    let p4 = and_parts (not (is_null z)) true p3.1 in
    let xv = a_text x t2.0 p2.0 in
    let yv = a_blob y t3.0 p3.0 in
    let zv = a_blob z t4.0 p4.0 in
    record { id = v; coll = xv.0; idkey = yv.0; body = zv.0; is = five v a x y z xv.0 yv.0 zv.0 (nothing a t1.0) xv.1 yv.1 zv.1 }
typed_row (v ∷ (a ∷ (x ∷ (y ∷ (z ∷ (w ∷ more)))))) t p =
    let zt = is_of kind.Blob z && false in
    let yt = is_of kind.Blob y && zt in
    let xt = is_of kind.Text x && yt in
    let t1 = and_parts (is_null a) xt t in
    let t2 = and_parts (is_of kind.Text x) yt t1.1 in
    let t3 = and_parts (is_of kind.Blob y) zt t2.1 in
    absurd (let e : false ≡ true = (and_parts (is_of kind.Blob z) false t3.1).1 in cc)
