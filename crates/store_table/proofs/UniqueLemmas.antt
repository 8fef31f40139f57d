-- The rows of a database, sorted by place, are one list.
use Rattle.std.proofs.Common.{◌≡◌, ◌<ℤ◌, ◌≤ℤ◌, ℕ, ℤ, List, [], ◌∷◌, map, Some, slice_get, refl, sym, subst, ◌∙◌, ap, ap₂, arith}
use Rattle.std.specs.List.{AllByRecursion}
use Rattle.std.specs.List.Sorted.{IsPermutation}
use Rattle.std.proofs.lemmas.Int.{ints}
use Rattle.std.proofs.lemmas.List.Sorted.{IsPermutation-sym, IsPermutation-trans, All-permutation, sum_by-IsPermutation}
use Rattle.std.proofs.lemmas.List.Elements.{All-from_recursion, recursion_from_All}
use Rattle.sqlite.specs.declared.types.Value.{Value}
use Rattle.sqlite.specs.declared.types.Value.TheVariants.{Int, Text, Blob}
use Rattle.sqlite_value.specs.Order.{Row, column}
use Rattle.sqlite.specs.Table.{Table}
use Rattle.sqlite.specs.Effect.{Database}
use Rattle.store_table.specs.Schema.{HasDocuments}
use Rattle.sqlite_rules.specs.Edit.{id_in}
use Rattle.store_table.specs.Rows.{TableRow, columns_of, IsRising, RowsIn}
use Rattle.store_table.proofs.StatementLemmas.{seen}
use Rattle.store_table.proofs.SortLemmas.{same_order, Strict, Rises}

abbrev key_of : Row → ℤ
key_of r = id_in (column r 0)

above : (k : ℤ) (ds : List TableRow) → AllByRecursion (λ b. k <ℤ b.place) ds → AllByRecursion (λ r. k <ℤ key_of r) (map columns_of ds)
above k [] h = tt
above k (d ∷ ds) h = (h.0, above k ds h.1)

at_least : (k : ℤ) (ds : List TableRow) → AllByRecursion (λ b. k <ℤ b.place) ds → AllByRecursion (λ r. k ≤ℤ key_of r) (map columns_of ds)
at_least k [] h = tt
at_least k (d ∷ ds) h = (omega (arith, ints, h.0), at_least k ds h.1)

strict : (ds : List TableRow) → IsRising ds → Strict key_of (map columns_of ds)
strict [] up = tt
strict (d ∷ ds) up = (above d.place ds up.0, strict ds up.1)

rises : (ds : List TableRow) → IsRising ds → Rises key_of (map columns_of ds)
rises [] up = tt
rises (d ∷ ds) up = (at_least d.place ds up.0, rises ds up.1)

same_fields : (p p' : ℤ) (c c' k k' b b' : List ℕ) → p ≡ p' → c ≡ c' → k ≡ k' → b ≡ b'
    → ◌≡◌ {A = TableRow} (record { place = p; coll = c; idkey = k; body = b }) (record { place = p'; coll = c'; idkey = k'; body = b' })
same_fields p p' c c' k k' b b' e f g h = rw (e, f, g, h) refl

int_is : {a b : ℤ} → ◌≡◌ {A = Value} (Int a) (Int b) → a ≡ b
int_is e = cc

text_is : {a b : List ℕ} → ◌≡◌ {A = Value} (Text a) (Text b) → a ≡ b
text_is e = cc

blob_is : {a b : List ℕ} → ◌≡◌ {A = Value} (Blob a) (Blob b) → a ≡ b
blob_is e = cc

same_stored : (x y : TableRow) → columns_of x ≡ columns_of y → x ≡ y
same_stored x y e =
    same_fields x.place y.place x.coll y.coll x.idkey y.idkey x.body y.body
    (int_is (ap (λ r. column r 0) e)) (text_is (ap (λ r. column r 2) e)) (blob_is (ap (λ r. column r 3) e)) (blob_is (ap (λ r. column r 4) e))

first_is : {x y : Row} {xs ys : List Row} → ◌≡◌ {A = List Row} (x ∷ xs) (y ∷ ys) → x ≡ y
first_is e = cc

rest_is : {x y : Row} {xs ys : List Row} → ◌≡◌ {A = List Row} (x ∷ xs) (y ∷ ys) → xs ≡ ys
rest_is e = cc

same_all : (a b : List TableRow) → map columns_of a ≡ map columns_of b → a ≡ b
same_all [] [] e = refl
same_all [] (y ∷ b) e = absurd (cc)
same_all (x ∷ a) [] e = absurd (cc)
same_all (x ∷ a) (y ∷ b) e = ap₂ (λ z zs. z ∷ zs) (same_stored x y (first_is e)) (same_all a b (rest_is e))

-- a schema has one table of the name, over one tree
some_is : {X : Type 0} {a b : X} → Some a ≡ Some b → a ≡ b
some_is e = cc

pub one_stand : (tables : List Table) (p q m n : ℕ) → HasDocuments tables p m → HasDocuments tables q n → (q ≡ p) × (n ≡ m)
one_stand tables p q m n h k =
    let place : q ≡ p = some_is (sym k.named ∙ h.named) in
    (place, ap (λ (t : Table). t.tree) (some_is (sym k.at ∙ ap (slice_get tables) place ∙ h.at)))

pub one_list : (db : Database) (a b : List TableRow) → RowsIn db a → RowsIn db b → a ≡ b
one_list db a b shown again =
    let h = seen shown in
    let k = seen again in
    let same = (one_stand db.schema.tables h.place k.place h.tree k.tree h.stands k.stands).1 in
    let there : IsPermutation (map columns_of b) (db.trees h.tree) = subst (λ n. IsPermutation (map columns_of b) (db.trees n)) same k.rows in
    let xs = map columns_of a in
    let ys = map columns_of b in
    let perm : IsPermutation xs ys = IsPermutation-trans xs (db.trees h.tree) ys h.rows (IsPermutation-sym ys (db.trees h.tree) there) in
    same_all a b
    (same_order key_of xs ys (λ P all. recursion_from_All P ys (All-permutation P xs ys perm (All-from_recursion P xs all))) (λ f. sum_by-IsPermutation f xs ys perm) (strict a h.rising) (rises b k.rising))
