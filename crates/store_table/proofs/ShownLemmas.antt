-- Rows and entries without REAL columns, which are shown as they are stored.
use Rattle.std.proofs.Common.{◌≡◌, ℕ, ℤ, List, [], ◌∷◌, map, refl, ap, ap₂}
use Rattle.sqlite_value.specs.Keys.{plain}
use Rattle.sqlite_value.specs.declared.value.Value.TheVariants.{Int}
use Rattle.sqlite_record.specs.Record.{decode}
use Rattle.sqlite_record.proofs.AffinityLemmas.{widen-zero}
use Rattle.sqlite_trees.specs.declared.store.Shape.TheVariants.{Table, Index}
use Rattle.sqlite_store.specs.Db.{table_row, shown}

shown_row : (row : ℤ × List ℕ) → shown Table 0 (table_row row) ≡ table_row row
shown_row row = ap (λ r. Int row.0 ∷ r) (widen-zero (decode row.1))

pub shown_rows : (rows : List (ℤ × List ℕ)) → map (shown Table 0) (map table_row rows) ≡ map table_row rows
shown_rows [] = refl
shown_rows (row ∷ rows) = ap₂ (λ r rs. r ∷ rs) (shown_row row) (shown_rows rows)

pub shown_entries : (records : List (List ℕ)) → map (shown (Index plain) 0) (map decode records) ≡ map decode records
shown_entries [] = refl
shown_entries (e ∷ records) = ap₂ (λ r rs. r ∷ rs) (widen-zero (decode e)) (shown_entries records)
