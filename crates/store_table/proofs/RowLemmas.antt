-- How edits change the rows.
use Rattle.std.proofs.Common.{◌≡◌, ◌<ℤ◌, ℤ, List, [], ◌∷◌, ◌++◌, Bool, true, false, cond, refl}
use Rattle.std.specs.List.{AllByRecursion}
use Rattle.sqlite.specs.declared.types.Value.{Value}
use Rattle.sqlite.specs.declared.types.Value.TheVariants.{Null, Int}
use Rattle.sqlite_sql.specs.Ops.{unary}
use Rattle.sqlite_schema.specs.declared.schema.Kind.TheVariants.{Integer}
use Rattle.sqlite_rules.specs.Cast.{cast}
use Rattle.store_table.specs.Rows.{TableRow, IsRising, AreBelow}

either : (b : Bool) (x : Value) → cond b x x ≡ x
either true x = refl
either false x = refl

pub cast_null : cast Integer Null ≡ Null
unfolding unary
cast_null = either _ Null

pub cast_int : (n : ℤ) → cast Integer (Int n) ≡ Int n
unfolding unary
cast_int n = either _ (Int n)

pub rising_last : (d : TableRow) (docs : List TableRow) → IsRising docs → AreBelow d.place docs → IsRising (docs ++ d ∷ [])
rising_last d [] up h = (tt, tt)
rising_last d (x ∷ docs) up h = (all_last docs up.0, rising_last d docs up.1 h.1)
  where
    all_last : (ys : List TableRow) → AllByRecursion (λ b. x.place <ℤ b.place) ys → AllByRecursion (λ b. x.place <ℤ b.place) (ys ++ d ∷ [])
    all_last [] k = (h.0, tt)
    all_last (y ∷ ys) k = (k.0, all_last ys k.1)
