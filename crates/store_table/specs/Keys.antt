-- What the statement that puts a key at a place makes of a database, whatever rules its table has: what `sqlite` says that the text does
-- under the schema.
use Rattle.std.specs.Prelude.{◌≡◌, ℕ, ℤ, false, List, [], ◌∷◌, Option, Ok, codes}
use Rattle.sqlite.specs.declared.types.Value.TheVariants.{Int, Blob}
use Rattle.sqlite.specs.declared.run.Mode.{Mode}
use Rattle.sqlite_schema.specs.declared.schema.Keys.TheVariants.{Enforced}
use Rattle.sqlite_resolve.specs.declared.compiled.Compiled.{Compiled}
use Rattle.sqlite.specs.Does.{Tally, Does}
use Rattle.sqlite.specs.Effect.{Database}
use Rattle.sqlite.specs.Listing.{understood}
use Rattle.sqlite.specs.State.{text_of}
use Rattle.store_table.specs.declared.row.NewKey.{NewKey}

abbrev pub rekey_text : List ℕ
rekey_text = codes "UPDATE documents SET idkey = ?2 WHERE place = ?1"

abbrev pub keys_enforced : Mode
keys_enforced = record { keys = Enforced; in_doubt = false; may_wait = false }

-- the statement with this place and this key, within this limit on its steps
abbrev pub PutsKey : Option ℕ → ℤ → List ℕ → Database → Database → Type 0
PutsKey limit place idkey db after =
    (c : Compiled) × (understood db.schema rekey_text ≡ Ok c) × (tally : Tally) × Does limit keys_enforced (Int place ∷ Blob idkey ∷ []) db (text_of rekey_text c) c.returning c.command (Ok (tally, after))

-- the same with each of these keys, one after the other, and nothing else
abbrev pub PutsKeys : Option ℕ → List NewKey → Database → Database → Type 0
PutsKeys limit [] db after = after ≡ db
PutsKeys limit (k ∷ keys) db after = (mid : Database) × PutsKey limit k.place k.idkey.items db mid × PutsKeys limit keys mid after
