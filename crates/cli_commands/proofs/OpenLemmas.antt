-- What is opened in memory, and why it isn't.
use Rattle.std.proofs.Common.{◌≡◌, ◌⊎◌, inl, inr, refl, sym, ap, subst, []}
use Rattle.sqlite.specs.State.{State}
use Rattle.sqlite.specs.Steps.{IsEmpty}
use Rattle.sqlite_schema.specs.declared.schema.Schema.{Schema}
use Rattle.sqlite_schema.specs.Names.{table_named, index_named, view_named}
use Rattle.store_table.specs.Schema.{IsFree}
use Rattle.store_table.specs.Rows.{IsBlank}
use Rattle.store_table.specs.Moves.{Stands}
use Rattle.store_table.specs.Open.{table_name}
use Rattle.store_table.specs.declared.opening.OpenError.TheVariants as opens
use Rattle.store_model.specs.declared.error.ErrorKind.TheVariants.{Memory, Database}
use Rattle.bson_store.specs.Opening.{Opens, RefusesToOpen}
use Rattle.store_model.specs.declared.error.StoreError.{StoreError}

blank : (s : State) → IsEmpty s → IsBlank s
blank s h = record { is_open = h.0.is_open; autocommit = h.0.autocommit; settled = h.0.clean; free = subst (λ (x : Schema). IsFree x.tables) (sym h.2) (record { unnamed = refl; unreferred = tt }) }

-- a database without an object is opened without a row
pub opened_empty : (old new : State) → IsEmpty old → Opens old new → Stands new []
opened_empty old new h o = λ open_now. o.made (blank old h)

-- and it is refused only for lack of memory or by the database itself
pub not_opened : (old new : State) (e : StoreError) → IsEmpty old → RefusesToOpen old new e → (e.kind ≡ Memory) ⊎ (e.kind ≡ Database)
not_opened old new e h (opens.NotAStore, is, inl (there, why)) = absurd (there (ap (λ (s : Schema). table_named s table_name) h.2))
not_opened old new e h (opens.NotAStore, is, inr (none, inl view)) = absurd (view (ap (λ (s : Schema). view_named s table_name) h.2))
not_opened old new e h (opens.NotAStore, is, inr (none, inr index)) = absurd (index (ap (λ (s : Schema). index_named s table_name) h.2))
not_opened old new e h (opens.BadRow place, is, (there, why)) = absurd (there (ap (λ (s : Schema). table_named s table_name) h.2))
not_opened old new e h (opens.IdsCollide first second, is, (there, why)) = absurd (there (ap (λ (s : Schema). table_named s table_name) h.2))
not_opened old new e h (opens.Memory, is, why) = inl (ap (λ (x : StoreError). x.kind) is)
not_opened old new e h (opens.Database, is, why) = inr (ap (λ (x : StoreError). x.kind) is)
