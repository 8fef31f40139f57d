-- A document with an `_id` becomes what an update makes of it: in one step, or not at all.
use Rattle.std.specs.Prelude.{◌≡◌, ◌⊎◌, List, ◌∷◌, [], ℕ, Bool, true, false, Option, Result, Ok, Err}
use Rattle.bson_base.specs.Value.{Members, Value}
use Rattle.bson_store.specs.Shown.{Represents}
use Rattle.bson_store.specs.Whole.{DoesAll}
use Rattle.bson_store.specs.declared.edit.Edit.{Edit}
use Rattle.bson_store.specs.declared.edit.ListRefusal.{ListRefusal}
use Rattle.store_model.specs.State.{get_raw, on, refused}
use Rattle.store_model.specs.Table.{DocumentTable, Serves}
use Rattle.store_model.specs.declared.error.StoreError.{StoreError}
use Rattle.store_table.specs.Rows.{TableRow}
use Rattle.store_update.specs.Plan.{Plan}
use Rattle.fallowtime_commands.specs.Changing.{IsUnrenewedAt, Renews, Updates, listed}
use Rattle.fallowtime_commands.specs.Setting.{Gets}
use Rattle.fallowtime_commands.specs.declared.answer.Answer.{Answer}
use Rattle.fallowtime_commands.specs.declared.answer.Answer.TheVariants as answer
use Rattle.fallowtime_commands.specs.declared.changing.Unmade.TheVariants as unmade

-- what is returned after these changes: whether there was one, if that is told
abbrev pub altered_by : Bool → List Edit → Answer
altered_by false xs = answer.Nothing
altered_by true [] = answer.Flag false
altered_by true (x ∷ xs) = answer.Flag true

-- What comes of an update of this document: its change is made; or, if nothing becomes of the document, or the change is refused,
-- the rows stay.
abbrev pub AltersOne : List ℕ → List Plan → Bool → Members → Result Answer StoreError → List TableRow → List TableRow → Type 0
AltersOne n plans told d (Ok (answer.NotUpdated i e)) docs after = IsUnrenewedAt (Updates plans d) 0 (unmade.Update i e) × (after ≡ docs)
AltersOne n plans told d (Ok a) docs after = (change : Option Edit) × Renews n (Updates plans d) d change × (a ≡ altered_by told (listed change)) × DoesAll (listed change) (Ok tt) docs after
AltersOne n plans told d (Err x) docs after =
    (IsUnrenewedAt (Updates plans d) 0 (unmade.Store x) × (after ≡ docs))
    ⊎ ((change : Option Edit) × (r : ListRefusal) × Renews n (Updates plans d) d change × (x ≡ r.error) × DoesAll (listed change) (Err r) docs after)

-- an id that no document has is refused as `get_raw` refuses it
abbrev pub IsUngot : List ℕ → Value → Result Answer StoreError → DocumentTable → List TableRow → Type 0
IsUngot n id o a new = (e : StoreError) × (b : DocumentTable) × (o ≡ Err e) × Represents new b × Serves a (on n (get_raw id)) (refused e.kind e.document) b

-- Whatever table the rows showed: there is no such document, or the one with the id is altered, among the rows behind its look-up.
abbrev pub Alters : List ℕ → Value → List Plan → Bool → Result Answer StoreError → List TableRow → List TableRow → Type 0
Alters n id plans told o old new =
    (a : DocumentTable) → Represents old a
    → IsUngot n id o a new
    ⊎ ((d : Members) × (b : DocumentTable) × (mid : List TableRow) × Gets n id a d b × Represents mid b × AltersOne n plans told d o mid new)

-- what is returned of it: nothing, or whether it was changed; or why nothing is made of it
abbrev pub IsAltered : Bool → Answer → Type 0
IsAltered told (answer.NotUpdated i e) = Unit {0}
IsAltered told a = (xs : List Edit) × (a ≡ altered_by told xs)

-- ---- its parts

-- the change that is to be made of this document, as a list
abbrev pub IsAlteration : List ℕ → List Plan → Members → List Edit → Type 0
IsAlteration n plans d xs = (change : Option Edit) × Renews n (Updates plans d) d change × (xs ≡ listed change)

-- the changes are made; or they are refused
abbrev pub AppliesAltered : List Edit → Bool → Result Answer StoreError → List TableRow → List TableRow → Type 0
AppliesAltered xs told (Ok a) docs after = (a ≡ altered_by told xs) × DoesAll xs (Ok tt) docs after
AppliesAltered xs told (Err e) docs after = (r : ListRefusal) × (e ≡ r.error) × DoesAll xs (Err r) docs after
