-- What a request of a list puts into a draft.
use Rattle.std.specs.Prelude.{◌≡◌, ◌⊎◌, ℕ, List, true, false, Option, None, Some, Result, Ok, Err, MatchResult, string_bytes}
use Rattle.bson_base.specs.Value.{Members, Value, has_key, without}
use Rattle.bson_bytes.specs.Encode.{encode}
use Rattle.bson_model.specs.View.{view}
use Rattle.bson_model.specs.declared.bson.Bson.{Bson}
use Rattle.bson_store.specs.Drafted.{IsOver, drafted}
use Rattle.bson_store.specs.declared.draft.Draft.{Draft}
use Rattle.store_model.specs.Refusal.{refusal}
use Rattle.store_model.specs.State.{in_bytes, insert}
use Rattle.store_model.specs.Table.{DocumentTable, state_of}
use Rattle.store_model.specs.declared.error.ErrorKind.{ErrorKind}
use Rattle.store_model.specs.declared.error.ErrorKind.TheVariants.{Memory}
use Rattle.store_model.specs.declared.error.StoreError.{StoreError}
use Rattle.store_table.specs.Rows.{TableRow}
use Rattle.bson_store.specs.Left.{ShowState}
use Rattle.bson_store.specs.Shown.{Represents}
use Rattle.bson_store.specs.Whole.{EditsAll}
use Rattle.bson_store.specs.declared.edit.Edit.{Edit}
use Rattle.bson_store.specs.declared.edit.Edit.TheVariants.{PutRaw, Remove}
use Rattle.bson_store.specs.declared.edit.ListRefusal.{ListRefusal}
use Rattle.fallowtime_commands.specs.Changing.{IsReplacement}
use Rattle.fallowtime_commands.specs.Performing.{reply_of}
use Rattle.fallowtime_commands.specs.Storing.{IsUnasked, Stores}
use Rattle.fallowtime_commands.specs.Upserting.{Ends}
use Rattle.fallowtime_commands.specs.declared.answer.Answer.{Answer}
use Rattle.fallowtime_commands.specs.declared.answer.Answer.TheVariants as answer
use Rattle.fallowtime_commands.specs.declared.changing.Unmade.{Unmade}
use Rattle.fallowtime_commands.specs.declared.changing.Unmade.TheVariants as unmade
use Rattle.fallowtime_requests.specs.declared.request.Otherwise.{Otherwise}
use Rattle.fallowtime_requests.specs.declared.request.Request.{Request}
use Rattle.fallowtime_commands.specs.Listing.{IsLacking, PerformsDrafted, as_reason}
use Rattle.fallowtime_commands.specs.declared.session.error.Reason.{Reason}
use Rattle.fallowtime_commands.specs.declared.session.error.Reason.TheVariants as reason

-- the change puts the document in, or in the place of the one with its `_id`
abbrev pub IsPut : List ℕ → Edit → Members → Type 0
IsPut n (PutRaw name bytes) e = (string_bytes name ≡ n) × (bytes.items ≡ encode e)
IsPut n _ e = ⊥

-- the change takes the document with the id away
abbrev pub IsRemovalOf : List ℕ → Edit → Value → Type 0
IsRemovalOf n (Remove name id) v = (string_bytes name ≡ n) × (view id ≡ v)
IsRemovalOf n _ v = ⊥

-- the `_id` is returned
abbrev pub IsId : Value → Answer → Type 0
IsId v a = (own : Bson) × (a ≡ answer.Id own) × (view own ≡ v)

-- the change takes the key out of the document, which hasn't it if there is none
abbrev pub IsUnsetting : List ℕ → List ℕ → Members → Option Edit → Type 0
IsUnsetting n k d None = has_key k d ≡ false
IsUnsetting n k d (Some x) = (has_key k d ≡ true) × IsReplacement n (without k d) x

-- a document is refused before the store is asked, or memory ran out
abbrev pub IsUnmade : List ℕ → Members → StoreError → Type 0
IsUnmade n e error = ((k : ErrorKind) × IsUnasked n e k × (error ≡ refusal k)) ⊎ (error ≡ refusal Memory)

-- a request that the store alone refuses
abbrev pub DraftsRequest : List ℕ → Request → Result Answer StoreError → Draft → Draft → List TableRow → List TableRow → Type 0
DraftsRequest n q result = PerformsDrafted n q (as_reason result)

-- why nothing is made of a document, as a list tells it
abbrev pub reason_of : Unmade → Reason
reason_of (unmade.Update i e) = reason.NotUpdated i e
reason_of (unmade.Store e) = reason.Refused e

-- the answer to changes that were put behind the others, or why they weren't
abbrev pub answered_by : Answer → Result (Unit {0}) ListRefusal → Result Answer Reason
answered_by x (Ok u) = Ok x
answered_by x (Err r) = Err (reason.Refused r.error)

-- the changes are in the draft, and this is answered; or one is refused
abbrev pub PutsAll : List Edit → Answer → Result Answer Reason → Draft → Draft → List TableRow → List TableRow → Type 0
PutsAll xs x result old new docs after = (r : Result (Unit {0}) ListRefusal) × (result ≡ answered_by x r) × EditsAll xs r old new docs after

-- the request by itself has this outcome, for this reason
abbrev pub IsOutcome : Result Answer StoreError → Reason → Type 0
IsOutcome o (reason.Refused e) = o ≡ Err e
IsOutcome o (reason.NotUpdated i e) = o ≡ Ok (answer.NotUpdated i e)
IsOutcome o (reason.NotUpserted e) = o ≡ Ok (answer.NotUpserted e)
IsOutcome o reason.NotInLists = ⊥

-- What comes of rows by an outcome, in a draft: its changes are in the draft, whose rows show the same state as those that come of it;
-- or why there is none. The table's rows stay.
pub record DraftsBy (P : Result Answer StoreError → List TableRow → List TableRow → Type 0) (result : Result Answer Reason) (old new : Draft) (docs after : List TableRow) : Type 0 where
  pub same : after ≡ docs
  pub told : IsOver old docs → (a : DocumentTable) → Represents (drafted old docs) a
      → MatchResult result
      (λ x. IsOver new docs × ((b : DocumentTable) × Represents (drafted new docs) b × ((rows : List TableRow) × ShowState rows (state_of b) × P (Ok x) (drafted old docs) rows)))
      (λ why. IsLacking why ⊎ ((o : Result Answer StoreError) × IsOutcome o why × P o (drafted old docs) (drafted old docs)))

-- the document goes into the collection n
abbrev pub Inserts : List ℕ → Members → Result Answer StoreError → List TableRow → List TableRow → Type 0
Inserts n e o old new = Stores n (insert in_bytes) e (reply_of o) old new

abbrev pub nothing_by : Result (Unit {0}) StoreError → Result Answer Reason
nothing_by (Ok u) = Ok answer.Nothing
nothing_by (Err e) = Err (reason.Refused e)

-- what is done if no document answers
abbrev pub EndsBy : List ℕ → Otherwise → Result Answer StoreError → List TableRow → List TableRow → Type 0
EndsBy n u o old new = Ends n u o (reply_of o) old new

-- the `_id` is returned of what went in, as none answered
abbrev pub IsUpserted : Value → Answer → Type 0
IsUpserted v a = (own : Bson) × (a ≡ answer.Upserted own) × (view own ≡ v)
