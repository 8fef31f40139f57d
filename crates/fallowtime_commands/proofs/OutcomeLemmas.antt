-- The text of an id that was made before it is printed.
use Rattle.std.proofs.Common.{◌≡◌, ◌∙◌, inl, inr, List, [], ◌∷◌, Bool, true, false, ℕ, Result, Ok, Err, IfOk, ap, subst, sym}
use Rattle.bson_base.specs.Value.{Value}
use Rattle.bson_json.specs.Prints.{IsTextOf}
use Rattle.bson_model.specs.View.{view}
use Rattle.bson_model.specs.declared.bson.Bson.{Bson}
use Rattle.store_model.specs.declared.error.StoreError.{StoreError}
use Rattle.bson_store.specs.declared.edit.Edit.{Edit}
use Rattle.fallowtime_commands.specs.Altering.{altered_by}
use Rattle.fallowtime_commands.specs.Finding.{IsFound}
use Rattle.fallowtime_commands.specs.Performing.{IsAnswerTo, IsChange}
use Rattle.fallowtime_commands.specs.Printing.{IsInsertText, IsOutcomeText, mode_of}
use Rattle.fallowtime_commands.specs.declared.answer.Answer.{Answer}
use Rattle.fallowtime_commands.specs.declared.answer.Answer.TheVariants as answer
use Rattle.fallowtime_commands.specs.declared.printing.Form.{Form}
use Rattle.fallowtime_requests.specs.declared.request.Otherwise.TheVariants as otherwise
use Rattle.fallowtime_requests.specs.declared.request.Request.{Request}
use Rattle.fallowtime_requests.specs.declared.request.Request.TheVariants as request
use Rattle.fallowtime_requests.specs.declared.request.Work.{Work}
use Rattle.fallowtime_requests.specs.declared.request.Work.TheVariants as work

no_id : (w : Work) (v : Bson) → IsChange w (answer.Id v) → ⊥
no_id (work.Update steps) v h = h
no_id (work.Replace e) v h = h
no_id work.Remove v h = h

no_upsert : (w : Work) (v : Bson) → IsChange w (answer.Upserted v) → ⊥
no_upsert (work.Update steps) v h = h
no_upsert (work.Replace e) v h = h
no_upsert work.Remove v h = h

no_id_found : (w : Work) (v : Bson) → IsFound w (answer.Id v) → ⊥
no_id_found (work.Update steps) v h = h
no_id_found (work.Replace e) v h = h
no_id_found work.Remove v h = h

no_upsert_found : (w : Work) (v : Bson) → IsFound w (answer.Upserted v) → ⊥
no_upsert_found (work.Update steps) v h = h
no_upsert_found (work.Replace e) v h = h
no_upsert_found work.Remove v h = h

no_id_altered : (told : Bool) (v : Bson) (xs : List Edit) → answer.Id v ≡ altered_by told xs → ⊥
no_id_altered false v xs is = absurd cc
no_id_altered true v [] is = absurd cc
no_id_altered true v (x ∷ xs) is = absurd cc

no_upsert_altered : (told : Bool) (v : Bson) (xs : List Edit) → answer.Upserted v ≡ altered_by told xs → ⊥
no_upsert_altered false v xs is = absurd cc
no_upsert_altered true v [] is = absurd cc
no_upsert_altered true v (x ∷ xs) is = absurd cc

module _ (f : Form) (text : List ℕ) where
  abbrev IsOf : Bson → Type 0
  IsOf v = IsTextOf (mode_of f) (view v) text

  same : (v own id : Bson) → v ≡ own → view own ≡ view id → IsOf id → IsOf v
  same v own id is means h = subst (λ (x : Value). IsTextOf (mode_of f) x text) (sym (ap view is ∙ means)) h

  of_id : (q : Request) (v : Bson) → IsInsertText f q text → IsAnswerTo q (answer.Id v) → IsOf v
  of_id (request.Insert id d) v h (own, is, means) = same v own id (cc) means h
  of_id (request.Put d) v h is = absurd cc
  of_id (request.Replace d) v h is = absurd cc
  of_id (request.Get id) v h is = absurd is
  of_id (request.Set id key w) v h is = absurd cc
  of_id (request.Unset id key) v h is = absurd is
  of_id (request.Alter id steps told) v h (xs, is) = absurd (no_id_altered told v xs is)
  of_id (request.Change q w many) v h is = absurd (no_id w v is)
  of_id (request.Upsert q w many (otherwise.Insert id d)) v h (inl is) = absurd (no_id w v is)
  of_id (request.Upsert q w many (otherwise.Insert id d)) v h (inr (own, is, means)) = absurd cc
  of_id (request.Upsert q w many (otherwise.Refuse e)) v h (inl is) = absurd (no_id w v is)
  of_id (request.Upsert q w many (otherwise.Refuse e)) v h (inr is) = absurd cc
  of_id (request.Remove id) v h is = absurd cc
  of_id (request.Find q wanted) v h is = absurd is
  of_id (request.FindAndChange q wanted w) v h is = absurd (no_id_found w v is)
  of_id (request.Count q p) v h is = absurd is
  of_id (request.Distinct path q counts) v h is = absurd is
  of_id (request.Aggregate q stages) v h is = absurd is
  of_id (request.Import stream x) v h is = absurd is
  of_id (request.Transfer how) v h is = absurd is
  of_id (request.Index path) v h is = absurd cc
  of_id (request.DropIndex path) v h is = absurd cc
  of_id request.Collections v h is = absurd is
  of_id request.Check v h is = absurd is

  of_upserted : (q : Request) (v : Bson) → IsInsertText f q text → IsAnswerTo q (answer.Upserted v) → IsOf v
  of_upserted (request.Insert id d) v h (own, is, means) = absurd cc
  of_upserted (request.Put d) v h is = absurd cc
  of_upserted (request.Replace d) v h is = absurd cc
  of_upserted (request.Get id) v h is = absurd is
  of_upserted (request.Set id key w) v h is = absurd cc
  of_upserted (request.Unset id key) v h is = absurd is
  of_upserted (request.Alter id steps told) v h (xs, is) = absurd (no_upsert_altered told v xs is)
  of_upserted (request.Change q w many) v h is = absurd (no_upsert w v is)
  of_upserted (request.Upsert q w many (otherwise.Insert id d)) v h (inl is) = absurd (no_upsert w v is)
  of_upserted (request.Upsert q w many (otherwise.Insert id d)) v h (inr (own, is, means)) = same v own id (cc) means h
  of_upserted (request.Upsert q w many (otherwise.Refuse e)) v h (inl is) = absurd (no_upsert w v is)
  of_upserted (request.Upsert q w many (otherwise.Refuse e)) v h (inr is) = absurd cc
  of_upserted (request.Remove id) v h is = absurd cc
  of_upserted (request.Find q wanted) v h is = absurd is
  of_upserted (request.FindAndChange q wanted w) v h is = absurd (no_upsert_found w v is)
  of_upserted (request.Count q p) v h is = absurd is
  of_upserted (request.Distinct path q counts) v h is = absurd is
  of_upserted (request.Aggregate q stages) v h is = absurd is
  of_upserted (request.Import stream x) v h is = absurd is
  of_upserted (request.Transfer how) v h is = absurd is
  of_upserted (request.Index path) v h is = absurd cc
  of_upserted (request.DropIndex path) v h is = absurd cc
  of_upserted request.Collections v h is = absurd is
  of_upserted request.Check v h is = absurd is

-- the text of the id of what may go in is that of the id that is returned
pub outcome_text : (f : Form) (text : List ℕ) (q : Request) (o : Result Answer StoreError) → IsInsertText f q text → IfOk o (IsAnswerTo q) → IsOutcomeText f o text
outcome_text f text q (Ok (answer.Id v)) h is = of_id f text q v h is
outcome_text f text q (Ok (answer.Upserted v)) h is = of_upserted f text q v h is
outcome_text f text q (Ok answer.Nothing) h is = tt
outcome_text f text q (Ok (answer.Flag b)) h is = tt
outcome_text f text q (Ok (answer.Number n)) h is = tt
outcome_text f text q (Ok (answer.Document body)) h is = tt
outcome_text f text q (Ok (answer.Documents bodies)) h is = tt
outcome_text f text q (Ok (answer.Found found)) h is = tt
outcome_text f text q (Ok (answer.Names names)) h is = tt
outcome_text f text q (Ok (answer.Values cs counts)) h is = tt
outcome_text f text q (Ok (answer.Updated m c)) h is = tt
outcome_text f text q (Ok (answer.NotUpdated i e)) h is = tt
outcome_text f text q (Ok (answer.NotUpserted e)) h is = tt
outcome_text f text q (Ok (answer.NotCalculated e)) h is = tt
outcome_text f text q (Err e) h is = tt
