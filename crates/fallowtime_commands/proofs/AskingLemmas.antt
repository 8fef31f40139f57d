-- Questions in a draft: the rows that it would make are asked.
use Rattle.std.proofs.Common.{◌≡◌, inr, ℕ, Bool, List, Result, Ok, Err, String, Vec, Global, refl, subst, sym}
use Rattle.store_asked.specs.Asking.{AskedDrafted}
use Rattle.store_pipeline.specs.declared.sorted.counted.Counted.{Counted}
use Rattle.bson_store.specs.Drafted.{IsOver, drafted}
use Rattle.bson_store.specs.declared.draft.Draft.{Draft}
use Rattle.store_question.specs.Filters.{path_of}
use Rattle.store_model.specs.declared.error.StoreError.{StoreError}
use Rattle.store_question.specs.Reads.{form_of}
use Rattle.store_question.specs.declared.question.Question.{Question}
use Rattle.store_table.specs.Rows.{TableRow}
use Rattle.bson_store.specs.Questions.{as_list}
use Rattle.bson_store.specs.Refusals.{as_number, reply_by}
use Rattle.fallowtime_commands.proofs.AskLemmas.{differing}
use Rattle.fallowtime_commands.specs.Asking.{AreCounted, AreWanted, Differs, HasPart, values_by}
use Rattle.fallowtime_commands.specs.Performing.{Performs, reply_of}
use Rattle.fallowtime_commands.specs.declared.answer.Answer.{Answer}
use Rattle.fallowtime_requests.specs.declared.request.Part.{Part}
use Rattle.fallowtime_requests.specs.declared.request.Request.{Request}
use Rattle.fallowtime_requests.specs.declared.request.Request.TheVariants as request
use Rattle.fallowtime_requests.specs.declared.request.Wanted.{Wanted}
use Rattle.fallowtime_commands.specs.Drafting.{DraftsRequest}

pub asks : (n : List ℕ) (q : Request) (draft : Draft) (o : Result Answer StoreError) (docs after : List TableRow) → after ≡ docs → (IsOver draft docs → Performs n q o (drafted draft docs) (drafted draft docs)) → DraftsRequest n q o draft draft docs after
asks n q draft (Ok x) docs after same performs = record { same = same; told = λ over a shown. (over, (a, shown, (drafted draft docs, drafted draft docs, (a, shown, refl), (a, shown, refl), performs over))) }
asks n q draft (Err e) docs after same performs = record { same = same; told = λ over a shown. inr (drafted draft docs, drafted draft docs, (a, shown, refl), (a, shown, refl), performs over) }

module _ (n : List ℕ) (q : Question) (draft : Draft) (o : Result Answer StoreError) (docs after : List TableRow) where
  pub finds : (w : Wanted) (r : Result (Vec (Vec ℕ Global) Global) StoreError) → reply_of o ≡ reply_by as_list r → AskedDrafted draft (AreWanted w) n (form_of q) r docs after → DraftsRequest n (request.Find q w) o draft draft docs after
  finds w r is h = asks n (request.Find q w) draft o docs after h.same (λ over. (r, is, h.asked over))

  pub counts : (p : Part) (r : Result ℕ StoreError) → reply_of o ≡ reply_by as_number r → AskedDrafted draft (HasPart p) n (form_of q) r docs after → DraftsRequest n (request.Count q p) o draft draft docs after
  counts p r is h = asks n (request.Count q p) draft o docs after h.same (λ over. (r, is, h.asked over))

  module _ (path : Vec (String Global) Global) (counted : Bool) (slice : List (String Global)) (is : slice ≡ path.items) where
    pub differs : (r : Result (Vec Counted Global) StoreError) → o ≡ values_by counted r → AskedDrafted draft (AreCounted (path_of slice)) n (form_of q) r docs after → DraftsRequest n (request.Distinct path q counted) o draft draft docs after
    differs r same h =
        asks n (request.Distinct path q counted) draft o docs after h.same
        (λ over. subst (λ z. Differs n (form_of q) (path_of path.items) counted z (drafted draft docs) (drafted draft docs)) (sym same) (differing n (form_of q) path.items counted slice is (drafted draft docs) (drafted draft docs) r (h.asked over)))
