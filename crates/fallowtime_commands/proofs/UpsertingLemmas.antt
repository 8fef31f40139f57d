-- A change by query in a draft that puts a document in if none answers.
use Rattle.std.specs.Prelude.{MatchResult}
use Rattle.std.proofs.Common.{◌≡◌, inr, ℕ, List, length, Bool, Result, Ok, Err, ap, refl}
use Rattle.bson_model.specs.View.{content, view}
use Rattle.bson_model.specs.declared.bson.Bson.{Bson}
use Rattle.bson_model.specs.declared.document.Document.{Document}
use Rattle.store_asked.specs.Asking.{AskedDrafted}
use Rattle.bson_store.specs.Drafted.{drafted}
use Rattle.bson_store.specs.declared.draft.Draft.{Draft}
use Rattle.store_model.specs.declared.error.StoreError.{StoreError}
use Rattle.store_question.specs.Reads.{form_of}
use Rattle.store_question.specs.declared.question.Question.{Question}
use Rattle.store_table.specs.Rows.{TableRow}
use Rattle.store_update.specs.declared.error.UpdateError.{UpdateError}
use Rattle.fallowtime_commands.proofs.ChangeLemmas.{Bodies}
use Rattle.fallowtime_commands.proofs.UpsertLemmas.{changed_rows, ended_rows, unfound_rows}
use Rattle.fallowtime_commands.specs.Asking.{AreChosen}
use Rattle.fallowtime_commands.specs.Changing.{ChangesBodies}
use Rattle.fallowtime_commands.specs.Performing.{Performs, reply_of}
use Rattle.fallowtime_commands.specs.declared.answer.Answer.{Answer}
use Rattle.fallowtime_commands.specs.declared.answer.Answer.TheVariants as answer
use Rattle.fallowtime_requests.specs.declared.request.Otherwise.{Otherwise}
use Rattle.fallowtime_requests.specs.declared.request.Otherwise.TheVariants.{Insert, Refuse}
use Rattle.fallowtime_requests.specs.declared.request.Request.{Request}
use Rattle.fallowtime_requests.specs.declared.request.Request.TheVariants as request
use Rattle.fallowtime_requests.specs.declared.request.Work.{Work}
use Rattle.fallowtime_commands.proofs.AskingLemmas.{asks}
use Rattle.fallowtime_commands.proofs.ListDraftLemmas.{drafts_more, performs_by}
use Rattle.fallowtime_commands.proofs.RequestLemmas.{in_answered}
use Rattle.fallowtime_commands.specs.Drafting.{DraftsBy, EndsBy, Inserts, IsUpserted}
use Rattle.fallowtime_commands.specs.Listing.{IsLacking, PerformsDrafted}
use Rattle.fallowtime_commands.specs.declared.session.error.Reason.{Reason}
use Rattle.fallowtime_commands.specs.declared.session.error.Reason.TheVariants as reason

-- ---- none answers

module _ (n : List ℕ) (id : Bson) (d : Document) (old new : Draft) (docs after : List TableRow) where
  pub instead_answered : (r : Result Answer Reason) → MatchResult r (IsUpserted (view id)) IsLacking → DraftsBy (Inserts n (content d)) (Ok answer.Nothing) old new docs after → DraftsBy (EndsBy n (Insert id d)) r old new docs after
  instead_answered (Ok a) own h = in_answered n (content d) (Ok a) old new docs after (ap (λ y. reply_of (Ok y)) own.1) h
  instead_answered (Err why) lack h = in_answered n (content d) (Err why) old new docs after lack h

pub nothing_instead : (n : List ℕ) (e : UpdateError) (draft : Draft) (docs : List TableRow) → DraftsBy (EndsBy n (Refuse e)) (Err (reason.NotUpserted e)) draft draft docs docs
nothing_instead n e draft docs = record { same = refl; told = λ over a shown. inr (Ok (answer.NotUpserted e), refl, (refl, refl)) }

-- ---- those that answer a question

module _ (n : List ℕ) (q : Question) (w : Work) (many : Bool) (u : Otherwise) where
  abbrev Q : Request
  Q = request.Upsert q w many u

  pub upsert_unfound : (e : StoreError) (draft : Draft) (docs after : List TableRow) → AskedDrafted draft (AreChosen many) n (form_of q) (Err e) docs after → PerformsDrafted n Q (Err (reason.Refused e)) draft draft docs after
  upsert_unfound e draft docs after h = asks n Q draft (Err e) docs after h.same (λ over. unfound_rows n (form_of q) w many u e (reply_of (Err e)) (drafted draft docs) (drafted draft docs) (h.asked over))

  module _ (bodies : Bodies) (r : Result Answer Reason) (old new : Draft) (docs mid after : List TableRow) (h : AskedDrafted old (AreChosen many) n (form_of q) (Ok bodies) docs mid) where
    pub upsert_ended : length bodies.items ≡ 0 → DraftsBy (EndsBy n u) r old new mid after → PerformsDrafted n Q r old new docs after
    upsert_ended none ends =
        performs_by n Q r old new docs after
        (drafts_more (EndsBy n u) (Performs n Q) old new docs mid after h.same (λ over o rows one. ended_rows n (form_of q) w many bodies none u o (reply_of o) (drafted old docs) (drafted old docs) rows (h.asked over) one) r ends)

    pub upsert_changed : (length bodies.items ≡ 0 → ⊥) → DraftsBy (ChangesBodies n w bodies.items) r old new mid after → PerformsDrafted n Q r old new docs after
    upsert_changed some changes =
        performs_by n Q r old new docs after
        (drafts_more (ChangesBodies n w bodies.items) (Performs n Q) old new docs mid after h.same (λ over o rows one. changed_rows n (form_of q) w many u bodies some o (reply_of o) (drafted old docs) (drafted old docs) rows (h.asked over) one) r changes)
