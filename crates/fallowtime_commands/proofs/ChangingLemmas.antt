-- Changes in a draft, by what comes of the rows that it would make.
use Rattle.std.proofs.Common.{◌≡◌, inr, ℕ, List, length, Bool, Result, Ok, Err, IfOk, ap, refl, subst, sym, ◌∙◌}
use Rattle.store_asked.specs.Asking.{AskedDrafted}
use Rattle.bson_store.specs.Drafted.{IsOver, drafted}
use Rattle.bson_store.specs.declared.draft.Draft.{Draft}
use Rattle.store_model.specs.declared.error.StoreError.{StoreError}
use Rattle.store_question.specs.Reads.{form_of}
use Rattle.store_question.specs.declared.question.Question.{Question}
use Rattle.store_table.specs.Rows.{TableRow}
use Rattle.bson_store.specs.Whole.{DoesAll, EditsAll}
use Rattle.bson_store.specs.declared.edit.Edit.{Edit}
use Rattle.bson_store.specs.declared.edit.ListRefusal.{ListRefusal}
use Rattle.fallowtime_commands.proofs.ChangeLemmas.{AllHave, AllStop, Bodies, applied_bodies, changed_rows, unfound_rows, unmade_bodies}
use Rattle.fallowtime_commands.specs.Asking.{AreChosen}
use Rattle.fallowtime_commands.specs.Changing.{ChangesBodies, done_by, outcome_of}
use Rattle.fallowtime_commands.specs.Performing.{Performs}
use Rattle.fallowtime_commands.specs.declared.answer.Answer.{Answer}
use Rattle.fallowtime_commands.specs.declared.changing.Unmade.{Unmade}
use Rattle.fallowtime_commands.specs.declared.changing.Unmade.TheVariants as unmade
use Rattle.fallowtime_requests.specs.declared.request.Request.{Request}
use Rattle.fallowtime_requests.specs.declared.request.Request.TheVariants as request
use Rattle.fallowtime_requests.specs.declared.request.Work.{Work}
use Rattle.fallowtime_commands.proofs.AskingLemmas.{asks}
use Rattle.fallowtime_commands.proofs.ListDraftLemmas.{drafts_more, performs_by}
use Rattle.fallowtime_commands.specs.Drafting.{DraftsBy, IsOutcome, PutsAll, answered_by, reason_of}
use Rattle.fallowtime_commands.specs.Listing.{PerformsDrafted}
use Rattle.fallowtime_commands.specs.declared.session.error.Reason.{Reason}
use Rattle.fallowtime_commands.specs.declared.session.error.Reason.TheVariants as reason

-- ---- changes that are in the draft

pub outcome_is : (why : Unmade) → IsOutcome (outcome_of why) (reason_of why)
outcome_is (unmade.Update i e) = refl
outcome_is (unmade.Store e) = refl

pub does_all : (xs : List Edit) (old new : Draft) (docs after : List TableRow) → IsOver old docs → EditsAll xs (Ok tt) old new docs after → DoesAll xs (Ok tt) (drafted old docs) (drafted new docs)
does_all xs old new docs after over h = record { same = tt; told = λ a shown. (h.told over a shown).all }

pub does_none : (xs : List Edit) (r : ListRefusal) (old new : Draft) (docs after : List TableRow) → IsOver old docs → EditsAll xs (Err r) old new docs after → DoesAll xs (Err r) (drafted old docs) (drafted old docs)
does_none xs r old new docs after over h = record { same = refl; told = λ a shown. h.told over a shown }

-- ---- the documents of bodies

module _ (n : List ℕ) (w : Work) (bodies : Bodies) where
  pub bodies_unmade : (why : Unmade) (draft : Draft) (docs : List TableRow) → AllStop n w bodies why → DraftsBy (ChangesBodies n w bodies.items) (Err (reason_of why)) draft draft docs docs
  bodies_unmade why draft docs stops = record { same = refl; told = λ over a shown. inr (outcome_of why, outcome_is why, unmade_bodies n w bodies why (drafted draft docs) stops) }

  module _ (xs : List Edit) (k m : ℕ) (old new : Draft) (docs after : List TableRow) (count : k ≡ length bodies.items) (number : m ≡ length xs) (have : AllHave n w bodies xs) where
    changed_so : (r : Result (Unit {0}) ListRefusal) → EditsAll xs r old new docs after → DraftsBy (ChangesBodies n w bodies.items) (answered_by (done_by w k m) r) old new docs after
    changed_so (Ok u) h = record {
      same = h.same;
      told = λ over a shown.
          let t = h.told over a shown in
          (t.over, (t.all.b, t.all.shown, (drafted new docs, (t.all.b, t.all.shown, refl), applied_bodies n w bodies xs k (Ok (done_by w k m)) (drafted old docs) (drafted new docs) count have (ap (done_by w k) number, does_all xs old new docs after over h))));
    }
    changed_so (Err r) h = record {
      same = h.same;
      told = λ over a shown. inr (Err r.error, refl, applied_bodies n w bodies xs k (Err r.error) (drafted old docs) (drafted old docs) count have (r, refl, does_none xs r old new docs after over h));
    }

    pub bodies_changed : (x : Answer) (o : Result Answer Reason) → x ≡ done_by w k m → PutsAll xs x o old new docs after → DraftsBy (ChangesBodies n w bodies.items) o old new docs after
    bodies_changed x o same (r, is, h) = subst (λ z. DraftsBy (ChangesBodies n w bodies.items) z old new docs after) (sym (is ∙ ap (λ y. answered_by y r) same)) (changed_so r h)

-- the answer is the one that was given
pub answered_so : (P : Answer → Type 0) (x y : Answer) (r : Result Answer Reason) → P y → x ≡ y → IfOk r (λ a. a ≡ x) → IfOk r P
answered_so P x y (Ok a) h same is = subst P (sym (is ∙ same)) h
answered_so P x y (Err why) h same is = tt

-- ---- those that answer a question

module _ (n : List ℕ) (q : Question) (w : Work) (many : Bool) where
  abbrev Q : Request
  Q = request.Change q w many

  pub change_unfound : (e : StoreError) (draft : Draft) (docs after : List TableRow) → AskedDrafted draft (AreChosen many) n (form_of q) (Err e) docs after → PerformsDrafted n Q (Err (reason.Refused e)) draft draft docs after
  change_unfound e draft docs after h = asks n Q draft (Err e) docs after h.same (λ over. unfound_rows n (form_of q) w many e (drafted draft docs) (drafted draft docs) (h.asked over))

  pub change_found : (bodies : Bodies) (r : Result Answer Reason) (old new : Draft) (docs mid after : List TableRow) → AskedDrafted old (AreChosen many) n (form_of q) (Ok bodies) docs mid → DraftsBy (ChangesBodies n w bodies.items) r old new mid after → PerformsDrafted n Q r old new docs after
  change_found bodies r old new docs mid after h changes =
      performs_by n Q r old new docs after
      (drafts_more (ChangesBodies n w bodies.items) (Performs n Q) old new docs mid after h.same (λ over o rows one. changed_rows n (form_of q) w many bodies o (drafted old docs) (drafted old docs) rows (h.asked over) one) r changes)
