-- A document that is found in a draft, and changed there.
use Rattle.std.proofs.Common.{◌≡◌, inr, ℕ, false, List, [], ◌∷◌, take, None, Some, Result, Ok, Err, Vec, Global, refl, subst, sym}
use Rattle.store_asked.specs.Arranged.{AreArranged}
use Rattle.store_asked.specs.Asking.{AskedDrafted}
use Rattle.bson_store.specs.Drafted.{drafted}
use Rattle.bson_store.specs.declared.draft.Draft.{Draft}
use Rattle.store_model.specs.Reading.{Documents}
use Rattle.store_model.specs.declared.error.StoreError.{StoreError}
use Rattle.store_question.specs.Reads.{exists_form, form_of}
use Rattle.store_question.specs.declared.question.Question.{Question}
use Rattle.store_pipeline.specs.Bodies.{AreBodies}
use Rattle.store_pipeline.specs.declared.sorted.arrangement.Arrangement.{Arrangement}
use Rattle.store_table.specs.Rows.{TableRow}
use Rattle.bson_store.specs.Export.{bytes_of_each}
use Rattle.bson_store.specs.Whole.{EditsAll}
use Rattle.bson_store.specs.declared.edit.Edit.{Edit}
use Rattle.bson_store.specs.declared.edit.ListRefusal.{ListRefusal}
use Rattle.fallowtime_commands.proofs.ChangeLemmas.{Bodies}
use Rattle.fallowtime_commands.proofs.FindingLemmas.{Drafts, Stops, applied_body, changed_rows, none_rows, unfound_rows, unmade_body}
use Rattle.fallowtime_commands.specs.Asking.{chosen}
use Rattle.fallowtime_commands.specs.Changing.{outcome_of}
use Rattle.fallowtime_commands.specs.Finding.{AreFirst, ChangesBody}
use Rattle.fallowtime_commands.specs.Performing.{Performs}
use Rattle.fallowtime_commands.specs.declared.answer.Answer.{Answer}
use Rattle.fallowtime_commands.specs.declared.answer.Answer.TheVariants as answer
use Rattle.fallowtime_commands.specs.declared.changing.Unmade.{Unmade}
use Rattle.fallowtime_requests.specs.declared.request.Request.{Request}
use Rattle.fallowtime_requests.specs.declared.request.Request.TheVariants as request
use Rattle.fallowtime_requests.specs.declared.request.Wanted.{Wanted}
use Rattle.fallowtime_requests.specs.declared.request.Work.{Work}
use Rattle.fallowtime_commands.proofs.AskingLemmas.{asks}
use Rattle.fallowtime_commands.proofs.ChangingLemmas.{does_all, does_none, outcome_is}
use Rattle.fallowtime_commands.proofs.ListDraftLemmas.{drafts_more, performs_by}
use Rattle.fallowtime_commands.specs.Drafting.{DraftsBy, PutsAll, answered_by, reason_of}
use Rattle.fallowtime_commands.specs.Listing.{PerformsDrafted}
use Rattle.fallowtime_commands.specs.declared.session.error.Reason.{Reason}
use Rattle.fallowtime_commands.specs.declared.session.error.Reason.TheVariants as reason

-- ---- the first of those that are arranged

first_bodies : (bodies : List (Vec ℕ Global)) (ds : Documents) → AreBodies bodies ds → AreBodies (take 1 bodies) (chosen false ds)
first_bodies [] [] are = tt
first_bodies [] (d ∷ ds) are = absurd are
first_bodies (b ∷ bodies) [] are = absurd are
first_bodies (b ∷ []) (d ∷ ds) are = (are.0, tt)
first_bodies (b ∷ c ∷ bodies) (d ∷ ds) are = (are.0, tt)

pub first_of_all : (g : Arrangement) (bodies first : Bodies) (ds : Documents) → first.items ≡ take 1 bodies.items → AreArranged g bodies ds → AreFirst g first ds
first_of_all g bodies first ds is (es, arranged, are) = (es, arranged, subst (λ xs. AreBodies xs (chosen false es)) (sym is) (first_bodies bodies.items es are))

-- ---- the document of a body, whatever question found it

module _ (n : List ℕ) (w : Wanted) (k : Work) (body : List ℕ) where
  pub body_unmade : (why : Unmade) (draft : Draft) (docs : List TableRow) → Stops n exists_form w k body why → DraftsBy (ChangesBody n w k body) (Err (reason_of why)) draft draft docs docs
  body_unmade why draft docs stops = record { same = refl; told = λ over a shown. inr (outcome_of why, outcome_is why, unmade_body n exists_form w k body why (drafted draft docs) stops) }

  module _ (xs : List Edit) (returned : Vec ℕ Global) (drafts : Drafts n exists_form w k body xs returned) (old new : Draft) (docs after : List TableRow) where
    put_so : (r : Result (Unit {0}) ListRefusal) → EditsAll xs r old new docs after → DraftsBy (ChangesBody n w k body) (answered_by (answer.Found (Some returned)) r) old new docs after
    put_so (Ok u) h = record {
      same = h.same;
      told = λ over a shown.
          let t = h.told over a shown in
          (t.over, (t.all.b, t.all.shown, (drafted new docs, (t.all.b, t.all.shown, refl), applied_body n exists_form w k body xs returned (Ok (answer.Found (Some returned))) (drafted old docs) (drafted new docs) drafts (refl, does_all xs old new docs after over h))));
    }
    put_so (Err r) h = record {
      same = h.same;
      told = λ over a shown. inr (Err r.error, refl, applied_body n exists_form w k body xs returned (Err r.error) (drafted old docs) (drafted old docs) drafts (r, refl, does_none xs r old new docs after over h));
    }

    pub body_changed : (o : Result Answer Reason) → PutsAll xs (answer.Found (Some returned)) o old new docs after → DraftsBy (ChangesBody n w k body) o old new docs after
    body_changed o (r, is, h) = subst (λ z. DraftsBy (ChangesBody n w k body) z old new docs after) (sym is) (put_so r h)

-- ---- the one that is found

module _ (n : List ℕ) (q : Question) (w : Wanted) (k : Work) where
  abbrev Q : Request
  Q = request.FindAndChange q w k

  abbrev pub Finding : Result Bodies StoreError → Draft → List TableRow → List TableRow → Type 0
  Finding r draft = AskedDrafted draft (AreFirst w.arrangement) n (form_of q) r

  pub found_refused : (e : StoreError) (draft : Draft) (docs after : List TableRow) → Finding (Err e) draft docs after → PerformsDrafted n Q (Err (reason.Refused e)) draft draft docs after
  found_refused e draft docs after h = asks n Q draft (Err e) docs after h.same (λ over. unfound_rows n (form_of q) w k e (drafted draft docs) (drafted draft docs) (h.asked over))

  pub found_none : (bodies : Bodies) (draft : Draft) (docs after : List TableRow) → bytes_of_each bodies.items ≡ [] → Finding (Ok bodies) draft docs after → PerformsDrafted n Q (Ok (answer.Found None)) draft draft docs after
  found_none bodies draft docs after none h = asks n Q draft (Ok (answer.Found None)) docs after h.same (λ over. none_rows n (form_of q) w k bodies (drafted draft docs) (drafted draft docs) none (h.asked over))

  pub found_changed : (bodies : Bodies) (body : List ℕ) (r : Result Answer Reason) (old new : Draft) (docs mid after : List TableRow) → (rest : List (List ℕ)) × (bytes_of_each bodies.items ≡ body ∷ rest) → Finding (Ok bodies) old docs mid → DraftsBy (ChangesBody n w k body) r old new mid after
      → PerformsDrafted n Q r old new docs after
  found_changed bodies body r old new docs mid after front h changes =
      performs_by n Q r old new docs after
      (drafts_more (ChangesBody n w k body) (Performs n Q) old new docs mid after h.same (λ over o rows one. changed_rows n (form_of q) w k bodies body o (drafted old docs) (drafted old docs) rows front (h.asked over) one) r changes)
