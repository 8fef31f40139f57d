-- What a request does in a draft, by what it does to the rows that this would make.
use Rattle.std.proofs.Common.{◌≡◌, inl, inr, ℕ, List, Result, Ok, Err, refl, subst}
use Rattle.bson_store.specs.Drafted.{IsOver, drafted}
use Rattle.bson_store.specs.declared.draft.Draft.{Draft}
use Rattle.store_model.specs.Table.{DocumentTable, state_of}
use Rattle.store_model.specs.declared.error.StoreError.{StoreError}
use Rattle.store_table.specs.Rows.{TableRow}
use Rattle.bson_store.specs.Shown.{Represents}
use Rattle.fallowtime_commands.specs.Performing.{Performs}
use Rattle.fallowtime_commands.specs.declared.answer.Answer.{Answer}
use Rattle.fallowtime_requests.specs.declared.request.Request.{Request}
use Rattle.fallowtime_commands.specs.Drafting.{DraftsBy, IsOutcome}
use Rattle.fallowtime_commands.specs.Listing.{IsLacking, IsRefusedIn, PerformsDrafted}
use Rattle.fallowtime_commands.specs.declared.session.error.Reason.{Reason}
use Rattle.fallowtime_commands.specs.declared.session.error.Reason.TheVariants as reason

refused_so : (n : List ℕ) (q : Request) (why : Reason) (v : List TableRow) (a : DocumentTable) (o : Result Answer StoreError) → Represents v a → IsOutcome o why → Performs n q o v v → IsRefusedIn (state_of a) n q why
refused_so n q (reason.Refused e) v a o shown is performs = (v, v, (a, shown, refl), (a, shown, refl), subst (λ p. Performs n q p v v) is performs)
refused_so n q (reason.NotUpdated i e) v a o shown is performs = (v, v, (a, shown, refl), (a, shown, refl), subst (λ p. Performs n q p v v) is performs)
refused_so n q (reason.NotUpserted e) v a o shown is performs = (v, v, (a, shown, refl), (a, shown, refl), subst (λ p. Performs n q p v v) is performs)
refused_so n q reason.NotInLists v a o shown is performs = absurd is

pub performs_by : (n : List ℕ) (q : Request) (r : Result Answer Reason) (old new : Draft) (docs after : List TableRow) → DraftsBy (Performs n q) r old new docs after → PerformsDrafted n q r old new docs after
performs_by n q (Ok x) old new docs after h = record {
  same = h.same;
  told = λ over a shown. let t = h.told over a shown in (t.0, (t.1.0, t.1.1, (drafted old docs, t.1.2.0, (a, shown, refl), t.1.2.1, t.1.2.2)));
}
performs_by n q (Err why) old new docs after h = record {
  same = h.same;
  told = λ over a shown. elim (h.told over a shown) [ inl lack ↦ inl lack | inr one ↦ inr (refused_so n q why (drafted old docs) a one.0 shown one.1 one.2) ];
}

module _ (P Q : Result Answer StoreError → List TableRow → List TableRow → Type 0) (old new : Draft) (docs mid after : List TableRow) (still : mid ≡ docs) (more : IsOver old docs → (o : Result Answer StoreError) (rows : List TableRow) → P o (drafted old docs) rows → Q o (drafted old docs) rows) where
  pub drafts_more : (r : Result Answer Reason) → DraftsBy P r old new mid after → DraftsBy Q r old new docs after
  drafts_more r h = by r (subst (λ rows. DraftsBy P r old new rows after) still h)
    where
      by : (r : Result Answer Reason) → DraftsBy P r old new docs after → DraftsBy Q r old new docs after
      by (Ok x) k = record { same = k.same; told = λ over a shown. let t = k.told over a shown in (t.0, (t.1.0, t.1.1, (t.1.2.0, t.1.2.1, more over (Ok x) t.1.2.0 t.1.2.2))) }
      by (Err why) k = record { same = k.same; told = λ over a shown. elim (k.told over a shown) [ inl lack ↦ inl lack | inr one ↦ inr (one.0, one.1, more over one.0 (drafted old docs) one.2) ] }

-- it is answered otherwise, or there is no memory for the answer
pub answer_as : (P : Result Answer StoreError → List TableRow → List TableRow → Type 0) (x y : Answer) (old new : Draft) (docs after : List TableRow) → ((v rows : List TableRow) → P (Ok x) v rows → P (Ok y) v rows) → DraftsBy P (Ok x) old new docs after → DraftsBy P (Ok y) old new docs after
answer_as P x y old new docs after other h = record { same = h.same; told = λ over a shown. let t = h.told over a shown in (t.0, (t.1.0, t.1.1, (t.1.2.0, t.1.2.1, other (drafted old docs) t.1.2.0 t.1.2.2))) }

pub drafts_lack : (P : Result Answer StoreError → List TableRow → List TableRow → Type 0) (why : Reason) (old new : Draft) (docs after : List TableRow) → IsLacking why → after ≡ docs → DraftsBy P (Err why) old new docs after
drafts_lack P why old new docs after lack same = record { same = same; told = λ over a shown. inl lack }
