-- An update in a draft: the document is got there, and what becomes of it put in its place.
use Rattle.std.proofs.Common.{◌≡◌, inl, inr, ℕ, List, Bool, true, false, Option, None, Some, Result, Ok, Err, Vec, Global, ap, refl, sym, subst, ◌∙◌}
use Rattle.bson_base.specs.Value.{Members}
use Rattle.bson_bytes.specs.Encode.{encode}
use Rattle.bson_model.specs.View.{view}
use Rattle.bson_model.specs.declared.bson.Bson.{Bson}
use Rattle.bson_store.specs.Drafted.{drafted}
use Rattle.bson_store.specs.declared.draft.Draft.{Draft}
use Rattle.store_model.specs.State as model
use Rattle.store_model.specs.State.{IsKept}
use Rattle.store_model.specs.Table.{DocumentTable, Serves}
use Rattle.store_model.specs.declared.error.StoreError.{StoreError}
use Rattle.store_table.specs.Rows.{TableRow}
use Rattle.store_update.specs.Plan.{Plan}
use Rattle.store_update.specs.declared.operation.Step.{Step as Steps}
use Rattle.store_question_read.specs.UpdateOutcome.{plans_of}
use Rattle.bson_store.specs.Drafting.{GetsDrafted}
use Rattle.bson_store.specs.Shown.{Represents}
use Rattle.bson_store.specs.Whole.{DoesAll, EditsAll}
use Rattle.bson_store.specs.declared.edit.Edit.{Edit}
use Rattle.bson_store.specs.declared.edit.ListRefusal.{ListRefusal}
use Rattle.fallowtime_commands.proofs.SetLemmas.{got_document}
use Rattle.fallowtime_commands.specs.Altering.{Alters, AltersOne, IsAlteration, altered_by}
use Rattle.fallowtime_commands.specs.Changing.{IsUnrenewedAt, Renews, Updates, listed}
use Rattle.fallowtime_commands.specs.declared.answer.Answer.{Answer}
use Rattle.fallowtime_commands.specs.declared.answer.Answer.TheVariants as answer
use Rattle.fallowtime_commands.specs.declared.changing.Unmade.{Unmade}
use Rattle.fallowtime_commands.specs.declared.changing.Unmade.TheVariants as unmade
use Rattle.fallowtime_requests.specs.declared.request.Request.{Request}
use Rattle.fallowtime_requests.specs.declared.request.Request.TheVariants as request
use Rattle.fallowtime_commands.proofs.ChangingLemmas.{does_all, does_none}
use Rattle.fallowtime_commands.specs.Drafting.{PutsAll, answered_by, reason_of}
use Rattle.fallowtime_commands.specs.Listing.{PerformsDrafted}
use Rattle.fallowtime_commands.specs.declared.session.error.Reason.{Reason}
use Rattle.fallowtime_commands.specs.declared.session.error.Reason.TheVariants as reason

module _ (n : List ℕ) (id : Bson) (steps : Vec Steps Global) (told : Bool) where
  abbrev Q : Request
  Q = request.Alter id steps told

  abbrev plans : List Plan
  plans = plans_of steps

  -- no document is got
  pub alter_ungot : (draft : Draft) (docs after : List TableRow) (e : StoreError) → GetsDrafted n (view id) draft (Err e) docs after → PerformsDrafted n Q (Err (reason.Refused e)) draft draft docs after
  alter_ungot draft docs after e h = record {
    same = h.same;
    told = λ over a shown. inr (drafted draft docs, drafted draft docs, (a, shown, refl), (a, shown, refl), λ x s. let y = h.got over x s in inl (e, y.0, refl, y.1, y.2));
  }

  module _ (body : Vec ℕ Global) where
    -- what comes of the document of the body, among rows that show it
    alters_so : (v rows : List TableRow) (draft : Draft) (docs : List TableRow) (o : Result Answer StoreError) → v ≡ drafted draft docs → ((x : DocumentTable) → Represents v x → (b : DocumentTable) × Represents v b × Serves x (model.on n (model.get_raw (view id))) (model.bytes body.items) b)
        → ((d : Members) → IsKept d → body.items ≡ encode d → AltersOne n plans told d o v rows) → Alters n (view id) plans told o v rows
    alters_so v rows draft docs o is got one x s =
        let y = got x s in
        let w = got_document n (view id) body.items v x y.0 s y.2 in
        inr (w.0, y.0, v, w.2, y.1, one w.0 w.2.0 w.1)

    -- nothing becomes of it
    pub alter_unmade : (draft : Draft) (docs after : List TableRow) (why : Unmade) → ((d : Members) → IsKept d → body.items ≡ encode d → IsUnrenewedAt (Updates plans d) 0 why) → GetsDrafted n (view id) draft (Ok body) docs after → PerformsDrafted n Q (Err (reason_of why)) draft draft docs after
    alter_unmade draft docs after (unmade.Update i e) stops h = record {
      same = h.same;
      told = λ over a shown. inr (
        drafted draft docs,
        drafted draft docs,
        (a, shown, refl),
        (a, shown, refl),
        alters_so (drafted draft docs) (drafted draft docs) draft docs (Ok (answer.NotUpdated i e)) refl (h.got over) (λ d kept is. (stops d kept is, refl)),
      );
    }
    alter_unmade draft docs after (unmade.Store e) stops h = record {
      same = h.same;
      told = λ over a shown. inr (
        drafted draft docs,
        drafted draft docs,
        (a, shown, refl),
        (a, shown, refl),
        alters_so (drafted draft docs) (drafted draft docs) draft docs (Err e) refl (h.got over) (λ d kept is. inl (stops d kept is, refl)),
      );
    }

    -- what is to be made of it
    abbrev pub Makes : List Edit → Type 0
    Makes xs = (d : Members) → IsKept d → body.items ≡ encode d → IsAlteration n plans d xs

    by_answer : (d : Members) (change : Option Edit) (v rows : List TableRow) → Renews n (Updates plans d) d change → DoesAll (listed change) (Ok tt) v rows → AltersOne n plans told d (Ok (altered_by told (listed change))) v rows
    by_answer d change v rows renews does = by told change renews does
      where
        by : (b : Bool) (c : Option Edit) → Renews n (Updates plans d) d c → DoesAll (listed c) (Ok tt) v rows → AltersOne n plans b d (Ok (altered_by b (listed c))) v rows
        by false c renews does = (c, renews, refl, does)
        by true None renews does = (None, renews, refl, does)
        by true (Some x) renews does = (Some x, renews, refl, does)

    by_list : (d : Members) (xs : List Edit) (v rows : List TableRow) → IsAlteration n plans d xs → DoesAll xs (Ok tt) v rows → AltersOne n plans told d (Ok (altered_by told xs)) v rows
    by_list d xs v rows (change, renews, is) does =
        subst (λ ys. AltersOne n plans told d (Ok (altered_by told ys)) v rows) (sym is) (by_answer d change v rows renews (subst (λ ys. DoesAll ys (Ok tt) v rows) is does))

    -- its changes are in the draft
    pub alter_done : (xs : List Edit) (old new : Draft) (docs mid after : List TableRow) → Makes xs → GetsDrafted n (view id) old (Ok body) docs mid → EditsAll xs (Ok tt) old new mid after → PerformsDrafted n Q (Ok (altered_by told xs)) old new docs after
    alter_done xs old new docs mid after makes h edits =
        let k = subst (λ rows. EditsAll xs (Ok tt) old new rows after) h.same edits in
        record {
          same = k.same;
          told = λ over a shown.
              let t = k.told over a shown in (
                t.over,
                (
                  t.all.b,
                  t.all.shown,
                  (
                    drafted old docs,
                    drafted new docs,
                    (a, shown, refl),
                    (t.all.b, t.all.shown, refl),
                    alters_so (drafted old docs) (drafted new docs) old docs (Ok (altered_by told xs)) refl (h.got over)
                        (λ d kept was. by_list d xs (drafted old docs) (drafted new docs) (makes d kept was) (does_all xs old new docs after over k)),
                  ),
                ),
              );
        }

    -- one is refused
    pub alter_refused : (xs : List Edit) (r : ListRefusal) (old new : Draft) (docs mid after : List TableRow) → Makes xs → GetsDrafted n (view id) old (Ok body) docs mid → EditsAll xs (Err r) old new mid after → PerformsDrafted n Q (Err (reason.Refused r.error)) old new docs after
    alter_refused xs r old new docs mid after makes h edits =
        let k = subst (λ rows. EditsAll xs (Err r) old new rows after) h.same edits in
        record {
          same = k.same;
          told = λ over a shown. inr (
            drafted old docs,
            drafted old docs,
            (a, shown, refl),
            (a, shown, refl),
            alters_so (drafted old docs) (drafted old docs) old docs (Err r.error) refl (h.got over)
                (λ d kept was. let m = makes d kept was in inr (m.0, r, m.1, refl, subst (λ ys. DoesAll ys (Err r) (drafted old docs) (drafted old docs)) m.2 (does_none xs r old new docs after over k))),
          );
        }

    put_so : (xs : List Edit) (r : Result (Unit {0}) ListRefusal) (old new : Draft) (docs mid after : List TableRow) → Makes xs → GetsDrafted n (view id) old (Ok body) docs mid → EditsAll xs r old new mid after → PerformsDrafted n Q (answered_by (altered_by told xs) r) old new docs after
    put_so xs (Ok u) old new docs mid after = alter_done xs old new docs mid after
    put_so xs (Err r) old new docs mid after = alter_refused xs r old new docs mid after

    pub alter_put : (xs : List Edit) (x : Answer) (o : Result Answer Reason) (old new : Draft) (docs mid after : List TableRow) → x ≡ altered_by told xs → Makes xs → GetsDrafted n (view id) old (Ok body) docs mid → PutsAll xs x o old new mid after → PerformsDrafted n Q o old new docs after
    alter_put xs x o old new docs mid after same makes got (r, is, h) = subst (λ z. PerformsDrafted n Q z old new docs after) (sym (is ∙ ap (λ y. answered_by y r) same)) (put_so xs r old new docs mid after makes got h)
