-- A request of a list, done in a draft.
use Rattle.std.specs.Prelude.{MatchResult}
use Rattle.std.proofs.Common.{◌≡◌, ◌⊎◌, inl, inr, ℕ, pos, List, [], ◌∷◌, None, Result, Ok, Err, Vec, Global, string_bytes, refl, sym, ap, ap₂, subst, ◌∙◌}
use Rattle.bson_base.specs.Value.{Members, Value}
use Rattle.bson_bytes.specs.Encode.{encode}
use Rattle.bson_model.specs.View.{content, view}
use Rattle.bson_model.specs.declared.bson.Bson.{Bson}
use Rattle.bson_model.specs.declared.document.Document.{Document}
use Rattle.bson_store.specs.Drafted.{IsOver, drafted}
use Rattle.bson_store.specs.declared.draft.Draft.{Draft}
use Rattle.store_model.proofs.RefusalLemmas.{refused_stays}
use Rattle.store_model.proofs.RestoreLemmas.{written_reads}
use Rattle.store_model.proofs.RowLemmas.{rows_not_empty}
use Rattle.store_model.specs.Reading.{ReadsBytes, readable}
use Rattle.store_model.specs.Refusal.{refusal}
use Rattle.store_model.specs.State.{Command, Reply, State, Step, IsKept, done, get_raw, in_bytes, insert, on, refused, remove, replace}
use Rattle.store_model.specs.Table.{AreRows, DocumentRow, DocumentTable, Serves, state_of}
use Rattle.store_model.specs.declared.error.ErrorKind.{ErrorKind}
use Rattle.store_model.specs.declared.error.ErrorKind.TheVariants as kind
use Rattle.store_model.specs.declared.error.StoreError.{StoreError}
use Rattle.store_table.specs.Rows.{TableRow}
use Rattle.store_table.specs.declared.fault.Fault.TheVariants as faults
use Rattle.bson_store.proofs.ServeLemmas.{stays}
use Rattle.bson_store.specs.Calls.{Does}
use Rattle.bson_store.specs.Drafting.{GetsDrafted, IsFault, PutBy}
use Rattle.bson_store.specs.Refusals.{as_bytes, reply_by}
use Rattle.bson_store.specs.Shown.{AreRowsOf, Represents}
use Rattle.bson_store.specs.Whole.{EditBy, EditsOne}
use Rattle.bson_store.specs.declared.edit.Edit.{Edit}
use Rattle.bson_store.specs.declared.edit.Edit.TheVariants as edit
use Rattle.fallowtime_commands.specs.Changing.{IsReplacement}
use Rattle.fallowtime_commands.specs.Performing.{Performs, reply_of}
use Rattle.fallowtime_commands.specs.Storing.{IsFit, IsStopped, Puts, PutsIn, Stores}
use Rattle.fallowtime_commands.specs.Transferring.{IsInsertion}
use Rattle.fallowtime_commands.specs.declared.answer.Answer.{Answer}
use Rattle.fallowtime_commands.specs.declared.answer.Answer.TheVariants as answer
use Rattle.fallowtime_requests.specs.declared.request.Request.{Request}
use Rattle.fallowtime_requests.specs.declared.request.Request.TheVariants as request
use Rattle.fallowtime_commands.proofs.ListDraftLemmas.{answer_as, drafts_lack, drafts_more, performs_by}
use Rattle.fallowtime_commands.specs.Drafting.{DraftsBy, DraftsRequest, Inserts, IsId, IsPut, IsRemovalOf, IsUnmade, nothing_by}
use Rattle.fallowtime_commands.specs.Listing.{IsLack, IsLacking, PerformsDrafted}
use Rattle.fallowtime_commands.specs.declared.session.error.Reason.{Reason}
use Rattle.fallowtime_commands.specs.declared.session.error.Reason.TheVariants as reason

-- ---- rows show one table

pub one_document : (d e : Members) → IsKept d → IsKept e → encode d ≡ encode e → d ≡ e
one_document d e kept others same =
    let is : readable d ≡ readable e = (written_reads e others (readable d)).0 (subst (λ b. ReadsBytes b (readable d)) same ((written_reads d kept (readable d)).1 refl)) in
    cc

one_row : (r q : DocumentRow) → r.place ≡ q.place → r.name ≡ q.name → r.document ≡ q.document → r ≡ q
one_row r q place name is = subst (λ p. r ≡ record { place = p; name = q.name; document = q.document }) place (subst (λ n. r ≡ record { place = r.place; name = n; document = q.document }) name (subst (λ d. r ≡ record { place = r.place; name = r.name; document = d }) is refl))

pub one_table : (docs : List TableRow) (a b : DocumentTable) → AreRowsOf a docs → AreRowsOf b docs → AreRows a → AreRows b → a ≡ b
one_table [] [] [] h k good other = refl
one_table [] [] (q ∷ b) h k good other = absurd k
one_table [] (r ∷ a) b h k good other = absurd h
one_table (d ∷ docs) [] b h k good other = absurd h
one_table (d ∷ docs) (r ∷ a) [] h k good other = absurd k
one_table (d ∷ docs) (r ∷ a) (q ∷ b) h k good other =
    let at : pos r.place ≡ pos q.place = sym h.0.place ∙ k.0.place in
    let place : r.place ≡ q.place = cc in
    let is = one_document r.document q.document good.1 other.1 (sym h.0.body ∙ k.0.body) in
    ap₂ (λ x xs. x ∷ xs) (one_row r q place (sym h.0.name ∙ k.0.name) is) (one_table docs a b h.1 k.1 good.3 other.3)

-- what is served of one table that rows show is served of each, as they show no other
pub does_so : (v rows : List TableRow) (a b : DocumentTable) (c : Command) (r : Reply) → Represents v a → Represents rows b → Serves a c r b → Does c r v rows
does_so v rows a b c r shown there served x s =
    let is : a ≡ x = one_table v a x shown.each s.each shown.good s.good in
    (b, there, subst (λ y. Serves y c r b) is served)

-- a step that is refused is served
served_so : (a : DocumentTable) (c : Command) (e : StoreError) → Step (state_of a) c (refused e.kind e.document) (state_of a) → Serves a c (refused e.kind e.document) a
served_so a c e step = (None, (step, stays a, tt))

still : (a : DocumentTable) (c : Command) (k : ErrorKind) (s : State) → Step (state_of a) c (refused k None) s → s ≡ state_of a
still a c k s step = refused_stays k None (state_of a) c s (rows_not_empty a) step

-- so is a change that is
pub refused_served : (x : Edit) (a : DocumentTable) (e : StoreError) → EditBy Step x (state_of a) (refused e.kind e.document) (state_of a) → EditBy Serves x a (refused e.kind e.document) a
refused_served (edit.InsertRaw name bytes) a e (y, reads, step) = (y, reads, served_so a (on (string_bytes name) (insert in_bytes y)) e step)
refused_served (edit.ReplaceRaw name bytes) a e (y, reads, step) = (y, reads, served_so a (on (string_bytes name) (replace in_bytes y)) e step)
refused_served (edit.PutRaw name bytes) a e (y, reads, inl (had, step)) = (y, reads, inl (had, served_so a (on (string_bytes name) (replace in_bytes y)) e step))
refused_served (edit.PutRaw name bytes) a e (y, reads, inr (m, none, step)) =
    let c = on (string_bytes name) (replace in_bytes y) in
    let same = still a c kind.NotFound m none in (
      y,
      reads,
      inr (
        a,
        (None, (subst (Step (state_of a) c (refused kind.NotFound None)) same none, stays a, tt)),
        served_so a (on (string_bytes name) (insert in_bytes y)) e (subst (λ s. Step s (on (string_bytes name) (insert in_bytes y)) (refused e.kind e.document) (state_of a)) same step),
      ),
    )
refused_served (edit.KeepRaw name bytes) a e (y, reads, inl (had, step)) = (y, reads, inl (had, served_so a (on (string_bytes name) (insert in_bytes y)) e step))
refused_served (edit.KeepRaw name bytes) a e (y, reads, inr (is, taken)) = absurd (cc)
refused_served (edit.Remove name id) a e step = served_so a (on (string_bytes name) (remove (view id))) e step

-- ---- a request

pub lack_of : (e : StoreError) → IsFault e → IsLack e.kind
lack_of e (faults.Memory, is) = subst (λ (x : StoreError). IsLack x.kind) (sym is) tt
lack_of e (faults.Database, is) = subst (λ (x : StoreError). IsLack x.kind) (sym is) tt
lack_of e (faults.Places, is) = subst (λ (x : StoreError). IsLack x.kind) (sym is) tt

-- what the request does to rows by this change of a table
abbrev pub DoesBy : (Reply → List TableRow → List TableRow → Type 0) → Edit → Type 0
DoesBy P x = (v rows : List TableRow) (a b : DocumentTable) (r : Reply) → Represents v a → Represents rows b → EditBy Serves x a r b → P r v rows

module _ (P : Reply → List TableRow → List TableRow → Type 0) (x : Edit) (does : DoesBy P x) (old new : Draft) (docs after : List TableRow) where
  -- its change is in the draft
  pub edit_done : (o : Answer) → reply_of (Ok o) ≡ done → EditsOne x (Ok tt) old new docs after → DraftsBy (λ z. P (reply_of z)) (Ok o) old new docs after
  edit_done o is h = record {
    same = h.same;
    told = λ over a shown.
        let it = h.done over in
        let g = it.goes a shown in
        (it.over, (g.b, g.seen, (g.rows, (g.there, g.shown, g.same), subst (λ r. P r (drafted old docs) g.rows) (sym is) (does (drafted old docs) g.rows a g.there done shown g.shown g.to))));
  }

  -- its change is refused
  pub edit_refused : (e : StoreError) → EditsOne x (Err e) old new docs after → DraftsBy (λ z. P (reply_of z)) (Err (reason.Refused e)) old new docs after
  edit_refused e h = record {
    same = h.same;
    told = λ over a shown. elim (h.refused over a shown) [
      | inl one ↦ inr (Err e, refl, does (drafted old docs) (drafted old docs) a a (refused e.kind e.document) shown shown (refused_served x a e one))
      | inr fault ↦ inl (lack_of e fault.0)
    ];
  }

module _ (n : List ℕ) (q : Request) (P : Reply → List TableRow → List TableRow → Type 0) (performs : (o : Result Answer StoreError) (v rows : List TableRow) → P (reply_of o) v rows → Performs n q o v rows) (x : Edit) (does : DoesBy P x) (old new : Draft) (docs after : List TableRow) where
  performed : (r : Result Answer Reason) → DraftsBy (λ z. P (reply_of z)) r old new docs after → PerformsDrafted n q r old new docs after
  performed r h = performs_by n q r old new docs after (drafts_more (λ z. P (reply_of z)) (Performs n q) old new docs docs after refl (λ over o rows one. performs o (drafted old docs) rows one) r h)

  pub request_done : (o : Answer) → reply_of (Ok o) ≡ done → EditsOne x (Ok tt) old new docs after → DraftsRequest n q (Ok o) old new docs after
  request_done o is h = performed (Ok o) (edit_done P x does old new docs after o is h)

  pub request_refused : (e : StoreError) → EditsOne x (Err e) old new docs after → DraftsRequest n q (Err e) old new docs after
  request_refused e h = performed (Err (reason.Refused e)) (edit_refused P x does old new docs after e h)

-- memory ran out behind it
pub request_lacks : (n : List ℕ) (q : Request) (e : StoreError) (old new : Draft) (docs after : List TableRow) → IsLack e.kind → after ≡ docs → DraftsRequest n q (Err e) old new docs after
request_lacks n q e old new docs after lack same = record { same = same; told = λ over a shown. inl lack }

-- it is refused before the draft is asked
pub request_stopped : (n : List ℕ) (q : Request) (draft : Draft) (docs : List TableRow) (e : StoreError) → IsLack e.kind ⊎ ((v : List TableRow) → Performs n q (Err e) v v) → DraftsRequest n q (Err e) draft draft docs docs
request_stopped n q draft docs e (inl lack) = record { same = refl; told = λ over a shown. inl lack }
request_stopped n q draft docs e (inr performs) = record { same = refl; told = λ over a shown. inr (drafted draft docs, drafted draft docs, (a, shown, refl), (a, shown, refl), performs (drafted draft docs)) }

-- ---- insertions

-- a document is refused before the store is asked, or memory ran out
pub unmade_stops : (n : List ℕ) (d : Members) (e : StoreError) → IsUnmade n d e → IsLack e.kind ⊎ ((v : List TableRow) → IsStopped n d (refused e.kind e.document) × (v ≡ v))
unmade_stops n d e (inl (k, why, is)) = inr (λ v. ((k, why, ap (λ (x : StoreError). refused x.kind x.document) is), refl))
unmade_stops n d e (inr is) = inl (subst (λ (x : StoreError). IsLack x.kind) (sym is) tt)

inserted_rows : (n : List ℕ) (d : Document) (x : Edit) → IsFit (content d) → IsInsertion n x (content d) → DoesBy (λ r v rows. Stores n (insert in_bytes) (content d) r v rows) x
inserted_rows n d (edit.InsertRaw name bytes) fit (named, is) v rows a b r shown there (y, reads, served) =
    inr (fit, (y, subst (λ (z : List ℕ). ReadsBytes z y) is reads, does_so v rows a b (on n (insert in_bytes y)) r shown there (subst (λ m. Serves a (on m (insert in_bytes y)) r b) named served)))
inserted_rows n d (edit.ReplaceRaw name bytes) fit it v rows a b r shown there served = absurd it
inserted_rows n d (edit.PutRaw name bytes) fit it v rows a b r shown there served = absurd it
inserted_rows n d (edit.KeepRaw name bytes) fit it v rows a b r shown there served = absurd it
inserted_rows n d (edit.Remove name i) fit it v rows a b r shown there served = absurd it

replaced_rows : (n : List ℕ) (d : Document) (x : Edit) → IsFit (content d) → IsReplacement n (content d) x → DoesBy (λ r v rows. Stores n (replace in_bytes) (content d) r v rows) x
replaced_rows n d (edit.ReplaceRaw name bytes) fit (named, is) v rows a b r shown there (y, reads, served) =
    inr (fit, (y, subst (λ (z : List ℕ). ReadsBytes z y) is reads, does_so v rows a b (on n (replace in_bytes y)) r shown there (subst (λ m. Serves a (on m (replace in_bytes y)) r b) named served)))
replaced_rows n d (edit.InsertRaw name bytes) fit it v rows a b r shown there served = absurd it
replaced_rows n d (edit.PutRaw name bytes) fit it v rows a b r shown there served = absurd it
replaced_rows n d (edit.KeepRaw name bytes) fit it v rows a b r shown there served = absurd it
replaced_rows n d (edit.Remove name i) fit it v rows a b r shown there served = absurd it

put_rows : (n : List ℕ) (d : Document) (x : Edit) → IsFit (content d) → IsPut n x (content d) → DoesBy (λ r v rows. Puts n (content d) r v rows) x
put_rows n d (edit.PutRaw name bytes) fit (named, is) v rows a b r shown there (y, reads, served) =
    let reads_so = subst (λ (z : List ℕ). ReadsBytes z y) is reads in
    let puts : PutBy Serves n y a r b = subst (λ m. PutBy Serves m y a r b) named served in
    inr (
      fit,
      λ z s. (
        b,
        there,
        subst (λ t. PutsIn n (encode (content d)) r t b) (one_table v a z shown.each s.each shown.good s.good) (elim puts [
          | inl one ↦ inl (one.0, (y, reads_so, one.1))
          | inr two ↦ inr (two.0, (None, y, reads_so, two.1), (y, reads_so, two.2))
        ]),
      ),
    )
put_rows n d (edit.InsertRaw name bytes) fit it v rows a b r shown there served = absurd it
put_rows n d (edit.ReplaceRaw name bytes) fit it v rows a b r shown there served = absurd it
put_rows n d (edit.KeepRaw name bytes) fit it v rows a b r shown there served = absurd it
put_rows n d (edit.Remove name i) fit it v rows a b r shown there served = absurd it

removed_rows : (n : List ℕ) (id : Value) (x : Edit) → IsRemovalOf n x id → DoesBy (λ r v rows. Does (on n (remove id)) r v rows) x
removed_rows n id (edit.Remove name i) (named, is) v rows a b r shown there served =
    does_so v rows a b (on n (remove id)) r shown there (subst (λ m. Serves a (on m (remove id)) r b) named (subst (λ (w : Value). Serves a (on (string_bytes name) (remove w)) r b) is served))
removed_rows n id (edit.InsertRaw name bytes) it v rows a b r shown there served = absurd it
removed_rows n id (edit.ReplaceRaw name bytes) it v rows a b r shown there served = absurd it
removed_rows n id (edit.PutRaw name bytes) it v rows a b r shown there served = absurd it
removed_rows n id (edit.KeepRaw name bytes) it v rows a b r shown there served = absurd it

module _ (n : List ℕ) (d : Document) (x : Edit) (fit : IsFit (content d)) (old new : Draft) (docs after : List TableRow) where
  pub put_in : (r : Result (Unit {0}) StoreError) → IsInsertion n x (content d) → EditsOne x r old new docs after → DraftsBy (Inserts n (content d)) (nothing_by r) old new docs after
  put_in (Ok u) is h = edit_done (Stores n (insert in_bytes) (content d)) x (inserted_rows n d x fit is) old new docs after answer.Nothing refl h
  put_in (Err e) is h = edit_refused (Stores n (insert in_bytes) (content d)) x (inserted_rows n d x fit is) old new docs after e h

  module _ (is : IsReplacement n (content d) x) where
    pub replace_done : EditsOne x (Ok tt) old new docs after → DraftsRequest n (request.Replace d) (Ok answer.Nothing) old new docs after
    replace_done = request_done n (request.Replace d) (Stores n (replace in_bytes) (content d)) (λ o v rows h. h) x (replaced_rows n d x fit is) old new docs after answer.Nothing refl

    pub replace_refused : (e : StoreError) → EditsOne x (Err e) old new docs after → DraftsRequest n (request.Replace d) (Err e) old new docs after
    replace_refused = request_refused n (request.Replace d) (Stores n (replace in_bytes) (content d)) (λ o v rows h. h) x (replaced_rows n d x fit is) old new docs after

  module _ (is : IsPut n x (content d)) where
    pub put_done : EditsOne x (Ok tt) old new docs after → DraftsRequest n (request.Put d) (Ok answer.Nothing) old new docs after
    put_done = request_done n (request.Put d) (Puts n (content d)) (λ o v rows h. h) x (put_rows n d x fit is) old new docs after answer.Nothing refl

    pub put_refused : (e : StoreError) → EditsOne x (Err e) old new docs after → DraftsRequest n (request.Put d) (Err e) old new docs after
    put_refused = request_refused n (request.Put d) (Puts n (content d)) (λ o v rows h. h) x (put_rows n d x fit is) old new docs after

module _ (n : List ℕ) (id : Bson) (x : Edit) (is : IsRemovalOf n x (view id)) (old new : Draft) (docs after : List TableRow) where
  pub remove_done : EditsOne x (Ok tt) old new docs after → DraftsRequest n (request.Remove id) (Ok answer.Nothing) old new docs after
  remove_done = request_done n (request.Remove id) (Does (on n (remove (view id)))) (λ o v rows h. h) x (removed_rows n (view id) x is) old new docs after answer.Nothing refl

  pub remove_refused : (e : StoreError) → EditsOne x (Err e) old new docs after → DraftsRequest n (request.Remove id) (Err e) old new docs after
  remove_refused = request_refused n (request.Remove id) (Does (on n (remove (view id)))) (λ o v rows h. h) x (removed_rows n (view id) x is) old new docs after

-- ---- a document that isn't kept

module _ (n : List ℕ) (d : Document) (draft : Draft) (docs : List TableRow) (e : StoreError) (why : IsUnmade n (content d) e) where
  stopped : (q : Request) → ((v : List TableRow) → IsStopped n (content d) (refused e.kind e.document) × (v ≡ v) → Performs n q (Err e) v v) → DraftsRequest n q (Err e) draft draft docs docs
  stopped q performs = request_stopped n q draft docs e (elim (unmade_stops n (content d) e why) [ inl lack ↦ inl lack | inr stops ↦ inr (λ v. performs v (stops v)) ])

  pub insert_unmade : DraftsBy (Inserts n (content d)) (Err (reason.Refused e)) draft draft docs docs
  insert_unmade = record {
    same = refl;
    told = λ over a shown. elim (unmade_stops n (content d) e why) [ inl lack ↦ inl lack | inr stops ↦ inr (Err e, refl, inl (stops (drafted draft docs))) ];
  }

  pub replace_unmade : DraftsRequest n (request.Replace d) (Err e) draft draft docs docs
  replace_unmade = stopped (request.Replace d) (λ v h. inl h)

  pub put_unmade : DraftsRequest n (request.Put d) (Err e) draft draft docs docs
  put_unmade = stopped (request.Put d) (λ v h. inl h)

-- memory ran out
pub out_of_memory : (n : List ℕ) (q : Request) (e : StoreError) (old new : Draft) (docs after : List TableRow) → e ≡ refusal kind.Memory → after ≡ docs → DraftsRequest n q (Err e) old new docs after
out_of_memory n q e old new docs after is = request_lacks n q e old new docs after (subst (λ (x : StoreError). IsLack x.kind) (sym is) tt)

-- what went in is answered, or memory ran out for that
pub in_answered : (n : List ℕ) (e : Members) (r : Result Answer Reason) (old new : Draft) (docs after : List TableRow) → MatchResult r (λ a. reply_of (Ok a) ≡ done) IsLacking → DraftsBy (Inserts n e) (Ok answer.Nothing) old new docs after → DraftsBy (Inserts n e) r old new docs after
in_answered n e (Ok a) old new docs after is h = answer_as (Inserts n e) answer.Nothing a old new docs after (λ v rows one. subst (λ r. Stores n (insert in_bytes) e r v rows) (sym is) one) h
in_answered n e (Err why) old new docs after lack h = drafts_lack (Inserts n e) why old new docs after lack h.same

module _ (n : List ℕ) (id : Bson) (d : Document) (old new : Draft) (docs after : List TableRow) where
  pub insert_refused : (e : StoreError) → DraftsBy (Inserts n (content d)) (Err (reason.Refused e)) old new docs after → DraftsRequest n (request.Insert id d) (Err e) old new docs after
  insert_refused e h = performs_by n (request.Insert id d) (Err (reason.Refused e)) old new docs after h

  id_done : (a : Answer) → IsId (view id) a → reply_of (Ok a) ≡ done
  id_done a own = ap (λ y. reply_of (Ok y)) own.1

  pub insert_answered : (r : Result Answer StoreError) → MatchResult r (IsId (view id)) (λ e. e ≡ refusal kind.Memory) → DraftsBy (Inserts n (content d)) (Ok answer.Nothing) old new docs after → DraftsRequest n (request.Insert id d) r old new docs after
  insert_answered (Ok a) own h = performs_by n (request.Insert id d) (Ok a) old new docs after (in_answered n (content d) (Ok a) old new docs after (id_done a own) h)
  insert_answered (Err e) is h = out_of_memory n (request.Insert id d) e old new docs after is h.same

-- ---- a document that is got

pub got_drafted : (n : List ℕ) (id : Bson) (draft : Draft) (r : Result (Vec ℕ Global) StoreError) (o : Result Answer StoreError) (docs after : List TableRow) → reply_of o ≡ reply_by as_bytes r → GetsDrafted n (view id) draft r docs after → DraftsRequest n (request.Get id) o draft draft docs after
got_drafted n id draft r o docs after is h = by o (λ over. subst (λ q. Does (on n (get_raw (view id))) q (drafted draft docs) (drafted draft docs)) (sym is) (h.got over))
  where
    by : (o : Result Answer StoreError) → (IsOver draft docs → Does (on n (get_raw (view id))) (reply_of o) (drafted draft docs) (drafted draft docs)) → DraftsRequest n (request.Get id) o draft draft docs after
    by (Ok x) does = record { same = h.same; told = λ over a shown. (over, (a, shown, (drafted draft docs, drafted draft docs, (a, shown, refl), (a, shown, refl), does over))) }
    by (Err e) does = record { same = h.same; told = λ over a shown. inr (drafted draft docs, drafted draft docs, (a, shown, refl), (a, shown, refl), does over) }
