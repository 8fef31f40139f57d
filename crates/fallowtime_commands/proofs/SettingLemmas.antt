-- A value that is set in a draft: the document is got there, and another one put in its place.
use Rattle.std.proofs.Common.{◌≡◌, ◌⊎◌, inl, inr, ℕ, List, None, Some, Ok, Err, Vec, Global, Bor, refl, sym, subst}
use Rattle.bson_base.specs.Value.{Members, Value, put}
use Rattle.bson_bytes.specs.Encode.{encode}
use Rattle.bson_model.specs.View.{view}
use Rattle.bson_model.specs.declared.bson.Bson.{Bson}
use Rattle.bson_store.specs.Drafted.{drafted}
use Rattle.bson_store.specs.declared.draft.Draft.{Draft}
use Rattle.store_model.specs.Reading.{Reading, ReadsBytes}
use Rattle.store_model.specs.Refusal.{refusal}
use Rattle.store_model.specs.State as model
use Rattle.store_model.specs.State.{IsFreeKey, IsKept, IsName, Reply, done, get_raw, in_bytes, on, refused, replace, set}
use Rattle.store_model.specs.Table.{DocumentTable, Serves}
use Rattle.store_model.specs.declared.error.ErrorKind.TheVariants as kind
use Rattle.store_model.specs.declared.error.StoreError.{StoreError}
use Rattle.store_table.specs.Rows.{TableRow}
use Rattle.bson_store.proofs.ServeLemmas.{stay, stays}
use Rattle.bson_store.specs.Drafting.{GetsDrafted}
use Rattle.bson_store.specs.Shown.{Represents}
use Rattle.bson_store.specs.Whole.{EditBy, EditsOne}
use Rattle.bson_store.specs.declared.edit.Edit.{Edit}
use Rattle.bson_store.specs.declared.edit.Edit.TheVariants as edit
use Rattle.fallowtime_commands.proofs.SetLemmas.{got_document}
use Rattle.fallowtime_commands.specs.Changing.{IsReplacement}
use Rattle.fallowtime_commands.specs.Setting.{Sets, SetsIn}
use Rattle.fallowtime_commands.specs.Storing.{IsFit}
use Rattle.fallowtime_commands.specs.declared.answer.Answer.TheVariants as answer
use Rattle.fallowtime_requests.specs.declared.request.Request.{Request}
use Rattle.fallowtime_requests.specs.declared.request.Request.TheVariants as request
use Rattle.fallowtime_commands.proofs.RequestLemmas.{lack_of, one_table, refused_served, request_stopped, unmade_stops}
use Rattle.fallowtime_commands.specs.Drafting.{DraftsRequest, IsUnmade}

module _ (n : List ℕ) (id : Bson) (key : Bor (List ℕ)) (value : Bson) where
  abbrev Q : Request
  Q = request.Set id key value

  abbrev k : List ℕ
  k = key.now

  abbrev v : Value
  v = view value

  sets_so : (docs rows : List TableRow) (a c : DocumentTable) (r : Reply) → Represents docs a → Represents rows c → SetsIn n (view id) k v r a c → Sets n (view id) k v r docs rows
  sets_so docs rows a c r shown there one x s = (c, there, subst (λ z. SetsIn n (view id) k v r z c) (one_table docs a x shown.each s.each shown.good s.good) one)

  -- the key can't be set
  pub set_bad : (draft : Draft) (docs : List TableRow) (e : StoreError) → (IsFreeKey k → ⊥) → ((IsName n → ⊥) × (e ≡ refusal kind.BadName)) ⊎ (IsName n × (e ≡ refusal kind.BadKey)) → DraftsRequest n Q (Err e) draft draft docs docs
  set_bad draft docs e bad why = request_stopped n Q draft docs e (inr (λ rows a s. (a, s, inl (bad, by a why))))
    where
      by : (a : DocumentTable) → ((IsName n → ⊥) × (e ≡ refusal kind.BadName)) ⊎ (IsName n × (e ≡ refusal kind.BadKey)) → Serves a (on n (set (view id) k (Some v))) (refused e.kind e.document) a
      by a (inl (none, is)) = subst (λ (x : StoreError). Serves a (on n (set (view id) k (Some v))) (refused x.kind x.document) a) (sym is) (None, (inr (none, (refl, refl)), stays a, tt))
      by a (inr (good, is)) = subst (λ (x : StoreError). Serves a (on n (set (view id) k (Some v))) (refused x.kind x.document) a) (sym is) (stay a n (set (view id) k (Some v)) (refused kind.BadKey None) good (inr (bad, (refl, refl))))

  -- no document is got
  pub set_ungot : (draft : Draft) (docs after : List TableRow) (e : StoreError) → GetsDrafted n (view id) draft (Err e) docs after → DraftsRequest n Q (Err e) draft draft docs after
  set_ungot draft docs after e h = record {
    same = h.same;
    told = λ over a shown. inr (drafted draft docs, drafted draft docs, (a, shown, refl), (a, shown, refl), λ x s. let y = h.got over x s in (y.0, y.1, inr (inl (tt, y.2))));
  }

  module _ (body : Vec ℕ Global) where
    -- what is to become of the document of the body
    abbrev pub Made : Edit → Type 0
    Made x = (d : Members) → IsKept d → body.items ≡ encode d → IsFit (put k v d) × IsReplacement n (put k v d) x

    -- a document that isn't kept
    pub set_unmade : (draft : Draft) (docs after : List TableRow) (e : StoreError) → ((d : Members) → IsKept d → body.items ≡ encode d → IsUnmade n (put k v d) e) → GetsDrafted n (view id) draft (Ok body) docs after → DraftsRequest n Q (Err e) draft draft docs after
    set_unmade draft docs after e why h = record {
      same = h.same;
      told = λ over a shown.
          let y = h.got over a shown in
          let w = got_document n (view id) body.items (drafted draft docs) a y.0 shown y.2 in
          elim (unmade_stops n (put k v w.0) e (why w.0 w.2.0 w.1)) [
            | inl lack ↦ inl lack
            | inr stops ↦ inr (
              drafted draft docs,
              drafted draft docs,
              (a, shown, refl),
              (a, shown, refl),
              sets_so (drafted draft docs) (drafted draft docs) a y.0 (refused e.kind e.document) shown y.1 (inr (inr (w.0, y.0, w.2, inl ((stops (drafted draft docs)).0, refl)))),
            )
          ];
    }

    module _ (x : Edit) (made : Made x) where
      by_edit : (docs rows : List TableRow) (a b c : DocumentTable) (r : Reply) → Represents docs a → Represents docs b → Represents rows c → Serves a (on n (get_raw (view id))) (model.bytes body.items) b → EditBy Serves x b r c → Sets n (view id) k v r docs rows
      by_edit docs rows a b c r shown seen there got one =
          let w = got_document n (view id) body.items docs a b shown got in
          let m = made w.0 w.2.0 w.1 in
          let z = replaced x (put k v w.0) m.1 one in
          sets_so docs rows a c r shown there (inr (inr (w.0, b, w.2, inr (m.0, z.0, z.1, z.2))))
        where
          replaced : (y : Edit) (d : Members) → IsReplacement n d y → EditBy Serves y b r c → (z : Reading) × ReadsBytes (encode d) z × Serves b (on n (replace in_bytes z)) r c
          replaced (edit.ReplaceRaw name bytes) d (named, is) (z, reads, served) = (z, subst (λ (bs : List ℕ). ReadsBytes bs z) is reads, subst (λ m. Serves b (on m (replace in_bytes z)) r c) named served)
          replaced (edit.InsertRaw name bytes) d it one = absurd it
          replaced (edit.PutRaw name bytes) d it one = absurd it
          replaced (edit.KeepRaw name bytes) d it one = absurd it
          replaced (edit.Remove name i) d it one = absurd it

      pub set_done : (old new : Draft) (docs mid after : List TableRow) → GetsDrafted n (view id) old (Ok body) docs mid → EditsOne x (Ok tt) old new mid after → DraftsRequest n Q (Ok answer.Nothing) old new docs after
      set_done old new docs mid after h edits =
          let one = subst (λ rows. EditsOne x (Ok tt) old new rows after) h.same edits in
          record {
            same = one.same;
            told = λ over a shown.
                let y = h.got over a shown in
                let it = one.done over in
                let g = it.goes y.0 y.1 in
                (it.over, (g.b, g.seen, (drafted old docs, g.rows, (a, shown, refl), (g.there, g.shown, g.same), by_edit (drafted old docs) g.rows a y.0 g.there done shown y.1 g.shown y.2 g.to)));
          }

      pub set_refused : (e : StoreError) (old new : Draft) (docs mid after : List TableRow) → GetsDrafted n (view id) old (Ok body) docs mid → EditsOne x (Err e) old new mid after → DraftsRequest n Q (Err e) old new docs after
      set_refused e old new docs mid after h edits =
          let one = subst (λ rows. EditsOne x (Err e) old new rows after) h.same edits in
          record {
            same = one.same;
            told = λ over a shown.
                let y = h.got over a shown in
                elim (one.refused over y.0 y.1) [
                  | inl told ↦ inr (drafted old docs, drafted old docs, (a, shown, refl), (a, shown, refl), by_edit (drafted old docs) (drafted old docs) a y.0 y.0 (refused e.kind e.document) shown y.1 y.1 y.2 (refused_served x y.0 e told))
                  | inr fault ↦ inl (lack_of e fault.0)
                ];
          }
