-- A key that is taken out in a draft: the document is got there, and one without the key put in its place.
use Rattle.std.proofs.Common.{◌≡◌, ◌≢◌, ◌⊎◌, inl, inr, ℕ, List, [], ◌∷◌, ◌++◌, Bool, true, false, cond, is_some, Option, None, Some, Ok, Err, Vec, Global, Bor, string_bytes, refl, sym, ap, ap₂, subst, ◌∙◌, arith}
use Rattle.std.specs.Prelude.{IsSomeAnd, MatchOption, bytes_eq}
use Rattle.bson_base.proofs.MemberLemmas.{equal_keys, lacks, look_up-without, without_absent}
use Rattle.bson_base.specs.Kinds.{IsSound}
use Rattle.bson_base.specs.Value.{Members, Value, has_key, look_up, without}
use Rattle.bson_bytes.specs.Encode.{encode, size}
use Rattle.bson_frame.specs.Frame.{size_limit}
use Rattle.bson_meaning.proofs.NowLemmas.{same_back, same_itself, same_on}
use Rattle.bson_meaning.specs.Meaning.{Same}
use Rattle.bson_model.specs.View.{view}
use Rattle.bson_model.specs.declared.bson.Bson.{Bson}
use Rattle.bson_store.specs.Drafted.{drafted}
use Rattle.bson_store.specs.declared.draft.Draft.{Draft}
use Rattle.store_model.proofs.IdLemmas.{own_of}
use Rattle.store_model.proofs.KeptLemmas.{without_size}
use Rattle.store_model.proofs.KeyLemmas.{rows_are_a_state}
use Rattle.store_model.proofs.LevelLemmas.{read_without}
use Rattle.store_model.proofs.RestoreLemmas.{written_reads}
use Rattle.store_model.specs.Reading.{Documents, ReadsBytes, readable}
use Rattle.store_model.specs.Refusal.{refusal}
use Rattle.store_model.specs.State as model
use Rattle.store_model.specs.State.{Answers, AreKept, AtId, HasId, HaveOwnIds, IsFreeKey, IsKept, IsName, IsTaken, NoneHasId, Refuses, Reply, SomeHasId, StandsAt, State, Step, done, flag, get_raw, id_key, in_bytes, list_of, on, refused, refusal_of, replace, unset}
use Rattle.store_model.specs.Table.{DocumentTable, Serves, state_of}
use Rattle.store_model.specs.declared.error.ErrorKind.{ErrorKind}
use Rattle.store_model.specs.declared.error.ErrorKind.TheVariants as kind
use Rattle.store_model.specs.declared.error.StoreError.{StoreError}
use Rattle.store_table.specs.Rows.{TableRow}
use Rattle.std.proofs.lemmas.Bool.{le-ltb}
use Rattle.store_model.proofs.RowLemmas.{rows_not_empty}
use Rattle.store_model.proofs.StateLemmas.{stored_again}
use Rattle.bson_store.proofs.CrashLemmas.{step_of}
use Rattle.bson_store.proofs.EditLemmas.{denied_is}
use Rattle.bson_store.proofs.ServeLemmas.{stay, stays}
use Rattle.bson_store.specs.Drafting.{GetsDrafted}
use Rattle.bson_store.specs.Shown.{Represents}
use Rattle.bson_store.specs.Whole.{EditBy, EditsOne}
use Rattle.bson_store.specs.declared.edit.Edit.{Edit}
use Rattle.bson_store.specs.declared.edit.Edit.TheVariants as edit
use Rattle.fallowtime_commands.proofs.SetLemmas.{got_document}
use Rattle.fallowtime_commands.specs.Changing.{IsReplacement}
use Rattle.fallowtime_commands.specs.Setting.{Gets}
use Rattle.fallowtime_commands.specs.declared.answer.Answer.TheVariants as answer
use Rattle.fallowtime_requests.specs.declared.request.Request.{Request}
use Rattle.fallowtime_requests.specs.declared.request.Request.TheVariants as request
use Rattle.fallowtime_commands.proofs.RequestLemmas.{does_so, lack_of, one_document, request_stopped}
use Rattle.fallowtime_commands.specs.Drafting.{DraftsRequest}
use Rattle.fallowtime_commands.specs.Listing.{IsLack}

-- ---- one position has an id

kept_at : (front : Documents) (d : Members) (back : Documents) → AreKept (front ++ d ∷ back) → IsKept d
kept_at [] d back h = h.0
kept_at (c ∷ front) d back h = kept_at front d back h.1

some_at : (id : Value) (front : Documents) (d : Members) (back : Documents) → HasId id d → SomeHasId id (front ++ d ∷ back)
some_at id [] d back h = inl h
some_at id (c ∷ front) d back h = inr (some_at id front d back h)

-- a document that has the id has each that means the same
has_other : (own other : Value) (d : Members) → IsKept d → Same own other → HasId own d → HasId other d
has_other own other d kept same = by (look_up id_key d) refl
  where
    by : (o : Option Value) → look_up id_key d ≡ o → IsSomeAnd o (λ v. Same v own) → IsSomeAnd o (λ v. Same v other)
    by None none h = absurd h
    by (Some v) is h = same_on v own other (own_of d v kept is).sound h same

taken_by : (own : Value) (old d : Members) (front back : Documents) → IsSound own → IsKept d → HasId own old → HasId own d → IsTaken old (front ++ d ∷ back)
taken_by own old d front back sound kept has here = by (look_up id_key old) has
  where
    by : (o : Option Value) → IsSomeAnd o (λ v. Same v own) → IsSomeAnd o (λ v. SomeHasId v (front ++ d ∷ back))
    by None h = absurd h
    by (Some v) h = some_at v front d back (has_other own v d kept (same_back v own sound h) here)

one_position : (own : Value) (front : Documents) (old : Members) (back other : Documents) (d : Members) (rest : Documents) → IsSound own → AreKept (other ++ d ∷ rest) → HaveOwnIds (front ++ old ∷ back) → front ++ old ∷ back ≡ other ++ d ∷ rest → HasId own old → HasId own d → NoneHasId own front
    → (front ≡ other) × (old ≡ d) × (back ≡ rest)
one_position own [] old back [] d rest sound kept alone is has here none = (refl, (cc), (cc))
one_position own [] old back (c ∷ other) d rest sound kept alone is has here none =
    let left : back ≡ other ++ d ∷ rest = cc in
    absurd (alone.0 (subst (IsTaken old) (sym left) (taken_by own old d other rest sound (kept_at other d rest kept.1) has here)))
one_position own (c ∷ front) old back [] d rest sound kept alone is has here none = let same : c ≡ d = cc in absurd (none.0 (subst (HasId own) (sym same) here))
one_position own (c ∷ front) old back (e ∷ other) d rest sound kept alone is has here none =
    let same : c ≡ e = cc in
    let left : front ++ old ∷ back ≡ other ++ d ∷ rest = cc in
    let r = one_position own front old back other d rest sound kept.1 alone.1 left has here none.1 in
    (ap₂ (λ x xs. x ∷ xs) same r.0, r.1, r.2)

-- ---- the document without the key

own_stays : (k : List ℕ) (d : Members) → k ≢ id_key → look_up id_key (without k d) ≡ look_up id_key d
own_stays k d other = look_up-without id_key k d ∙ by (bytes_eq id_key k) refl
  where
    by : (b : Bool) → bytes_eq id_key k ≡ b → cond b None (look_up id_key d) ≡ look_up id_key d
    by true is = absurd (other (sym (equal_keys id_key k is)))
    by false is = refl

still_kept : (k : List ℕ) (d : Members) → k ≢ id_key → IsKept d → IsKept (without k d)
still_kept k d other kept = record {
  read = read_without k d kept.read;
  identified = ap is_some (own_stays k d other) ∙ kept.identified;
  small = omega (arith, kept.small, without_size k d);
}

-- what was got of the document with the id
module _ (n : List ℕ) (id : Value) (k : List ℕ) (docs : List TableRow) (a b : DocumentTable) (d : Members) (shown : Represents docs a) (free : IsFreeKey k) (gets : Gets n id a d b) where
  abbrev ds : Documents
  ds = list_of (state_of a) n

  found : IsName n × ((front : Documents) × (back : Documents) × StandsAt id ds front d back)
  found = by (step_of a (on n (get_raw id)) (model.bytes (encode d)) b (λ e. e) gets.1)
    where
      at : (es : Documents) → Answers (get_raw id) ds (model.bytes (encode d)) es → (front : Documents) × (back : Documents) × StandsAt id ds front d back
      at es (inl (front, e, back, stands, (is, left))) =
          let kept : AreKept (front ++ e ∷ back) = subst AreKept stands.split ((rows_are_a_state a shown.good).kept n) in
          let bytes : encode d ≡ encode e = cc in
          let same : d ≡ e = one_document d e gets.0 (kept_at front e back kept) bytes in
          (front, back, subst (λ (x : Members). StandsAt id ds front x back) (sym same) stands)
      at es (inr (none, (is, left))) = absurd (cc)

      by : Step (state_of a) (on n (get_raw id)) (model.bytes (encode d)) (state_of b) → IsName n × ((front : Documents) × (back : Documents) × StandsAt id ds front d back)
      by (inl (good, (es, answers, is))) = (good, at es answers)
      by (inr (bad, (is, left))) = absurd (cc)

  -- it stays as it is
  pub unset_none : has_key k d ≡ false → IsName n × Answers (unset id k) ds (flag false) ds
  unset_none none =
      let f = found in
      (f.0, inl (free, inl (f.1.0, d, f.1.1, f.1.2, (ap flag (sym none), f.1.2.split ∙ ap (λ e. f.1.0 ++ e ∷ f.1.1) (sym (without_absent k d (lacks k d none)))))))

  -- another one takes its place
  pub unset_one : (c : DocumentTable) (x : Edit) → has_key k d ≡ true → IsReplacement n (without k d) x → EditBy Serves x a done c → Serves a (on n (unset id k)) (flag true) c
  unset_one c (edit.ReplaceRaw name bytes) there (named, is) (y, reads, served) =
      let e = without k d in
      let same : y ≡ readable e = (written_reads e (still_kept k d free.0 gets.0) y).0 (subst (λ (bs : List ℕ). ReadsBytes bs y) is reads) in
      let now : Serves a (on n (replace in_bytes (readable e))) done c = subst (λ m. Serves a (on m (replace in_bytes (readable e))) done c) named (subst (λ z. Serves a (on (string_bytes name) (replace in_bytes z)) done c) same served) in
      (None, (steps (step_of a (on n (replace in_bytes (readable e))) done c (λ r. r) now), now.1.1, tt))
    where
      placed : (es : Documents) → Answers (replace in_bytes (readable (without k d))) ds done es → (own : Value) × (look_up id_key (without k d) ≡ Some own) × ((front : Documents) × (old : Members) × (back : Documents) × StandsAt own ds front old back × (es ≡ front ++ without k d ∷ back))
      placed es = at (refusal_of (without k d))
        where
          in_place : (own : Value) → AtId own ds (λ front old back. (done ≡ done) × (es ≡ front ++ without k d ∷ back)) (Refuses kind.NotFound ds done es) → (front : Documents) × (old : Members) × (back : Documents) × StandsAt own ds front old back × (es ≡ front ++ without k d ∷ back)
          in_place own (inl (front, old, back, stands, (accepts, left))) = (front, old, back, stands, left)
          in_place own (inr (none, (refuses, left))) = absurd (cc)

          of_id : (o : Option Value) → look_up id_key (without k d) ≡ o → IsSomeAnd o (λ own. AtId own ds (λ front old back. (done ≡ done) × (es ≡ front ++ without k d ∷ back)) (Refuses kind.NotFound ds done es))
              → (own : Value) × (look_up id_key (without k d) ≡ Some own) × ((front : Documents) × (old : Members) × (back : Documents) × StandsAt own ds front old back × (es ≡ front ++ without k d ∷ back))
          of_id None none h = absurd h
          of_id (Some own) so h = (own, so, in_place own h)

          at : (o : Option ErrorKind) → MatchOption o (IsSomeAnd (look_up id_key (without k d)) (λ own. AtId own ds (λ front old back. (done ≡ done) × (es ≡ front ++ without k d ∷ back)) (Refuses kind.NotFound ds done es))) (λ r. Refuses r ds done es)
              → (own : Value) × (look_up id_key (without k d) ≡ Some own) × ((front : Documents) × (old : Members) × (back : Documents) × StandsAt own ds front old back × (es ≡ front ++ without k d ∷ back))
          at None h = of_id (look_up id_key (without k d)) refl h
          at (Some r) (refuses, left) = absurd (cc)

      steps : Step (state_of a) (on n (replace in_bytes (readable (without k d)))) done (state_of c) → Step (state_of a) (on n (unset id k)) (flag true) (state_of c)
      steps (inr (bad, (refuses, left))) = absurd (cc)
      steps (inl (good, (es, answers, stored))) =
          let p = placed es answers in
          let f = found in
          let lists = rows_are_a_state a shown.good in
          let own_is : look_up id_key d ≡ Some p.0 = sym (own_stays k d free.0) ∙ p.1 in
          let own = own_of d p.0 gets.0 own_is in
          let kept = subst AreKept f.1.2.split (lists.kept n) in
          let here : HasId p.0 d = subst (λ o. IsSomeAnd o (λ v. Same v p.0)) (sym own_is) (same_itself p.0 own.sound) in
          let one = one_position p.0 p.2.0 p.2.1 p.2.2 f.1.0 d f.1.1 own.sound kept (subst HaveOwnIds p.2.3.split (lists.own_ids n)) (sym p.2.3.split ∙ f.1.2.split) p.2.3.has here p.2.3.before in
          inl (
            good,
            (es, inl (free, inl (f.1.0, d, f.1.1, f.1.2, (ap flag (sym there), p.2.4 ∙ ap₂ (λ x y. x ++ without k d ∷ y) one.0 one.2))), stored),
          )
  unset_one c (edit.InsertRaw name bytes) there it one = absurd it
  unset_one c (edit.PutRaw name bytes) there it one = absurd it
  unset_one c (edit.KeepRaw name bytes) there it one = absurd it
  unset_one c (edit.Remove name i) there it one = absurd it

  some_there : (own : Value) (front : Documents) (back : Documents) → HasId own d → NoneHasId own (front ++ d ∷ back) → ⊥
  some_there own [] back here none = none.0 here
  some_there own (c ∷ front) back here none = some_there own front back here none.1

  -- its replacement isn't refused
  pub not_refused : (x : Edit) (e : StoreError) → IsReplacement n (without k d) x → EditBy Step x (state_of a) (refused e.kind e.document) (state_of a) → ⊥
  not_refused (edit.ReplaceRaw name bytes) e (named, is) (y, reads, step) =
      let same : y ≡ readable (without k d) = (written_reads (without k d) (still_kept k d free.0 gets.0) y).0 (subst (λ (bs : List ℕ). ReadsBytes bs y) is reads) in
      by (subst (λ m. Step (state_of a) (on m (replace in_bytes (readable (without k d)))) (refused e.kind e.document) (state_of a)) named (subst (λ z. Step (state_of a) (on (string_bytes name) (replace in_bytes z)) (refused e.kind e.document) (state_of a)) same step))
    where
      kept : IsKept (without k d)
      kept = still_kept k d free.0 gets.0

      in_place : (own : Value) (es : Documents) → look_up id_key d ≡ Some own → AtId own ds (λ front old back. (refused e.kind e.document ≡ done) × (es ≡ front ++ without k d ∷ back)) (Refuses kind.NotFound ds (refused e.kind e.document) es) → ⊥
      in_place own es so (inl (front, old, back, stands, (accepts, left))) = cc
      in_place own es so (inr (none, refuses)) =
          let f = found in
          let here : HasId own d = subst (λ o. IsSomeAnd o (λ v. Same v own)) (sym so) (same_itself own (own_of d own gets.0 so).sound) in
          some_there own f.1.0 f.1.1 here (subst (NoneHasId own) f.1.2.split none)

      of_id : (es : Documents) (o : Option Value) → look_up id_key (without k d) ≡ o → IsSomeAnd o (λ own. AtId own ds (λ front old back. (refused e.kind e.document ≡ done) × (es ≡ front ++ without k d ∷ back)) (Refuses kind.NotFound ds (refused e.kind e.document) es)) → ⊥
      of_id es None none h = h
      of_id es (Some own) so h = in_place own es (sym (own_stays k d free.0) ∙ so) h

      at : (es : Documents) → Answers (replace in_bytes (readable (without k d))) ds (refused e.kind e.document) es → ⊥
      at es = rw (kept.identified, le-ltb size_limit (size (without k d)) kept.small) (λ h. of_id es (look_up id_key (without k d)) refl h)

      by : Step (state_of a) (on n (replace in_bytes (readable (without k d)))) (refused e.kind e.document) (state_of a) → ⊥
      by (inl (good, (es, answers, stored))) = at es answers
      by (inr (bad, refuses)) = bad found.0
  not_refused (edit.InsertRaw name bytes) e it one = absurd it
  not_refused (edit.PutRaw name bytes) e it one = absurd it
  not_refused (edit.KeepRaw name bytes) e it one = absurd it
  not_refused (edit.Remove name i) e it one = absurd it

-- ---- the request

module _ (n : List ℕ) (id : Bson) (key : Bor (List ℕ)) where
  abbrev Q : Request
  Q = request.Unset id key

  abbrev k : List ℕ
  k = key.now

  -- the key can't be taken out
  pub unset_bad : (draft : Draft) (docs : List TableRow) (e : StoreError) → (IsFreeKey k → ⊥) → ((IsName n → ⊥) × (e ≡ refusal kind.BadName)) ⊎ (IsName n × (e ≡ refusal kind.BadKey)) → DraftsRequest n Q (Err e) draft draft docs docs
  unset_bad draft docs e bad why = request_stopped n Q draft docs e (inr (λ rows a s. (a, s, by a why)))
    where
      by : (a : DocumentTable) → ((IsName n → ⊥) × (e ≡ refusal kind.BadName)) ⊎ (IsName n × (e ≡ refusal kind.BadKey)) → Serves a (on n (unset (view id) k)) (refused e.kind e.document) a
      by a (inl (none, is)) = subst (λ (x : StoreError). Serves a (on n (unset (view id) k)) (refused x.kind x.document) a) (sym is) (None, (inr (none, (refl, refl)), stays a, tt))
      by a (inr (good, is)) = subst (λ (x : StoreError). Serves a (on n (unset (view id) k)) (refused x.kind x.document) a) (sym is) (stay a n (unset (view id) k) (refused kind.BadKey None) good (inr (bad, (refl, refl))))

  -- memory ran out for the document without it
  pub unset_unmade : (body : Vec ℕ Global) (draft : Draft) (docs after : List TableRow) (e : StoreError) → ((d : Members) → IsKept d → body.items ≡ encode d → e ≡ refusal kind.Memory) → GetsDrafted n (view id) draft (Ok body) docs after → DraftsRequest n Q (Err e) draft draft docs after
  unset_unmade body draft docs after e why h = record {
    same = h.same;
    told = λ over a shown.
        let y = h.got over a shown in
        let w = got_document n (view id) body.items (drafted draft docs) a y.0 shown y.2 in
        inl (subst (λ (x : StoreError). IsLack x.kind) (sym (why w.0 w.2.0 w.1)) tt);
  }

  module _ (free : IsFreeKey k) where
    -- no document is got
    ungot : (a b : DocumentTable) (e : StoreError) → Serves a (on n (get_raw (view id))) (refused e.kind e.document) b → IsLack e.kind ⊎ Serves a (on n (unset (view id) k)) (refused e.kind e.document) b
    ungot a b e (None, (inl (good, (es, inr (none, refuses), is)), follows, may)) = inr (None, (inl (good, (es, inl (free, inr (none, refuses)), is)), follows, tt))
    ungot a b e (None, (inl (good, (es, inl (front, d, back, stands, (is, left)), stored)), follows, may)) = absurd (cc)
    ungot a b e (None, (inr bad, follows, may)) = inr (None, (inr bad, follows, tt))
    ungot a b e (Some x, (turn, follows, may)) = inl (lack_of e (denied_is x e turn.0))

    pub unset_ungot : (draft : Draft) (docs after : List TableRow) (e : StoreError) → GetsDrafted n (view id) draft (Err e) docs after → DraftsRequest n Q (Err e) draft draft docs after
    unset_ungot draft docs after e h = record {
      same = h.same;
      told = λ over a shown.
          let y = h.got over a shown in
          elim (ungot a y.0 e y.2) [
            | inl lack ↦ inl lack
            | inr served ↦ inr (drafted draft docs, drafted draft docs, (a, shown, refl), (a, shown, refl), does_so (drafted draft docs) (drafted draft docs) a y.0 (on n (unset (view id) k)) (refused e.kind e.document) shown y.1 served)
          ];
    }

    module _ (body : Vec ℕ Global) where
      -- the document stays as it is
      pub unset_stays : (draft : Draft) (docs after : List TableRow) → ((d : Members) → IsKept d → body.items ≡ encode d → has_key k d ≡ false) → GetsDrafted n (view id) draft (Ok body) docs after → DraftsRequest n Q (Ok (answer.Flag false)) draft draft docs after
      unset_stays draft docs after none h = record {
        same = h.same;
        told = λ over a shown.
            let v = drafted draft docs in
            let y = h.got over a shown in
            let w = got_document n (view id) body.items v a y.0 shown y.2 in
            let u = unset_none n (view id) k v a y.0 w.0 shown free w.2 (none w.0 w.2.0 w.1) in
            let served : Serves a (on n (unset (view id) k)) (flag false) a = (None, (inl (u.0, (list_of (state_of a) n, u.1, sym (stored_again (state_of a) n (rows_not_empty a)))), stays a, tt)) in
            (over, (a, shown, (v, v, (a, shown, refl), (a, shown, refl), does_so v v a a (on n (unset (view id) k)) (flag false) shown shown served)));
      }

      -- another one is in its place
      pub unset_done : (x : Edit) → ((d : Members) → IsKept d → body.items ≡ encode d → (has_key k d ≡ true) × IsReplacement n (without k d) x) → (old new : Draft) (docs mid after : List TableRow) → GetsDrafted n (view id) old (Ok body) docs mid → EditsOne x (Ok tt) old new mid after → DraftsRequest n Q (Ok (answer.Flag true)) old new docs after
      unset_done x made old new docs mid after h edits =
          let one = subst (λ rows. EditsOne x (Ok tt) old new rows after) h.same edits in
          let v = drafted old docs in
          record {
            same = one.same;
            told = λ over a shown.
                let y = h.got over a shown in
                let w = got_document n (view id) body.items v a y.0 shown y.2 in
                let m = made w.0 w.2.0 w.1 in
                let it = one.done over in
                let g = it.goes a shown in
                let served = unset_one n (view id) k v a y.0 w.0 shown free w.2 g.there x m.0 m.1 g.to in
                (it.over, (g.b, g.seen, (v, g.rows, (a, shown, refl), (g.there, g.shown, g.same), does_so v g.rows a g.there (on n (unset (view id) k)) (flag true) shown g.shown served)));
          }

      -- it isn't refused, but for want of something
      pub unset_refused : (x : Edit) → ((d : Members) → IsKept d → body.items ≡ encode d → (has_key k d ≡ true) × IsReplacement n (without k d) x) → (e : StoreError) (old new : Draft) (docs mid after : List TableRow) → GetsDrafted n (view id) old (Ok body) docs mid → EditsOne x (Err e) old new mid after → DraftsRequest n Q (Err e) old new docs after
      unset_refused x made e old new docs mid after h edits =
          let one = subst (λ rows. EditsOne x (Err e) old new rows after) h.same edits in
          let v = drafted old docs in
          record {
            same = one.same;
            told = λ over a shown.
                let y = h.got over a shown in
                let w = got_document n (view id) body.items v a y.0 shown y.2 in
                let m = made w.0 w.2.0 w.1 in
                elim (one.refused over a shown) [
                  | inl told ↦ absurd (not_refused n (view id) k v a y.0 w.0 shown free w.2 x e m.1 told)
                  | inr fault ↦ inl (lack_of e fault.0)
                ];
          }
