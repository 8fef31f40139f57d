-- Calls that look a document up by its id.
use Rattle.std.proofs.Common.{◌≡◌, ◌≢◌, ◌⊎◌, inl, inr, ℕ, ℤ, pos, ◌<◌, ◌≤◌, List, [], ◌∷◌, ◌++◌, length, Bool, true, false, not, cond, Option, Some, None, Ok, Err, refl, ap, ◌∙◌, sym, subst, arith}
use Rattle.std.specs.Prelude.{bytes_eq}
use Rattle.std.specs.List.{find}
use Rattle.std.specs.Option.{option_map}
use Rattle.std.specs.Ordering.{int_eq}
use Rattle.std.proofs.lemmas.Bool.Decides.{Decides-int_eq}
use Rattle.bson_base.specs.Kinds.{IsPlain, IsSound}
use Rattle.bson_base.specs.Value.{Value, Members}
use Rattle.bson_bytes.specs.Encode.{encode}
use Rattle.bson_meaning.specs.Meaning.{key}
use Rattle.store_table.specs.Rows.{TableRow, is_row_named, is_at, without_place}
use Rattle.store_table.specs.Moves.{FindsRow, Changes, parts_of_found, parts_of_row}
use Rattle.store_table.specs.declared.fault.Fault.{Fault}
use Rattle.store_table.specs.declared.fault.Fault.TheVariants as faults
use Rattle.store_table.specs.declared.row.Found.{Found}
use Rattle.serde_json.specs.View.{view as data_of}
use Rattle.serde_json.specs.declared.value.Value.{Value as Json}
use Rattle.bson_model.specs.declared.extjson.ser.Mode.{Mode}
use Rattle.store_documents.specs.Answers.{AnswersJson}
use Rattle.store_documents.specs.Bodies.{IsKeyOf}
use Rattle.store_model.specs.State.{store, HasId, NoneHasId, StandsAt, get_raw, get_json, remove, Call, Command, on, Reply, done, bytes, json, refused, json_of, tree_reply, Answers, IsName, IsKept, Step}
use Rattle.store_model.specs.Run.{IsDecided, IsDecidedCall}
use Rattle.store_model.specs.Table.{DocumentRow, DocumentTable, state_of, documents_of, AreRows, Serves, only_id}
use Rattle.store_model.specs.declared.error.ErrorKind.{ErrorKind}
use Rattle.store_model.specs.declared.error.ErrorKind.TheVariants.{Memory, NotFound}
use Rattle.store_model.proofs.IdLemmas.{has_written}
use Rattle.store_model.proofs.RowLemmas.{list_of-state_of, row_gone}
use Rattle.bson_store.specs.Shown.{IsRowOf, AreRowsOf, Rises, Represents}
use Rattle.bson_store.specs.Calls.{Does, FindsIn, Looks}
use Rattle.bson_store.specs.Refusals.{IsDenied, kind_of_fault}
use Rattle.store_model.specs.Refusal.{refusal}
use Rattle.store_model.specs.declared.error.StoreError.{StoreError}
use Rattle.bson_store.proofs.TableLemmas.{absent, found, stands_at, each_more, rows_after}
use Rattle.bson_store.proofs.ServeLemmas.{answers_stay, stay, denied, undecided, memory_other}

-- ---- ids that no document has

none_if : (id : Value) (a : DocumentTable) (n : List ℕ) → AreRows a → ((d : Members) → IsKept d → HasId id d → ⊥) → NoneHasId id (documents_of a n)
none_if id [] n good never = tt
none_if id (r ∷ rs) n good never = by (bytes_eq n r.name) (none_if id rs n good.3 never)
  where
    by : (b : Bool) → NoneHasId id (documents_of rs n) → NoneHasId id (cond b (r.document ∷ documents_of rs n) (documents_of rs n))
    by true rest = (never r.document good.1, rest)
    by false rest = rest

pub unplain_looks : (docs : List TableRow) (n : List ℕ) (id : Value) → IsSound id → (IsPlain id → ⊥) → Looks n id (Ok None) docs docs
unplain_looks docs n id sound other = record {
  same = refl;
  found = λ a s. none_if id a n s.good (λ d parts_of_found has. other (has_written d id parts_of_found sound has).plain);
  denied = tt;
}

pub long_looks : (docs : List TableRow) (n : List ℕ) (id : Value) → IsSound id → 2147483647 < length (key (only_id id)) → Looks n id (Ok None) docs docs
long_looks docs n id sound long = record {
  same = refl;
  found = λ a s. none_if id a n s.good (λ d parts_of_found has. let short = (has_written d id parts_of_found sound has).short in absurd (omega (arith, short, long)));
  denied = tt;
}

look_finds : (docs : List TableRow) (n k : List ℕ) (id : Value) (f : Option Found) → IsKeyOf k id → option_map parts_of_found f ≡ option_map parts_of_row (find (is_row_named n k) docs) → FindsIn docs n id f
look_finds docs n k id f w told = by f (find (is_row_named n k) docs) refl told
  where
    by : (f : Option Found) (o : Option TableRow) → find (is_row_named n k) docs ≡ o → option_map parts_of_found f ≡ option_map parts_of_row o → FindsIn docs n id f
    by None None e h = λ a s. absent n k id docs a w s.each s.good e
    by None (Some d) e h = cc
    by (Some x) None e h = cc
    by (Some x) (Some d) e h = (k, d, w, e, cc)

pub found_looks : (docs after : List TableRow) (n k : List ℕ) (id : Value) (f : Option Found) → IsKeyOf k id → FindsRow n k (Ok f) docs after → Looks n id (Ok f) docs after
found_looks docs after n k id f w h = record { same = h.same; found = look_finds docs n k id f w h.found; denied = tt }

pub unfound_looks : (docs after : List TableRow) (n k : List ℕ) (id : Value) (x : Fault) → FindsRow n k (Err x) docs after → Looks n id (Err (refusal (kind_of_fault x))) docs after
unfound_looks docs after n k id x h = record { same = h.same; found = tt; denied = (x, h.faults, refl) }

-- ---- exits

denied_call : (docs : List TableRow) (c : Command) (e : StoreError) → IsDenied e → (IsDecided c → ⊥) → Does c (refused e.kind e.document) docs docs
denied_call docs c e h open_call = rw h.2 (denied docs c h.0 h.1 open_call)

-- the look-up was refused
pub unlooked : (docs after : List TableRow) (n : List ℕ) (id : Value) (c : Call) (e : StoreError) → IsName n → (IsDecidedCall c → ⊥) → Looks n id (Err e) docs after → Does (on n c) (refused e.kind e.document) docs after
unlooked docs after n id c e good open_call h = rw h.same (denied_call docs (on n c) e h.denied (undecided n c good open_call))

-- no document has the id
pub not_there : (docs after : List TableRow) (n : List ℕ) (id : Value) (c : Call) → IsName n → ((a : DocumentTable) → NoneHasId id (documents_of a n) → Answers c (documents_of a n) (refused NotFound None) (documents_of a n)) → Looks n id (Ok None) docs after → Does (on n c) (refused NotFound None) docs after
not_there docs after n id c good answers h = rw h.same (answers_stay docs n c (refused NotFound None) good (λ a s. answers a (h.found a s)))

-- what a call has to show of the document that it reads, or that it is out of memory
abbrev pub Answered : Value → Call → Reply → Found → Type 0
Answered id c q f = (l front : List Members) (old : Members) (back : List Members) → f.body.items ≡ encode old → IsKept old → StandsAt id l front old back → Answers c l q l ⊎ (q ≡ refused Memory None)

kept_in : (front : DocumentTable) (r : DocumentRow) (back : DocumentTable) → AreRows (front ++ r ∷ back) → IsKept r.document
kept_in [] r back h = h.1
kept_in (q ∷ front) r back h = kept_in front r back h.3

pub kept_at : (a front : DocumentTable) (r : DocumentRow) (back : DocumentTable) → a ≡ front ++ r ∷ back → AreRows a → IsKept r.document
kept_at a front r back e h = kept_in front r back (subst AreRows e h)

there_at : (docs : List TableRow) (n : List ℕ) (id : Value) (f : Found) (c : Call) (q : Reply) → IsName n → (IsDecidedCall c → ⊥) → FindsIn docs n id (Some f) → Answered id c q f → Does (on n c) q docs docs
there_at docs n id f c q good open_call h answered a s =
    let p = found n h.0 id docs a h.1 h.2 s.each s.good h.3 in
    by (answered (documents_of a n) (documents_of p.front n) p.r.document (documents_of p.back n) (ap (λ x. x.1) h.4 ∙ p.each.body) (kept_at a p.front p.r p.back p.split s.good) (stands_at n h.0 id docs a h.1 p))
  where
    by : Answers c (documents_of a n) q (documents_of a n) ⊎ (q ≡ refused Memory None) → (b : DocumentTable) × Represents docs b × Serves a (on n c) q b
    by (inl answers) = (a, s, stay a n c q good answers)
    by (inr is) = rw is (denied docs (on n c) faults.Memory memory_other (undecided n c good open_call) a s)

pub there : (docs after : List TableRow) (n : List ℕ) (id : Value) (f : Found) (c : Call) (q : Reply) → IsName n → (IsDecidedCall c → ⊥) → Looks n id (Ok (Some f)) docs after → Answered id c q f → Does (on n c) q docs after
there docs after n id f c q good open_call h answered = rw h.same (there_at docs n id f c q good open_call h.found answered)

pub got : (id : Value) (f : Found) → Answered id (get_raw id) (bytes f.body.items) f
got id f l front old back was parts_of_found at = inl (inl (front, old, back, at, (ap bytes was, refl)))

pub got_json : (id : Value) (m : Mode) (f : Found) (j : Json) → ((d : Members) → IsKept d → f.body.items ≡ encode d → AnswersJson (json_of m d) (Ok j)) → Answered id (get_json m id) (json (data_of j)) f
got_json id m f j told l front old back was parts_of_found at = inl (inl (front, old, back, at, (ap tree_reply (sym (told old parts_of_found was)), refl)))

pub no_json : (id : Value) (m : Mode) (f : Found) (k : ErrorKind) → ((d : Members) → IsKept d → f.body.items ≡ encode d → AnswersJson (json_of m d) (Err k)) → Answered id (get_json m id) (refused k None) f
no_json id m f k told l front old back was parts_of_found at = by (told old parts_of_found was)
  where
    by : (json_of m old ≡ Err k) ⊎ (k ≡ Memory) → Answers (get_json m id) l (refused k None) l ⊎ (refused k None ≡ refused Memory None)
    by (inl e) = inl (inl (front, old, back, at, (ap tree_reply (sym e), refl)))
    by (inr e) = inr (ap (λ x. refused x None) e)

-- ---- the row at a place

pub at_place : (d : TableRow) (z : ℤ) → d.place ≡ z → is_at z d ≡ true
at_place d z e = (Decides-int_eq d.place z).1 e

pub at_other : (d : TableRow) (r : DocumentRow) (z : ℤ) (p : ℕ) → d.place ≡ pos r.place → z ≡ pos p → r.place ≢ p → is_at z d ≡ false
at_other d r z p is e other = by (int_eq d.place z) refl
  where
    by : (b : Bool) → int_eq d.place z ≡ b → b ≡ false
    by true i = let same : pos r.place ≡ pos p = sym is ∙ (Decides-int_eq d.place z).0 i ∙ e in let eq : r.place ≡ p = cc in absurd (other eq)
    by false i = refl

-- rows of which none is at the place stay
stay_below : (m : ℕ) (z : ℤ) (p : ℕ) (rs : DocumentTable) (ds : List TableRow) → AreRowsOf rs ds → Rises m rs → z ≡ pos p → p ≤ m → without_place z ds ≡ ds
stay_below m z p [] [] each rises is h = refl
stay_below m z p [] (d ∷ ds) each rises is h = absurd each
stay_below m z p (r ∷ rs) [] each rises is h = absurd each
stay_below m z p (r ∷ rs) (d ∷ ds) each rises is h =
    ap (λ b. cond (not b) (d ∷ without_place z ds) (without_place z ds)) (at_other d r z p each.0.place is (λ e. omega (arith, e, h, rises.0)))
    ∙ ap (λ x. d ∷ x) (stay_below r.place z p rs ds each.1 rises.1 is (omega (arith, h, rises.0)))

pub above : (m : ℕ) (front : DocumentTable) (r : DocumentRow) (back : DocumentTable) → Rises m (front ++ r ∷ back) → m < r.place
above m [] r back rises = rises.0
above m (q ∷ front) r back rises = let p = above q.place front r back rises.1 in omega (arith, p, rises.0)

-- the row of a table between others goes
gone : (m : ℕ) (front : DocumentTable) (r : DocumentRow) (back : DocumentTable) (before : List TableRow) (d : TableRow) (behind : List TableRow) → AreRowsOf front before → IsRowOf r d → AreRowsOf back behind → Rises m (front ++ r ∷ back)
    → without_place d.place (before ++ d ∷ behind) ≡ before ++ behind
gone m [] r back [] d behind fronts is backs rises =
    ap (λ b. cond (not b) (d ∷ without_place d.place behind) (without_place d.place behind)) (at_place d d.place refl) ∙ stay_below r.place d.place r.place back behind backs rises.1 is.place (omega arith)
gone m [] r back (e ∷ before) d behind fronts is backs rises = absurd fronts
gone m (q ∷ front) r back [] d behind fronts is backs rises = absurd fronts
gone m (q ∷ front) r back (e ∷ before) d behind fronts is backs rises =
    let up = above q.place front r back rises.1 in
    ap (λ b. cond (not b) (e ∷ without_place d.place (before ++ d ∷ behind)) (without_place d.place (before ++ d ∷ behind))) (at_other e q d.place r.place fronts.0.place is.place (λ x. omega (arith, x, up)))
    ∙ ap (λ x. e ∷ x) (gone q.place front r back before d behind fronts.1 is backs rises.1)

lower : (m n : ℕ) (rs : DocumentTable) → n ≤ m → Rises m rs → Rises n rs
lower m n [] h rises = tt
lower m n (r ∷ rs) h rises = (omega (arith, h, rises.0), rises.1)

rises_without : (m : ℕ) (front : DocumentTable) (r : DocumentRow) (back : DocumentTable) → Rises m (front ++ r ∷ back) → Rises m (front ++ back)
rises_without m [] r back rises = lower r.place m back (omega (arith, rises.0)) rises.1
rises_without m (q ∷ front) r back rises = (rises.0, rises_without q.place front r back rises.1)

remove_step : (n : List ℕ) (id : Value) (a front : DocumentTable) (r : DocumentRow) (back : DocumentTable) → IsName n → a ≡ front ++ r ∷ back → r.name ≡ n → StandsAt id (documents_of a n) (documents_of front n) r.document (documents_of back n)
    → Step (state_of a) (on n (remove id)) done (state_of (front ++ back))
remove_step n id a front r back good split name at =
    let l = list_of-state_of a n in
    inl (
      good,
      (
        documents_of front n ++ documents_of back n,
        inl (documents_of front n, r.document, documents_of back n, record { split = l ∙ at.split; before = at.before; has = at.has }, (refl, refl)),
        row_gone front r back ∙ ap (λ m. store (state_of (front ++ r ∷ back)) m (documents_of front m ++ documents_of back m)) name ∙ ap (λ t. store (state_of t) n (documents_of front n ++ documents_of back n)) (sym split),
      ),
    )

removed_at : (docs : List TableRow) (n : List ℕ) (id : Value) (f : Found) → IsName n → FindsIn docs n id (Some f) → Does (on n (remove id)) done docs (without_place f.place docs)
removed_at ds n id f good h a s =
    let p = found n h.0 id ds a h.1 h.2 s.each s.good h.3 in
    let step = remove_step n id a p.front p.r p.back good p.split p.name (stands_at n h.0 id ds a h.1 p) in
    let rises = subst (Rises 0) p.split s.rising in
    let place : f.place ≡ h.1.place = ap (λ x. x.0) h.4 in
    let left : without_place f.place ds ≡ p.before ++ p.behind = ap (λ z. without_place z ds) place ∙ ap (without_place h.1.place) p.parted ∙ gone 0 p.front p.r p.back p.before h.1 p.behind p.front_each p.each p.back_each rises in (
      p.front ++ p.back,
      record {
        each = subst (AreRowsOf (p.front ++ p.back)) (sym left) (each_more p.front p.back p.before p.behind p.front_each p.back_each);
        good = rows_after a (p.front ++ p.back) (on n (remove id)) done s.good h.2.sound step;
        rising = rises_without 0 p.front p.r p.back rises;
      },
      (None, (step, inr (p.front, p.r, p.back, p.split, inl refl), tt)),
    )

pub removed : (docs mid after : List TableRow) (n : List ℕ) (id : Value) (f : Found) → IsName n → Looks n id (Ok (Some f)) docs mid → Changes (without_place f.place) (Ok tt) mid after → Does (on n (remove id)) done docs after
removed docs mid after n id f good look h = rw (h.done, look.same) (removed_at docs n id f good look.found)

-- the table refuses a change
pub unchanged : (docs mid after : List TableRow) (n : List ℕ) (id : Value) (f : Found) (c : Call) (change : List TableRow → List TableRow) (x : Fault) → IsName n → (IsDecidedCall c → ⊥) → Looks n id (Ok (Some f)) docs mid → Changes change (Err x) mid after → Does (on n c) (refused (kind_of_fault x) None) docs after
unchanged docs mid after n id f c change x good open_call look h = rw (h.refused, look.same) (denied docs (on n c) x h.faults (undecided n c good open_call))
