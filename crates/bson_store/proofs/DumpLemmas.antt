-- The trees of a collection, as a visitor makes them and passes them on.
use Rattle.std.proofs.Common.{◌≡◌, ◌⊎◌, inl, inr, ℕ, suc, ◌+◌, zero-add, List, [], ◌∷◌, ◌++◌, length, map, Bool, true, false, Option, Some, None, is_some, Result, Ok, Err, refl, ap, ◌∙◌, sym, subst, arith, append_assoc}
use Rattle.std.specs.Prelude.{MatchOption}
use Rattle.serde_json.specs.Data.{Data}
use Rattle.serde_json.specs.View.{view as data_of}
use Rattle.sqlite.specs.State.{State}
use Rattle.bson_base.specs.Value.{Members}
use Rattle.bson_bytes.specs.Encode.{encode}
use Rattle.bson_model.specs.declared.extjson.ser.Mode.TheVariants.{Canonical}
use Rattle.store_table.specs.Rows.{TableRow}
use Rattle.store_table.specs.Moves.{Moves, Visits}
use Rattle.store_table.specs.declared.fault.Fault.{Fault}
use Rattle.store_table.specs.declared.fault.Fault.TheVariants as faults
use Rattle.store_model.specs.Reading.{Documents}
use Rattle.store_model.specs.State.{on, dump, Answers, AreKept, IsKept, IsName, Reply, json_list, refused, json_of, tree_first, trees_of, trees_reply}
use Rattle.store_model.specs.Run.{IsDecided}
use Rattle.store_model.specs.Table.{DocumentTable, documents_of}
use Rattle.store_model.specs.declared.error.ErrorKind.{ErrorKind}
use Rattle.store_model.specs.declared.error.ErrorKind.TheVariants as kind
use Rattle.bson_store.specs.Shown.{Represents}
use Rattle.bson_store.specs.Calls.{Does}
use Rattle.bson_store.specs.Dump.{AreFirstTrees, HandedOn, HandsOn, HandsTrees, Lasts, Stops, TakesAll}
use Rattle.bson_store.specs.Refusals.{IsDenied, kind_of_fault}
use Rattle.store_model.specs.Refusal.{refusal}
use Rattle.bson_store.specs.declared.dump.Trees.{Trees}
use Rattle.store_model.specs.declared.error.StoreError.{StoreError}
use Rattle.bson_store.specs.declared.walk.Walk.{Walk}
use Rattle.bson_store.proofs.ManyLemmas.{kept_there}
use Rattle.bson_store.proofs.ExportLemmas.{bodies_are}
use Rattle.bson_store.proofs.MoveLemmas.{rests, moved}
use Rattle.bson_store.proofs.ServeLemmas.{at_place, bad_name, denied, memory_other, stay, undecided}

abbrev Told : Type 0
Told = Result (List Data) (ErrorKind × ℕ)

-- ---- trees of documents, and of more after them

-- one more document, which has a tree
pub trees_longer : (i : ℕ) (ds : Documents) (d : Members) (js : List Data) (j : Data) → trees_of i ds ≡ Ok js → json_of Canonical d ≡ Ok j → trees_of i (ds ++ d ∷ []) ≡ Ok (js ++ j ∷ [])
trees_longer i [] d js j h t = let none : [] ≡ js = cc in ap (λ x. tree_first i x (Ok [])) t ∙ ap (λ l. Ok (l ++ j ∷ [])) none
trees_longer i (e ∷ ds) d js j h t = by (json_of Canonical e) (trees_of (suc i) ds) refl h (λ xs k. trees_longer (suc i) ds d xs j k t)
  where
    by : (r : Result Data ErrorKind) (rest : Told) → trees_of (suc i) ds ≡ rest → tree_first i r rest ≡ Ok js → ((xs : List Data) → trees_of (suc i) ds ≡ Ok xs → trees_of (suc i) (ds ++ d ∷ []) ≡ Ok (xs ++ j ∷ []))
        → tree_first i r (trees_of (suc i) (ds ++ d ∷ [])) ≡ Ok (js ++ j ∷ [])
    by (Ok x) (Ok xs) e h next = let all : x ∷ xs ≡ js = cc in ap (tree_first i (Ok x)) (next xs e) ∙ ap (λ l. Ok (l ++ j ∷ [])) all
    by (Ok x) (Err y) e h next = cc
    by (Err k) rest e h next = cc

-- one more document, which has none
pub trees_stop : (i : ℕ) (ds : Documents) (d : Members) (js : List Data) (k : ErrorKind) → trees_of i ds ≡ Ok js → json_of Canonical d ≡ Err k → trees_of i (ds ++ d ∷ []) ≡ Err (k, i + length js)
trees_stop i [] d js k h t =
    let none : [] ≡ js = cc in
    let at : i ≡ i + length js = omega (arith, ap (λ (l : List Data). length l) none) in
    ap (λ x. tree_first i x (Ok [])) t ∙ ap (λ n. Err (k, n)) at
trees_stop i (e ∷ ds) d js k h t = by (json_of Canonical e) (trees_of (suc i) ds) refl h (λ xs m. trees_stop (suc i) ds d xs k m t)
  where
    by : (r : Result Data ErrorKind) (rest : Told) → trees_of (suc i) ds ≡ rest → tree_first i r rest ≡ Ok js → ((xs : List Data) → trees_of (suc i) ds ≡ Ok xs → trees_of (suc i) (ds ++ d ∷ []) ≡ Err (k, suc i + length xs))
        → tree_first i r (trees_of (suc i) (ds ++ d ∷ [])) ≡ Err (k, i + length js)
    by (Ok x) (Ok xs) e h next =
        let all : x ∷ xs ≡ js = cc in
        let at : suc i + length xs ≡ i + length js = omega (arith, ap (λ (l : List Data). length l) all) in
        ap (tree_first i (Ok x)) (next xs e) ∙ ap (λ n. Err (k, n)) at
    by (Ok x) (Err y) e h next = cc
    by (Err y) rest e h next = cc

-- once a document has none, nothing after it matters
pub trees_stay : (i : ℕ) (ds more : Documents) (x : ErrorKind × ℕ) → trees_of i ds ≡ Err x → trees_of i (ds ++ more) ≡ Err x
trees_stay i [] more x h = cc
trees_stay i (e ∷ ds) more x h = by (json_of Canonical e) (trees_of (suc i) ds) refl h (λ z k. trees_stay (suc i) ds more z k)
  where
    by : (r : Result Data ErrorKind) (rest : Told) → trees_of (suc i) ds ≡ rest → tree_first i r rest ≡ Err x → ((z : ErrorKind × ℕ) → trees_of (suc i) ds ≡ Err z → trees_of (suc i) (ds ++ more) ≡ Err z) → tree_first i r (trees_of (suc i) (ds ++ more)) ≡ Err x
    by (Ok y) (Ok ys) e h next = cc
    by (Ok y) (Err z) e h next = ap (tree_first i (Ok y)) (next z e) ∙ h
    by (Err k) rest e h next = h

-- ---- bodies of documents

-- bodies that are parted part the documents
pub record Parted (xs ys : List (List ℕ)) (ds : Documents) : Type 0 where
  pub front : Documents
  pub back : Documents
  pub split : ds ≡ front ++ back
  pub written : xs ≡ map encode front

pub parted : (xs ys : List (List ℕ)) (ds : Documents) → xs ++ ys ≡ map encode ds → Parted xs ys ds
parted [] ys ds h = record { front = []; back = ds; split = refl; written = refl }
parted (x ∷ xs) ys [] h = cc
parted (x ∷ xs) ys (d ∷ ds) h =
    let one : x ≡ encode d = cc in
    let rest : xs ++ ys ≡ map encode ds = cc in
    let p = parted xs ys ds rest in
    record { front = d ∷ p.front; back = p.back; split = ap (λ l. d ∷ l) p.split; written = ap (λ y. y ∷ xs) one ∙ ap (λ l. encode d ∷ l) p.written }

pub front_kept : (front back : Documents) → AreKept (front ++ back) → AreKept front
front_kept [] back h = tt
front_kept (d ∷ front) back h = (h.0, front_kept front back h.1)

-- the last of the bodies is that of the last document
record LastOf (xs : List (List ℕ)) (x : List ℕ) (ds : Documents) : Type 0 where
  pub front : Documents
  pub d : Members
  pub split : ds ≡ front ++ d ∷ []
  pub written : xs ≡ map encode front
  pub last : x ≡ encode d

last_of : (xs : List (List ℕ)) (x : List ℕ) (ds : Documents) → xs ++ x ∷ [] ≡ map encode ds → LastOf xs x ds
last_of [] x [] h = cc
last_of [] x (d ∷ []) h = record { front = []; d = d; split = refl; written = refl; last = cc }
last_of [] x (d ∷ (e ∷ ds)) h = cc
last_of (y ∷ xs) x [] h = cc
last_of (y ∷ xs) x (d ∷ ds) h =
    let one : y ≡ encode d = cc in
    let rest : xs ++ x ∷ [] ≡ map encode ds = cc in
    let p = last_of xs x ds rest in
    record { front = d ∷ p.front; d = p.d; split = ap (λ l. d ∷ l) p.split; written = ap (λ z. z ∷ xs) one ∙ ap (λ l. encode d ∷ l) p.written; last = p.last }

kept_last : (front : Documents) (d : Members) → AreKept (front ++ d ∷ []) → IsKept d
kept_last [] d h = h.0
kept_last (e ∷ front) d h = kept_last front d h.1

-- ---- one body more

-- the place after a list
longer : (js : List Data) (j : Data) → length (js ++ j ∷ []) ≡ length js + 1
longer [] j = refl
longer (x ∷ js) j = omega (arith, ap suc (longer js j))

-- what is reported of the first documents is reported of them all
first_longer : (js : List Data) (ds more : Documents) → AreFirstTrees js ds → AreFirstTrees js (ds ++ more)
first_longer js ds more (front, back, split, are) = (front, back ++ more, ap (λ l. l ++ more) split ∙ append_assoc front back more, are)

pub stops_longer : (took : List Data → Type 0) (refused_by : List Data → StoreError → Type 0) (ds more : Documents) (e : StoreError) → Stops took refused_by ds e → Stops took refused_by (ds ++ more) e
stops_longer took refused_by ds more e (js, are, inl h) = (js, first_longer js ds more are, inl h)
stops_longer took refused_by ds more e (js, are, inr (t, inl h)) = (js, first_longer js ds more are, inr (t, inl h))
stops_longer took refused_by ds more e (js, are, inr (t, inr h)) = (js, first_longer js ds more are, inr (t, inr (by (trees_of 0 ds) refl h)))
  where
    by : (o : Told) → trees_of 0 ds ≡ o → trees_reply o ≡ refused e.kind e.document → trees_reply (trees_of 0 (ds ++ more)) ≡ refused e.kind e.document
    by (Ok js) is t = cc
    by (Err x) is t = ap trees_reply (trees_stay 0 ds more x is) ∙ t

-- a visitor that has a refusal keeps it
pub handed_stays : (took : List Data → Type 0) (refused_by : List Data → StoreError → Type 0) (i : ℕ) (bodies : List (List ℕ)) (body : List ℕ) (o : Option StoreError) → is_some o ≡ true
    → HandedOn took refused_by i bodies o → HandedOn took refused_by i (bodies ++ body ∷ []) o
handed_stays took refused_by i bodies body None some h ds kept is = absurd (cc)
handed_stays took refused_by i bodies body (Some e) some h ds kept is =
    let p = last_of bodies body ds is in
    let before : Stops took refused_by p.front e = h p.front (front_kept p.front (p.d ∷ []) (subst AreKept p.split kept)) p.written in
    subst (λ l. Stops took refused_by l e) (sym p.split) (stops_longer took refused_by p.front (p.d ∷ []) e before)

-- the body's tree was taken
pub handed_one : (old new : List Data → Type 0) (was refused_by : List Data → StoreError → Type 0) (i next : ℕ) (bodies : List (List ℕ)) (body : List ℕ) (o : Option StoreError) → is_some o ≡ false
    → ((out : List Data) (d : Members) → IsKept d → body ≡ encode d → old out → HandsOn new refused_by out i (json_of Canonical d) (Ok next)) → HandedOn old was i bodies o → HandedOn new refused_by next (bodies ++ body ∷ []) o
handed_one old new was refused_by i next bodies body (Some e) none hands h ds kept is = absurd (cc)
handed_one old new was refused_by i next bodies body None none hands h ds kept is =
    let p = last_of bodies body ds is in
    let k = subst AreKept p.split kept in
    let t = h p.front (front_kept p.front (p.d ∷ []) k) p.written in
    let r = hands t.0 p.d (kept_last p.front p.d k) p.last t.2.0 in
    (t.0 ++ r.0.0 ∷ [], ap (trees_of 0) p.split ∙ trees_longer 0 p.front p.d t.0 r.0.0 t.1 r.0.1, (r.0.2, r.1 ∙ ap (λ (m : ℕ). m + 1) t.2.1 ∙ sym (longer t.0 r.0.0)))

-- the body has no tree, or it is refused
pub handed_none : (old new : List Data → Type 0) (was refused_by : List Data → StoreError → Type 0) (i next : ℕ) (bodies : List (List ℕ)) (body : List ℕ) (o : Option StoreError) (e : StoreError) → is_some o ≡ false
    → ((out : List Data) (d : Members) → IsKept d → body ≡ encode d → old out → HandsOn new refused_by out i (json_of Canonical d) (Err e)) → HandedOn old was i bodies o → HandedOn new refused_by next (bodies ++ body ∷ []) (Some e)
handed_none old new was refused_by i next bodies body (Some x) e none hands h ds kept is = absurd (cc)
handed_none old new was refused_by i next bodies body None e none hands h ds kept is = by (hands t.0 p.d (kept_last p.front p.d k) p.last t.2.0)
  where
    p : LastOf bodies body ds
    p = last_of bodies body ds is

    k : AreKept (p.front ++ p.d ∷ [])
    k = subst AreKept p.split kept

    t : TakesAll (λ js. old js × (i ≡ length js)) p.front
    t = h p.front (front_kept p.front (p.d ∷ []) k) p.written

    first : AreFirstTrees t.0 ds
    first = (p.front, p.d ∷ [], p.split, t.1)

    placed : new t.0 → (x : ErrorKind) → json_of Canonical p.d ≡ Err x → (e ≡ refusal kind.Memory) ⊎ (e ≡ record { kind = x; document = Some i }) → Stops new refused_by ds e
    placed took x tells (inl at) = (t.0, first, inr (took, inl (faults.Memory, memory_other, at)))
    placed took x tells (inr at) = (
      t.0,
      first,
      inr (
        took,
        inr
            (ap (λ l. trees_reply (trees_of 0 l)) p.split ∙ ap trees_reply (trees_stop 0 p.front p.d t.0 x t.1 tells) ∙ ap (λ n. refused x (Some n)) (zero-add (length t.0) ∙ sym t.2.1) ∙ sym (ap (λ (y : StoreError). refused y.kind y.document) at)),
      ),
    )

    by : HandsOn new refused_by t.0 i (json_of Canonical p.d) (Err e) → Stops new refused_by ds e
    by (inl x) = (t.0, first, inl x)
    by (inr (took, inl x)) = (t.0, first, inr (took, inl x))
    by (inr (took, inr (x, tells, at))) = placed took x tells (at_place x i e at)

-- ---- one tree

-- there are no more places
pub no_more : (took : List Data → Type 0) (refused_by : List Data → StoreError → Type 0) (out : List Data) (i : ℕ) (r : Result Data ErrorKind) (e : StoreError) → took out → e ≡ refusal kind.Database → HandsOn took refused_by out i r (Err e)
no_more took refused_by out i r e t is = inr (t, inl (faults.Database, (λ x. cc), is))

-- ---- exits

dump_open : (n : List ℕ) → IsName n → IsDecided (on n dump) → ⊥
dump_open n good = undecided n dump good (λ x. x)

answered : (l : Documents) (r : Reply) → trees_reply (trees_of 0 l) ≡ r → Answers dump l r l
answered l r h = (sym h, refl)

pub handed_nothing : (took : List Data → Type 0) (refused_by : List Data → StoreError → Type 0) (i : ℕ) → took [] → i ≡ 0 → HandedOn took refused_by i [] None
handed_nothing took refused_by i start at [] kept is = ([], refl, (start, at))
handed_nothing took refused_by i start at (d ∷ ds) kept is = absurd (cc)

-- under a bad name nothing is asked
pub unnamed : {T : Type 0} (took : T → List Data → Type 0) (refused_by : T → List Data → StoreError → Type 0) (s : State) (n : List ℕ) (t : T) (e : StoreError) → took t [] → (IsName n → ⊥) → e ≡ refusal kind.BadName → Moves s s (HandsTrees took refused_by n (Err (e, t)))
unnamed took refused_by s n t e start bad is = rests s (HandsTrees took refused_by n (Err (e, t))) (λ docs. record { same = refl; handed = λ a _. inl (bad, is, start) })

-- what a visitor has passed on since it was the first
abbrev pub Took : {T : Type 0} → (T → T → List Data → Type 0) → (T → T → List Data → StoreError → Type 0) → (T → T → Type 0) → (T → T → StoreError → Type 0) → Walk T → Walk T → List (List ℕ) → Type 0
Took took refused_by stands stopped first v bodies =
    (took first.step first.step [] → HandedOn (took first.step v.step) (refused_by first.step v.step) v.place bodies v.refusal)
    × (stands first.step first.step → Lasts (stands first.step v.step) (stopped first.step v.step) v.refusal)

pub starts : {T : Type 0} (took : T → T → List Data → Type 0) (refused_by : T → T → List Data → StoreError → Type 0) (stands : T → T → Type 0) (stopped : T → T → StoreError → Type 0) (first : Walk T) → first.place ≡ 0 → first.refusal ≡ None → Took took refused_by stands stopped first first []
starts took refused_by stands stopped first at fine = (
  λ start. subst (λ o. HandedOn (took first.step first.step) (refused_by first.step first.step) first.place [] o) (sym fine) (handed_nothing (took first.step first.step) (refused_by first.step first.step) first.place start at),
  λ stood. subst (Lasts (stands first.step first.step) (stopped first.step first.step)) (sym fine) stood,
)

module _ {T : Type 0} (took : T → T → List Data → Type 0) (refused_by : T → T → List Data → StoreError → Type 0) (stands : T → T → Type 0) (stopped : T → T → StoreError → Type 0) (first last : Walk T) (n : List ℕ) (docs after : List TableRow) (start : took first.step first.step []) (at : first.place ≡ 0) (fine : first.refusal ≡ None) (good : IsName n) where
  begun : Took took refused_by stands stopped first first []
  begun = starts took refused_by stands stopped first at fine

  -- what is reported of the documents that were gone through
  abbrev Gone : Option StoreError → Documents → Type 0
  Gone o ds = MatchOption o (TakesAll (λ js. took first.step last.step js × (last.place ≡ length js)) ds) (Stops (took first.step last.step) (refused_by first.step last.step) ds)

  -- the table refused
  pub unhanded : (x : Fault) → last.refusal ≡ None → Visits (Took took refused_by stands stopped first) first last n (Err x) docs after → HandsTrees (took first.step) (refused_by first.step) n (Err (refusal (kind_of_fault x), last.step)) docs after
  unhanded x none h =
      let w = h.some begun in
      record {
        same = h.same;
        handed = λ a s.
            let p = parted w.0 w.1 (documents_of a n) (w.2 ∙ bodies_are n a docs s.each) in
            let t : Gone None p.front = subst (λ o. Gone o p.front) none (w.3.0 start p.front (front_kept p.front p.back (subst AreKept p.split (kept_there docs a n s))) p.written) in
            inr (good, (t.0, (p.front, p.back, p.split, t.1), inr (t.2.0, inl (x, h.faults, refl))));
      }

  -- all trees were taken
  pub handed : (all : Bool) → last.refusal ≡ None → (all ≡ false → is_some last.refusal ≡ true) → Visits (Took took refused_by stands stopped first) first last n (Ok all) docs after → HandsTrees (took first.step) (refused_by first.step) n (Ok last.step) docs after
  handed false none stopped h = let some : is_some last.refusal ≡ true = stopped refl in let no_one : is_some last.refusal ≡ false = ap is_some none in absurd (cc)
  handed true none stopped h = record {
    same = h.same;
    handed = λ a s.
        let l = documents_of a n in
        let t : Gone None l = subst (λ o. Gone o l) none ((h.whole begun refl).0 start l (kept_there docs a n s) (bodies_are n a docs s.each)) in
        (good, (t.0, t.1, t.2.0));
  }

  -- some document stopped it, or the taker
  pub stopped_at : (result : Result Bool Fault) (e : StoreError) → last.refusal ≡ Some e → Visits (Took took refused_by stands stopped first) first last n result docs after → HandsTrees (took first.step) (refused_by first.step) n (Err (e, last.step)) docs after
  stopped_at result e is h =
      let w = h.some begun in
      record {
        same = h.same;
        handed = λ a s.
            let p = parted w.0 w.1 (documents_of a n) (w.2 ∙ bodies_are n a docs s.each) in
            let t : Gone (Some e) p.front = subst (λ o. Gone o p.front) is (w.3.0 start p.front (front_kept p.front p.back (subst AreKept p.split (kept_there docs a n s))) p.written) in
            inr (good, subst (λ l. Stops (took first.step last.step) (refused_by first.step last.step) l e) (sym p.split) (stops_longer (took first.step last.step) (refused_by first.step last.step) p.front p.back e t));
      }

-- ---- all trees as the result of a dump

abbrev pub HasTrees : Trees → List Data → Type 0
HasTrees v js = map data_of v.trees.items ≡ js

-- what they are refused by
abbrev pub Denied : Trees → List Data → StoreError → Type 0
Denied v js e = IsDenied e

pub dumped_moves : (s t : State) (n : List ℕ) (v : Trees) → Moves s t (HandsTrees HasTrees Denied n (Ok v)) → Moves s t (Does (on n dump) (json_list (map data_of v.trees.items)))
dumped_moves s t n v m =
    let r = json_list (map data_of v.trees.items) in
    moved s t (HandsTrees HasTrees Denied n (Ok v)) (Does (on n dump) r) m
    (λ docs after h. rw h.same (λ a shown. let k = h.handed a shown in (a, shown, stay a n dump r k.0 (answered (documents_of a n) r (ap trees_reply k.1.1 ∙ ap json_list (sym k.1.2))))))

undumped : (docs after : List TableRow) (n : List ℕ) (e : StoreError) (v : Trees) → HandsTrees HasTrees Denied n (Err (e, v)) docs after → Does (on n dump) (refused e.kind e.document) docs docs
undumped docs after n e v h a s = by (h.handed a s)
  where
    by : ((IsName n → ⊥) × (e ≡ refusal kind.BadName) × HasTrees v []) ⊎ (IsName n × Stops (HasTrees v) (Denied v) (documents_of a n) e) → (b : DocumentTable) × Represents docs b × Rattle.store_model.specs.Table.Serves a (on n dump) (refused e.kind e.document) b
    by (inl (bad, is, none)) = rw is (bad_name docs n dump bad a s)
    by (inr (good, (js, are, inl d))) = rw d.2 (denied docs (on n dump) d.0 d.1 (dump_open n good) a s)
    by (inr (good, (js, are, inr (took, inl d)))) = rw d.2 (denied docs (on n dump) d.0 d.1 (dump_open n good) a s)
    by (inr (good, (js, are, inr (took, inr t)))) = (a, s, stay a n dump (refused e.kind e.document) good (answered (documents_of a n) (refused e.kind e.document) t))

pub undumped_moves : (s t : State) (n : List ℕ) (e : StoreError) (v : Trees) → Moves s t (HandsTrees HasTrees Denied n (Err (e, v))) → Moves s t (Does (on n dump) (refused e.kind e.document))
undumped_moves s t n e v m = moved s t (HandsTrees HasTrees Denied n (Err (e, v))) (Does (on n dump) (refused e.kind e.document)) m (λ docs after h. rw h.same (undumped docs after n e v h))
