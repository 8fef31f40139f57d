-- What a filter selects of the documents of a collection, taken one after the other.
use Rattle.std.proofs.Common.{◌≡◌, ◌≢◌, ◌⊎◌, inl, inr, ℕ, List, [], ◌∷◌, ◌++◌, map, filter, Bool, true, false, cond, Option, Some, None, Result, Ok, Err, append-nil, String, Global, length, refl, ap, ap₂, ◌∙◌, sym, subst}
use Rattle.std.specs.Prelude.{MatchOption}
use Rattle.sqlite.specs.State.{State}
use Rattle.bson_base.specs.Value.{Members, document}
use Rattle.bson_bytes.specs.Encode.{encode}
use Rattle.store_question.specs.Filters.{filter_of, path_of}
use Rattle.bson_store.specs.Asking.{Spares, TookAsked, VisitsAsked, bodies_by}
use Rattle.store_table.specs.Rows.{TableRow, is_in}
use Rattle.store_table.specs.Moves.{Moves}
use Rattle.store_table.specs.declared.fault.Fault.{Fault}
use Rattle.store_model.specs.Filter.{Filter, Selects, all_of, no_filters}
use Rattle.store_model.specs.Reading.{Documents}
use Rattle.store_model.specs.Run.{IsDecidedCall}
use Rattle.store_model.specs.State.{Answers, AreKept, Call, IsKept, IsName, Picks, Reply, on, only, refused}
use Rattle.store_model.specs.Table.{DocumentTable, documents_of}
use Rattle.bson_store.specs.Calls.{Does}
use Rattle.bson_store.specs.Export.{bytes_of_each}
use Rattle.bson_store.specs.Questions.{GivesPicked, IsSettled, Passed, PassedFrom, Picked, PickedFrom, PickedOf, Spared, Turns}
use Rattle.bson_store.specs.Refusals.{IsDenied, kind_of_fault}
use Rattle.store_model.specs.Refusal.{refusal}
use Rattle.bson_store.specs.Shown.{Represents}
use Rattle.store_model.specs.declared.error.StoreError.{StoreError}
use Rattle.bson_store.specs.declared.picking.Copies.{Copies}
use Rattle.bson_store.specs.declared.picking.Count.{Count}
use Rattle.bson_store.specs.declared.picking.FilterVisitor.{FilterVisitor}
use Rattle.bson_store.specs.declared.picking.Projections.{Projections}
use Rattle.bson_store.proofs.ExportLemmas.{bodies_are}
use Rattle.bson_store.proofs.MoveLemmas.{moved}
use Rattle.bson_store.proofs.ServeLemmas.{answers_stay, denied, undecided}
use Rattle.bson_store.proofs.DecideLemmas.{picked_both, selection}
use Rattle.bson_store.proofs.DumpLemmas.{front_kept}
use Rattle.store_model.proofs.KeyLemmas.{rows_kept}

-- ---- one document more

-- what a filter selects of the documents was taken
abbrev pub Taken : (Documents → Type 0) → Filter → Documents → Type 0
Taken took f ds = (out : Documents) × Picks f ds out × took out

picked_more : (f : Filter) (ds out : Documents) (d : Members) → Selects f (document d) → Picks f ds out → Picks f (ds ++ d ∷ []) (out ++ d ∷ [])
picked_more f [] out d selected h = inl (selected, ([], ap (λ l. l ++ d ∷ []) h, refl))
picked_more f (e ∷ ds) out d selected (inl h) = inl (h.0, (h.1.0 ++ d ∷ [], ap (λ l. l ++ d ∷ []) h.1.1, picked_more f ds h.1.0 d selected h.1.2))
picked_more f (e ∷ ds) out d selected (inr h) = inr (h.0, picked_more f ds out d selected h.1)

picked_same : (f : Filter) (ds out : Documents) (d : Members) → (Selects f (document d) → ⊥) → Picks f ds out → Picks f (ds ++ d ∷ []) out
picked_same f [] out d no_one h = inr (no_one, h)
picked_same f (e ∷ ds) out d no_one (inl h) = inl (h.0, (h.1.0, h.1.1, picked_same f ds h.1.0 d no_one h.1.2))
picked_same f (e ∷ ds) out d no_one (inr h) = inr (h.0, picked_same f ds out d no_one h.1)

taken_more : (old new : Documents → Type 0) (f : Filter) (es : Documents) (d : Members) → ((out : Documents) → old out → Turns new f out d) → Taken old f es → Taken new f (es ++ d ∷ [])
taken_more old new f es d turns h = by (turns h.0 h.2)
  where
    by : Turns new f h.0 d → Taken new f (es ++ d ∷ [])
    by (inl t) = (h.0 ++ d ∷ [], picked_more f es h.0 d t.0 h.1, t.1)
    by (inr t) = (h.0, picked_same f es h.0 d t.0 h.1, t.1)

-- the last of the documents is that of the last body
record IsLast (ds : Documents) (bodies : List (List ℕ)) (b : List ℕ) : Type 0 where
  pub front : Documents
  pub last : Members
  pub split : ds ≡ front ++ last ∷ []
  pub bodies_are : bodies ≡ map encode front
  pub body_is : b ≡ encode last

last_behind : (d : Members) (c : List ℕ) (ds : Documents) (bodies : List (List ℕ)) (b : List ℕ) → c ≡ encode d → IsLast ds bodies b → IsLast (d ∷ ds) (c ∷ bodies) b
last_behind d c ds bodies b is l = record { front = d ∷ l.front; last = l.last; split = ap (λ x. d ∷ x) l.split; bodies_are = ap₂ (λ x xs. x ∷ xs) is l.bodies_are; body_is = l.body_is }

last_of : (ds : Documents) (bodies : List (List ℕ)) (b : List ℕ) → bodies ++ b ∷ [] ≡ map encode ds → IsLast ds bodies b
last_of [] [] b h = absurd (cc)
last_of [] (c ∷ bodies) b h = absurd (cc)
last_of (d ∷ []) [] b h = let is : b ≡ encode d = cc in record { front = []; last = d; split = refl; bodies_are = refl; body_is = is }
last_of (d ∷ (e ∷ ds)) [] b h = absurd (cc)
last_of (d ∷ ds) (c ∷ bodies) b h =
    let head : c ≡ encode d = cc in
    let tail : bodies ++ b ∷ [] ≡ map encode ds = cc in
    last_behind d c ds bodies b head (last_of ds bodies b tail)

kept_parts : (es : Documents) (d : Members) → AreKept (es ++ d ∷ []) → AreKept es × IsKept d
kept_parts [] d h = (tt, h.0)
kept_parts (e ∷ es) d h = let r = kept_parts es d h.1 in ((h.0, r.0), r.1)

kept_last : (ds : Documents) (bodies : List (List ℕ)) (b : List ℕ) (l : IsLast ds bodies b) → AreKept ds → AreKept l.front × IsKept l.last
kept_last ds bodies b l kept = kept_parts l.front l.last (subst AreKept l.split kept)

-- a body was passed on
pub gave_more : (old new : Documents → Type 0) (f : Filter) (bodies : List (List ℕ)) (b : List ℕ) (fault : Option StoreError) → ((out : Documents) (d : Members) → IsKept d → b ≡ encode d → old out → Turns new f out d)
    → GivesPicked old f bodies fault → GivesPicked new f (bodies ++ b ∷ []) fault
gave_more old new f bodies b fault turns h ds kept is =
    let l = last_of ds bodies b is in
    let k = kept_last ds bodies b l kept in
    by l (λ out t. turns out l.last k.1 l.body_is t) fault (h l.front k.0 l.bodies_are)
  where
    by : (l : IsLast ds bodies b) → ((out : Documents) → old out → Turns new f out l.last) → (o : Option StoreError) → MatchOption o (Taken old f l.front) IsDenied → MatchOption o (Taken new f ds) IsDenied
    by l turns None t = subst (Taken new f) (sym l.split) (taken_more old new f l.front l.last turns t)
    by l turns (Some e) t = t

-- a body was refused
pub gave_fault : (took : Documents → Type 0) (f : Filter) (bodies : List (List ℕ)) (b : List ℕ) (e : StoreError) → ((d : Members) → IsKept d → b ≡ encode d → IsDenied e) → GivesPicked took f (bodies ++ b ∷ []) (Some e)
gave_fault took f bodies b e h ds kept is = let l = last_of ds bodies b is in h l.last (kept_last ds bodies b l kept).1 l.body_is

-- ---- all bodies of a collection

gives_none : (took : Documents → Type 0) (f : Filter) → took [] → GivesPicked took f [] None
gives_none took f t [] kept is = ([], refl, t)
gives_none took f t (d ∷ ds) kept is = absurd (cc)

-- the documents of the first bodies
record IsFront (xs : List (List ℕ)) (ds : Documents) : Type 0 where
  pub front : Documents
  pub back : Documents
  pub split : ds ≡ front ++ back
  pub bodies_are : xs ≡ map encode front

front_behind : (d : Members) (x : List ℕ) (xs : List (List ℕ)) (ds : Documents) → x ≡ encode d → IsFront xs ds → IsFront (x ∷ xs) (d ∷ ds)
front_behind d x xs ds is f = record { front = d ∷ f.front; back = f.back; split = ap (λ l. d ∷ l) f.split; bodies_are = ap₂ (λ z zs. z ∷ zs) is f.bodies_are }

front_of : (xs ys : List (List ℕ)) (ds : Documents) → xs ++ ys ≡ map encode ds → IsFront xs ds
front_of [] ys ds h = record { front = []; back = ds; split = refl; bodies_are = refl }
front_of (x ∷ xs) ys [] h = absurd (cc)
front_of (x ∷ xs) ys (d ∷ ds) h =
    let head : x ≡ encode d = cc in
    let tail : xs ++ ys ≡ map encode ds = cc in
    front_behind d x xs ds head (front_of xs ys ds tail)

-- if the first bodies are all, no document is behind theirs
none_behind : (xs : List (List ℕ)) (ds : Documents) (p : IsFront xs ds) → xs ≡ map encode ds → p.back ≡ []
none_behind xs ds p all = same_front p.front p.back (sym p.bodies_are ∙ all ∙ ap (map encode) p.split)
  where
    same_front : (front back : Documents) → map encode front ≡ map encode (front ++ back) → back ≡ []
    same_front [] [] h = refl
    same_front [] (d ∷ back) h = absurd (cc)
    same_front (d ∷ front) back h = same_front front back (cc)

back_kept : (front back : Documents) → AreKept (front ++ back) → AreKept back
back_kept [] back h = h
back_kept (d ∷ front) back h = back_kept front back h.1

-- none is left, or nothing that may come changes what was taken
abbrev Ends : (Documents → Type 0) → Documents → Type 0
Ends took back = (back ≡ []) ⊎ IsSettled took

rest_taken : (took : Documents → Type 0) (f : Filter) (front back : Documents) → AreKept back → Ends took back → Taken took f front → Taken took f (front ++ back)
rest_taken took f front back kept (inl none) h = subst (Taken took f) (sym (ap (λ l. front ++ l) none ∙ append-nil front)) h
rest_taken took f front back kept (inr settled) h =
    let s = selection f back kept in
    (h.0 ++ s.out, picked_both f front back h.0 s.out h.1 s.picks, settled h.0 s.out s.kept h.2)

-- what was taken of the first bodies is what there is to take of all
all_taken : (took : Documents → Type 0) (f g : Filter) (fault : Option StoreError) (bodies : List (List ℕ)) (ds : Documents) (p : IsFront bodies ds) → AreKept ds → f ≡ g → fault ≡ None → Ends took p.back → GivesPicked took f bodies fault → Taken took g ds
all_taken took f g fault bodies ds p kept same whole ends gave =
    let k = subst AreKept p.split kept in
    let got : Taken took f p.front = subst (λ o. MatchOption o (Taken took f p.front) IsDenied) whole (gave p.front (front_kept p.front p.back k) p.bodies_are) in
    subst (Taken took g) (sym p.split) (rest_taken took g p.front p.back (back_kept p.front p.back k) ends (subst (λ h. Taken took h p.front) same got))

-- ---- documents of which P may hold

not_both : (b : Bool) → b ≡ true → b ≡ false → ⊥
not_both b t f = let e : true ≡ false = sym t ∙ f in cc

-- The bodies were written for documents, and none of all was left out of which P holds.
record Thinned (P : Members → Type 0) (all : Documents) (bodies : List (List ℕ)) : Type 0 where
  pub documents : Documents
  pub bodies_are : bodies ≡ map encode documents
  pub kept : AreKept documents
  pub spared : Spared P all documents

thin : (P : Members → Type 0) (test : TableRow → Bool) (rows : List TableRow) (ds : Documents) → map (λ (d : TableRow). d.body) rows ≡ map encode ds → AreKept ds → Spares test P rows → Thinned P ds (map (λ (d : TableRow). d.body) (filter test rows))
thin P test [] [] is kept spares = record { documents = []; bodies_are = refl; kept = tt; spared = refl }
thin P test [] (m ∷ ds) is kept spares = absurd (cc)
thin P test (d ∷ rows) [] is kept spares = absurd (cc)
thin P test (d ∷ rows) (m ∷ ds) is kept spares = by (test d) refl (thin P test rows ds tail kept.1 spares.1)
  where
    head : d.body ≡ encode m
    head = cc

    tail : map (λ (e : TableRow). e.body) rows ≡ map encode ds
    tail = cc

    by : (b : Bool) → test d ≡ b → Thinned P ds (map (λ (e : TableRow). e.body) (filter test rows)) → Thinned P (m ∷ ds) (map (λ (e : TableRow). e.body) (cond b (d ∷ filter test rows) (filter test rows)))
    by true e t = record { documents = m ∷ t.documents; bodies_are = ap₂ (λ x xs. x ∷ xs) head t.bodies_are; kept = (kept.0, t.kept); spared = inl (t.documents, refl, t.spared) }
    by false e t = record { documents = t.documents; bodies_are = t.bodies_are; kept = t.kept; spared = inr ((λ holds. not_both (test d) (spares.0 m kept.0 head holds) e), t.spared) }

-- one document in front of both
picks_first : (f : Filter) (d : Members) (ds rest out : Documents) → ((o : Documents) → Picks f rest o → Picks f ds o) → Picks f (d ∷ rest) out → Picks f (d ∷ ds) out
picks_first f d ds rest out more (inl h) = inl (h.0, (h.1.0, h.1.1, more h.1.0 h.1.2))
picks_first f d ds rest out more (inr h) = inr (h.0, more out h.1)

-- what a filter selects of these, it selects of all, if P holds of all that it selects
pub spared_picks : (P : Members → Type 0) (f : Filter) (ds came out : Documents) → ((d : Members) → Selects f (document d) → P d) → Spared P ds came → Picks f came out → Picks f ds out
spared_picks P f [] came out holds s p = subst (λ l. Picks f l out) s p
spared_picks P f (d ∷ ds) came out holds (inl s) p = picks_first f d ds s.0 out (λ o k. spared_picks P f ds s.0 o holds s.2 k) (subst (λ l. Picks f l out) s.1 p)
spared_picks P f (d ∷ ds) came out holds (inr s) p = inr ((λ selected. s.0 (holds d selected)), spared_picks P f ds came out holds s.1 p)

-- a filter that selects all picks all
pub all_picked : (f : Filter) (ds out : Documents) → ((d : Members) → Selects f (document d)) → Picks f ds out → out ≡ ds
all_picked f [] out all p = p
all_picked f (d ∷ ds) out all (inl p) = p.1.1 ∙ ap (λ l. d ∷ l) (all_picked f ds p.1.0 all p.1.2)
all_picked f (d ∷ ds) out all (inr p) = absurd (p.0 (all d))

-- what a visitor has taken since it was the first
abbrev pub Took : {T : Type 0} → (T → T → Documents → Type 0) → FilterVisitor T → FilterVisitor T → List (List ℕ) → Type 0
Took took first v bodies = (v.filter.now ≡ first.filter.now) × GivesPicked (took first.taker v.taker) (filter_of v.filter.now) bodies v.fault

module _ {T : Type 0} (took : T → T → Documents → Type 0) (P : Members → Type 0) (first last : FilterVisitor T) (n : List ℕ) (docs after : List TableRow) (start : took first.taker first.taker []) (faultless : first.fault ≡ None) where
  abbrev Asked : Result Bool Fault → Type 0
  Asked r = VisitsAsked (Took took first) first last n P r docs after

  starts : Took took first first []
  starts = (refl, subst (λ o. GivesPicked (took first.taker first.taker) (filter_of first.filter.now) [] o) (sym faultless) (gives_none (took first.taker first.taker) (filter_of first.filter.now) start))

  thinned : (all : Bool) (a : DocumentTable) → Represents docs a → (w : TookAsked (Took took first) last n P docs all) → Thinned P (documents_of a n) (bodies_by w.test n docs)
  thinned all a s w = thin P w.test (filter (is_in n) docs) (documents_of a n) (bodies_are n a docs s.each) (rows_kept a n s.good) w.spares

  -- nothing is behind the bodies that were taken, or the taker was done
  ends : (all : Bool) → last.fault ≡ None → (all ≡ false → (last.fault ≢ None) ⊎ ((t : T) → IsSettled (took t last.taker))) → (w : TookAsked (Took took first) last n P docs all) (ds : Documents) (bodies_are : bodies_by w.test n docs ≡ map encode ds) (p : IsFront w.taken ds) → Ends (took first.taker last.taker) p.back
  ends true whole stopped w ds bodies_are p = inl (none_behind w.taken ds p (sym (append-nil w.taken) ∙ ap (λ rest. w.taken ++ rest) (sym (w.whole refl)) ∙ w.split ∙ bodies_are))
  ends false whole stopped w ds bodies_are p = by (stopped refl)
    where
      by : (last.fault ≢ None) ⊎ ((t : T) → IsSettled (took t last.taker)) → Ends (took first.taker last.taker) p.back
      by (inl fault) = absurd (fault whole)
      by (inr settled) = inr (settled first.taker)

  -- the table refused
  pub untaken : (x : Fault) → Asked (Err x) → PickedOf (took first.taker) n P (filter_of first.filter.now) (Err (refusal (kind_of_fault x))) docs after
  untaken x h = record { same = h.same; taken = λ a s. tt; denied = λ a s. (x, h.faults, refl) }

  -- all were taken, or the taker was done
  pub taken : (all : Bool) → last.fault ≡ None → (all ≡ false → (last.fault ≢ None) ⊎ ((t : T) → IsSettled (took t last.taker))) → Asked (Ok all) → PickedOf (took first.taker) n P (filter_of first.filter.now) (Ok last.taker) docs after
  taken all whole stopped h =
      let w = h.taken starts in
      record {
        same = h.same;
        taken = λ a s.
            let t = thinned all a s w in
            let p = front_of w.taken w.rest t.documents (w.split ∙ t.bodies_are) in
            let y = all_taken (took first.taker last.taker) (filter_of last.filter.now) (filter_of first.filter.now) last.fault w.taken t.documents p t.kept (ap filter_of w.given.0) whole (ends all whole stopped w t.documents t.bodies_are p) w.given.1 in
            (t.documents, t.spared, y.0, y.1, y.2);
        denied = λ a s. tt;
      }

  -- the visitor refused
  pub refused_one : (all : Bool) (e : StoreError) → last.fault ≡ Some e → Asked (Ok all) → PickedOf (took first.taker) n P (filter_of first.filter.now) (Err e) docs after
  refused_one all e is h =
      let w = h.taken starts in
      record {
        same = h.same;
        taken = λ a s. tt;
        denied = λ a s.
            let t = thinned all a s w in
            let p = front_of w.taken w.rest t.documents (w.split ∙ t.bodies_are) in
            let k = front_kept p.front p.back (subst AreKept p.split t.kept) in
            let got = w.given.1 p.front k p.bodies_are in
            subst (λ o. MatchOption o (Taken (took first.taker last.taker) (filter_of last.filter.now) p.front) IsDenied) is got;
      }

-- ---- all that a filter selects, or all that come

module _ {T : Type 0} (took : T → Documents → Type 0) (n : List ℕ) (P : Members → Type 0) (f : Filter) (docs after : List TableRow) where
  pub picked_of : (r : Result T StoreError) → ((d : Members) → Selects f (document d) → P d) → PickedOf took n P f r docs after → Picked took n f r docs after
  picked_of (Ok t) holds h = record { same = h.same; taken = λ a s. (let y = h.taken a s in (y.2, spared_picks P f (documents_of a n) y.0 y.2 holds y.1 y.3, y.4)); denied = h.denied }
  picked_of (Err e) holds h = record { same = h.same; taken = λ a s. tt; denied = h.denied }

  pub passed_of : (r : Result T StoreError) → ((d : Members) → Selects f (document d)) → PickedOf took n P f r docs after → Passed took n P r docs after
  passed_of (Ok t) all h = record { same = h.same; taken = λ a s. (let y = h.taken a s in (y.0, y.1, subst (took t) (all_picked f y.0 y.2 all y.3) y.4)); denied = h.denied }
  passed_of (Err e) all h = record { same = h.same; taken = λ a s. tt; denied = h.denied }

-- ---- exits

picked_as : {T : Type 0} (took : T → Documents → Type 0) (docs : List TableRow) (n : List ℕ) (f : Filter) (t : T) (c : Call) (q : Reply) → IsName n → ((l out : Documents) → Picks f l out → took t out → Answers c l q l)
    → ((a : DocumentTable) → Represents docs a → (out : Documents) × Picks f (documents_of a n) out × took t out) → Does (on n c) q docs docs
picked_as took docs n f t c q good answers h = answers_stay docs n c q good (λ a s. let p = h a s in answers (documents_of a n) p.0 p.1 p.2)

pub picked_moves : {T : Type 0} (took : T → Documents → Type 0) (s u : State) (n nb : List ℕ) (f : Filter) (t : T) (c : Call) (q : Reply) → nb ≡ n → IsName n → ((l out : Documents) → Picks f l out → took t out → Answers c l q l)
    → Moves s u (Picked took nb f (Ok t)) → Moves s u (Does (on n c) q)
picked_moves took s u n nb f t c q e good answers m =
    moved s u (Picked took nb f (Ok t)) (Does (on n c) q) m
    (λ docs after h. let k = subst (λ x. Picked took x f (Ok t) docs after) e h in rw k.same (picked_as took docs n f t c q good answers k.taken))

denied_as : (docs : List TableRow) (n : List ℕ) (e : StoreError) (c : Call) → IsName n → (IsDecidedCall c → ⊥) → ((a : DocumentTable) → Represents docs a → IsDenied e) → Does (on n c) (refused e.kind e.document) docs docs
denied_as docs n e c good open_call h a s = let d = h a s in rw d.2 (denied docs (on n c) d.0 d.1 (undecided n c good open_call) a s)

pub unpicked_moves : {T : Type 0} (took : T → Documents → Type 0) (s u : State) (n nb : List ℕ) (f : Filter) (e : StoreError) (c : Call) → nb ≡ n → IsName n → (IsDecidedCall c → ⊥) → Moves s u (Picked took nb f (Err e)) → Moves s u (Does (on n c) (refused e.kind e.document))
unpicked_moves took s u n nb f e c is good open_call m =
    moved s u (Picked took nb f (Err e)) (Does (on n c) (refused e.kind e.document)) m
    (λ docs after h. let k = subst (λ x. Picked took x f (Err e) docs after) is h in rw k.same (denied_as docs n e c good open_call k.denied))

-- the same said of any name
pub picked_from : {T : Type 0} (took : T → Documents → Type 0) (s u : State) (n nb : List ℕ) (f : Filter) (r : Result T StoreError) → nb ≡ n → IsName n → Moves s u (Picked took nb f r) → Moves s u (PickedFrom took n f r)
picked_from took s u n nb f r is good m = moved s u (Picked took nb f r) (PickedFrom took n f r) m (λ docs after h. inl (good, subst (λ x. Picked took x f r docs after) is h))

pub passed_from : {T : Type 0} (took : T → Documents → Type 0) (s u : State) (n nb : List ℕ) (P : Members → Type 0) (f : Filter) (r : Result T StoreError) → nb ≡ n → IsName n → f ≡ all_of no_filters → Moves s u (PickedOf took nb P f r) → Moves s u (PassedFrom took n P r)
passed_from took s u n nb P f r is good all m =
    moved s u (PickedOf took nb P f r) (PassedFrom took n P r) m
    (λ docs after h. inl (good, subst (λ x. Passed took x P r docs after) is (passed_of took nb P f docs after r (λ d. subst (λ g. Selects g (document d)) (sym all) tt) h)))

-- ---- what each question keeps

abbrev pub HasCopies : Copies → Documents → Type 0
HasCopies t out = bytes_of_each t.bodies.items ≡ map encode out

abbrev pub HasCounted : Count → Documents → Type 0
HasCounted t out = t.number ≡ length out

abbrev pub HasProjected : List (String Global) → Projections → Documents → Type 0
HasProjected keys t out = (t.keys.now ≡ keys) × (bytes_of_each t.bodies.items ≡ map (λ d. encode (only (path_of t.keys.now) d)) out)

pub projected : (keys : List (String Global)) (t : Projections) (out : Documents) → HasProjected keys t out → bytes_of_each t.bodies.items ≡ map (λ d. encode (only (path_of keys) d)) out
projected keys t out h = h.1 ∙ ap (λ ks. map (λ d. encode (only (path_of ks) d)) out) h.0
