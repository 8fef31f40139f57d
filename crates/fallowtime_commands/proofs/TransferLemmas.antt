-- Whole collections, looked up and then changed by one list.
use Rattle.std.proofs.Common.{◌≡◌, ◌≢◌, ◌<◌, ◌⊎◌, ◌&&◌, ◌==◌, not, Bool, true, false, inl, inr, ℕ, List, [], ◌∷◌, length, map, Result, Ok, Err, Bor, Vec, Global, zero, suc, refl, sym, ap, subst, ◌∙◌, arith}
use Rattle.std.proofs.lemmas.Bool.{eqb-true}
use Rattle.std.proofs.lemmas.List.{length-map}
use Rattle.std.specs.Prelude.{MatchResult}
use Rattle.sqlite.specs.Effect.{Database}
use Rattle.sqlite.specs.State.{State, Survives}
use Rattle.sqlite_trees.specs.Tree.{Trees}
use Rattle.bson_bytes.specs.Encode.{encode}
use Rattle.store_asked.specs.Asking.{AnsweredFrom, AskedFrom}
use Rattle.store_model.proofs.RowLemmas.{list_of-state_of, rows_not_empty}
use Rattle.store_model.specs.Reading.{Documents}
use Rattle.store_model.specs.Refusal.{refusal}
use Rattle.store_model.specs.State.{AreKept, IsName, list_of, Reply}
use Rattle.store_model.specs.Table.{DocumentTable, documents_of, IsRefusal, state_of}
use Rattle.store_model.specs.declared.error.ErrorKind.TheVariants.{BadName, DuplicateId, Memory, NotFound}
use Rattle.store_model.specs.declared.error.StoreError.{StoreError}
use Rattle.store_question.specs.Asked.{all_of, no_asked}
use Rattle.store_question.specs.Reads.{Form, Reads}
use Rattle.store_table.proofs.OthersLemmas.{shows_then}
use Rattle.store_table.specs.Moves.{Moves}
use Rattle.store_table.specs.Rows.{TableRow}
use Rattle.store_table.specs.declared.fault.Fault.TheVariants as faults
use Rattle.bson_store.proofs.ManyLemmas.{kept_there}
use Rattle.bson_store.proofs.MoveLemmas.{moved, moved_twice, rests}
use Rattle.bson_store.specs.Export.{bytes_of_each}
use Rattle.bson_store.specs.Left.{Holds}
use Rattle.bson_store.specs.Shown.{Represents}
use Rattle.bson_store.specs.Drafting.{IsFault}
use Rattle.bson_store.specs.Whole.{HoldsDone}
use Rattle.bson_store.specs.declared.edit.Edit.{Edit}
use Rattle.fallowtime_commands.proofs.DraftLemmas.{draft_denied, draft_leads}
use Rattle.fallowtime_commands.proofs.TotalLemmas.{keeps_all}
use Rattle.fallowtime_commands.specs.Left.{LeavesApplied, LeavesTransfer}
use Rattle.fallowtime_commands.specs.Performing.{reply_of}
use Rattle.fallowtime_commands.specs.Transferring.{Carries, Displaces, Gathers, HasBodies, IsDraft, IsNumber, IsReady, IsUndisplaced, IsUnlisted, IsUntransferred, LeavesCarried, Learns, MakesAll, Readies, displaced, gives_way, transferred, Transfers, TransfersIn}
use Rattle.fallowtime_commands.specs.declared.answer.Answer.{Answer}
use Rattle.fallowtime_commands.specs.declared.answer.Answer.TheVariants as answer
use Rattle.fallowtime_requests.specs.declared.request.Transfer.{Transfer}
use Rattle.fallowtime_requests.specs.declared.request.Transfer.TheVariants as transfer

-- ---- what is known of a collection

-- what was taken of all its documents
learned : {T : Type 0} (took : T → Documents → Type 0) (Is : Documents → T → Type 0) (n : List ℕ) (form : Form) (o : Result T StoreError) (docs after : List TableRow) → Reads form (all_of no_asked)
    → ((ds : Documents) (t : T) → AreKept ds → took t ds → Is ds t) → AskedFrom took n form o docs after → Learns Is n o docs after
learned {T} took Is n form o docs after reads on asked a shown = by o (asked (all_of no_asked) reads)
  where
    by : (r : Result T StoreError) → AnsweredFrom took n (all_of no_asked) r docs after → (after ≡ docs) × MatchResult r (λ t. IsName n × Is (list_of (state_of a) n) t) (IsUnlisted n)
    by (Ok t) (inl (good, answered)) =
        let k = answered.taken a shown in
        let all : k.0 ≡ documents_of a n = keeps_all (documents_of a n) k.0 k.1 in
        let kept : AreKept k.0 = subst AreKept (sym all) (kept_there docs a n shown) in
        (answered.same, (good, subst (λ ds. Is ds t) (all ∙ sym (list_of-state_of a n)) (on k.0 t kept k.2)))
    by (Ok t) (inr (bad, is, stays)) = absurd cc
    by (Err e) (inl (good, answered)) = let x = answered.denied a shown in (answered.same, inr (x.0, x.2))
    by (Err e) (inr (bad, is, stays)) = let same : e ≡ refusal BadName = cc in (stays, inl (bad, same))

pub learns : {T : Type 0} (took : T → Documents → Type 0) (Is : Documents → T → Type 0) (n : List ℕ) (form : Form) (o : Result T StoreError) (s t : State) → Reads form (all_of no_asked)
    → ((ds : Documents) (t : T) → AreKept ds → took t ds → Is ds t) → Moves s t (AskedFrom took n form o) → Moves s t (Learns Is n o)
learns took Is n form o s t reads on m = moved s t (AskedFrom took n form o) (Learns Is n o) m (λ docs after h. learned took Is n form o docs after reads on h)

-- ---- whether documents may go

some_there : (ds : Documents) → 0 < length ds → ds ≢ []
some_there [] some = absurd (omega (arith, some))
some_there (d ∷ ds) some = λ e. cc

none_there : (ds : Documents) → length ds ≡ 0 → ds ≡ []
none_there [] none = refl
none_there (d ∷ ds) none = absurd cc

-- what a number of others, and whether they give way, say
pub taken_so : (l : ℕ) (way : Bool) → not (l == 0) && not way ≡ true → (0 < l) × (way ≡ false)
taken_so l true h = absurd (by (not (l == 0)) h)
  where
    by : (b : Bool) → b && false ≡ true → ⊥
    by true e = cc
    by false e = cc
taken_so zero false h = absurd cc
taken_so (suc l) false h = (omega arith, refl)

pub free_so : (l : ℕ) (way : Bool) → not (l == 0) && not way ≡ false → (l ≡ 0) ⊎ (way ≡ true)
free_so l true h = inr refl
free_so zero false h = inl refl
free_so (suc l) false h = absurd (by (suc l == 0) refl h)
  where
    by : (b : Bool) → suc l == 0 ≡ b → not b && true ≡ false → ⊥
    by true e t = let z : suc l ≡ 0 = eqb-true (suc l) 0 e in omega (arith, z)
    by false e t = absurd cc

module _ (n : List ℕ) (new : Bor (List ℕ)) (drops : Bool) where
  abbrev How : Transfer
  How = transfer.Rename new drops

  abbrev Way : Bool
  Way = gives_way drops n new.now

  pub unknown : (s t : State) (e : StoreError) → Moves s t (Learns IsNumber n (Err e)) → Moves s t (Readies How n (Err e))
  unknown s t e m = moved s t (Learns IsNumber n (Err e)) (Readies How n (Err e)) m (λ docs after h a shown. let x = h a shown in (x.0, inl x.1))

  pub absent : (s t : State) (k : ℕ) (e : StoreError) → k ≡ 0 → e ≡ refusal NotFound → Moves s t (Learns IsNumber n (Ok k)) → Moves s t (Readies How n (Err e))
  absent s t k e none is m =
      moved s t (Learns IsNumber n (Ok k)) (Readies How n (Err e)) m (λ docs after h a shown.
      let x = h a shown in
      (x.0, inr (inl (none_there (list_of (state_of a) n) (sym x.1.1 ∙ none), is))))

  module _ (s m t : State) (k : ℕ) (some : 0 < k) (first : Moves s m (Learns IsNumber n (Ok k))) where
    pub untold : (e : StoreError) → Moves m t (Learns IsNumber new.now (Err e)) → Moves s t (Readies How n (Err e))
    untold e second =
        moved_twice s m t (Learns IsNumber n (Ok k)) (Learns IsNumber new.now (Err e)) (Readies How n (Err e)) first second
        (λ docs mid after h g a shown.
        let x = h a shown in
        let y = g a (subst (λ rows. Represents rows a) (sym x.0) shown) in
        (y.0 ∙ x.0, by a (subst (λ i. 0 < i) x.1.1 some) y.1))
      where
        by : (a : DocumentTable) → 0 < length (list_of (state_of a) n) → IsUnlisted new.now e → IsUntransferred How n (state_of a) e
        by a there (inl (bad, is)) = inr (inr (some_there (list_of (state_of a) n) there, inl (bad, is)))
        by a there (inr fault) = inl (inr fault)

    pub taken : (l : ℕ) (e : StoreError) → not (l == 0) && not Way ≡ true → e ≡ refusal DuplicateId → Moves m t (Learns IsNumber new.now (Ok l)) → Moves s t (Readies How n (Err e))
    taken l e there is second =
        let so = taken_so l Way there in
        moved_twice s m t (Learns IsNumber n (Ok k)) (Learns IsNumber new.now (Ok l)) (Readies How n (Err e)) first second
        (λ docs mid after h g a shown.
        let x = h a shown in
        let y = g a (subst (λ rows. Represents rows a) (sym x.0) shown) in
        (y.0 ∙ x.0, inr (inr (some_there (list_of (state_of a) n) (subst (λ i. 0 < i) x.1.1 some), inr (some_there (list_of (state_of a) new.now) (subst (λ i. 0 < i) y.1.1 so.0), so.1, is)))))

    pub ready : (l : ℕ) → not (l == 0) && not Way ≡ false → Moves m t (Learns IsNumber new.now (Ok l)) → Moves s t (Readies How n (Ok tt))
    ready l free second =
        moved_twice s m t (Learns IsNumber n (Ok k)) (Learns IsNumber new.now (Ok l)) (Readies How n (Ok tt)) first second
        (λ docs mid after h g a shown.
        let x = h a shown in
        let y = g a (subst (λ rows. Represents rows a) (sym x.0) shown) in
        (y.0 ∙ x.0, (some_there (list_of (state_of a) n) (subst (λ i. 0 < i) x.1.1 some), y.1.0, by (list_of (state_of a) new.now) y.1.1 (free_so l Way free))))
      where
        by : (ds : Documents) → l ≡ length ds → (l ≡ 0) ⊎ (Way ≡ true) → (ds ≡ []) ⊎ (Way ≡ true)
        by ds long (inl none) = inl (none_there ds (sym long ∙ none))
        by ds long (inr way) = inr way

-- ---- the list of changes

abbrev pub Bodies : Type 0
Bodies = Vec (Vec ℕ Global) Global

-- what is where others take their place
pub displaces_some : (new : Bor (List ℕ)) (drops : Bool) (s t : State) (o : Result Bodies StoreError) → Moves s t (Learns HasBodies new.now o) → Moves s t (Displaces (transfer.Rename new drops) o)
displaces_some new drops s t o m = moved s t (Learns HasBodies new.now o) (Displaces (transfer.Rename new drops) o) m (λ docs after h a shown. by docs after a o (h a shown))
  where
    by : (docs after : List TableRow) (a : DocumentTable) (r : Result Bodies StoreError) → (after ≡ docs) × MatchResult r (λ t. IsName new.now × HasBodies (list_of (state_of a) new.now) t) (IsUnlisted new.now)
        → (after ≡ docs) × MatchResult r (HasBodies (list_of (state_of a) new.now)) (IsUnlisted new.now)
    by docs after a (Ok bodies) (same, there) = (same, there.1)
    by docs after a (Err e) (same, why) = (same, why)

pub displaces_none : (how : Transfer) (s : State) (bodies : Bodies) → ((a : DocumentTable) → HasBodies (displaced how (state_of a)) bodies) → Moves s s (Displaces how (Ok bodies))
displaces_none how s bodies are = rests s (Displaces how (Ok bodies)) (λ docs a shown. (refl, are a))

module _ (n : List ℕ) (how : Transfer) where
  -- the changes are those of the documents of these bodies
  abbrev pub Drafts : Bodies → Bodies → List Edit → Type 0
  Drafts bodies others xs = (ds es : Documents) → AreKept ds → bytes_of_each bodies.items ≡ map encode ds → AreKept es → bytes_of_each others.items ≡ map encode es → IsDraft how n ds es xs

  abbrev pub Undrafted : Bodies → Bodies → StoreError → Type 0
  Undrafted bodies others e = (ds es : Documents) → AreKept ds → bytes_of_each bodies.items ≡ map encode ds → AreKept es → bytes_of_each others.items ≡ map encode es → e ≡ refusal Memory

  abbrev Gathered : Bodies → Bodies → List TableRow → List TableRow → Type 0
  Gathered bodies others = Gathers how n (Ok (bodies, others))

  -- ---- two look-ups

  pub unread_moves : (s t : State) (e : StoreError) → Moves s t (Learns HasBodies n (Err e)) → Moves s t (Gathers how n (Err e))
  unread_moves s t e m = moved s t (Learns HasBodies n (Err e)) (Gathers how n (Err e)) m (λ docs after h a shown. let x = h a shown in (x.0, inl x.1))

  module _ (s m t : State) (bodies : Bodies) (first : Moves s m (Learns HasBodies n (Ok bodies))) where
    pub others_unread_moves : (e : StoreError) → Moves m t (Displaces how (Err e)) → Moves s t (Gathers how n (Err e))
    others_unread_moves e second =
        moved_twice s m t (Learns HasBodies n (Ok bodies)) (Displaces how (Err e)) (Gathers how n (Err e)) first second
        (λ docs mid after h g a shown.
        let x = h a shown in
        let y = g a (subst (λ rows. Represents rows a) (sym x.0) shown) in
        (y.0 ∙ x.0, inr y.1))

    pub gathered_moves : (others : Bodies) → Moves m t (Displaces how (Ok others)) → Moves s t (Gathered bodies others)
    gathered_moves others second =
        moved_twice s m t (Learns HasBodies n (Ok bodies)) (Displaces how (Ok others)) (Gathered bodies others) first second
        (λ docs mid after h g a shown.
        let x = h a shown in
        let y = g a (subst (λ rows. Represents rows a) (sym x.0) shown) in
        (y.0 ∙ x.0, (x.1.0, x.1.1, y.1)))

  -- ---- and the changes

  -- where the documents may go, the other name is one
  unlisted_is : (a : DocumentTable) (e : StoreError) → IsReady how n (state_of a) → IsUnlisted n e ⊎ IsUndisplaced how e → IsUntransferred how n (state_of a) e
  unlisted_is a e ready (inl unlisted) = inl unlisted
  unlisted_is a e ready (inr undisplaced) = inl (inr (by how ready undisplaced))
    where
      by : (w : Transfer) → IsReady w n (state_of a) → IsUndisplaced w e → IsFault e
      by transfer.Drop may none = absurd none
      by (transfer.Copy new) may none = absurd none
      by (transfer.Rename new drops) may (inl (bad, is)) = absurd (bad may.1)
      by (transfer.Rename new drops) may (inr fault) = fault

  pub ungathered_moves : (s t : State) (e : StoreError) → Moves s t (Gathers how n (Err e)) → Moves s t (Carries n how (Err e))
  ungathered_moves s t e m = moved s t (Gathers how n (Err e)) (Carries n how (Err e)) m (λ docs after h a shown ready. let x = h a shown in (unlisted_is a e ready x.1, x.0))

  pub undrafted_moves : (s t : State) (bodies others : Bodies) (e : StoreError) → Undrafted bodies others e → Moves s t (Gathered bodies others) → Moves s t (Carries n how (Err e))
  undrafted_moves s t bodies others e why m =
      moved s t (Gathered bodies others) (Carries n how (Err e)) m
      (λ docs after h a shown ready.
      let x = h a shown in
      (inl (inr (faults.Memory, why (list_of (state_of a) n) (displaced how (state_of a)) x.1.1.0 x.1.1.1 x.1.2.0 x.1.2.1)), x.0))

  -- the changes are those of the documents that the rows show
  abbrev DraftsOf : DocumentTable → List Edit → Type 0
  DraftsOf a xs = IsDraft how n (list_of (state_of a) n) (displaced how (state_of a)) xs

  made : (a : DocumentTable) (xs : List Edit) (k : ℕ) (o : Result Answer StoreError) (docs after : List TableRow) → Represents docs a → IsReady how n (state_of a) → IsName n → AreKept (list_of (state_of a) n) → AreKept (displaced how (state_of a)) → DraftsOf a xs
      → k ≡ length (list_of (state_of a) n) → MakesAll xs k o docs after → TransfersIn how n (state_of a) o docs after
  made a xs k (Ok x) docs after shown ready good kept others draft count (is, does) =
      let b = does.told a shown in
      (good, ready, is ∙ ap answer.Number count, (b.b, b.shown, draft_leads how n xs (state_of a) (state_of b.b) (rows_not_empty a) kept others ready draft b.run))
  made a xs k (Err e) docs after shown ready good kept others draft count (r, is, does) =
      (inl (inr (subst IsFault (sym is) (draft_denied how n a xs r shown.good good others ready draft (does.told a shown)))), does.same)

  -- as many bodies as documents
  many_are : (bodies : Bodies) (ds : Documents) (k : ℕ) → k ≡ length bodies.items → bytes_of_each bodies.items ≡ map encode ds → k ≡ length ds
  many_are bodies ds k count are = count ∙ (sym (length-map bodies.items (λ (v : Vec ℕ Global). v.items)) ∙ (ap length are ∙ length-map ds encode))

  pub made_moves : (s m t : State) (bodies others : Bodies) (xs : List Edit) (k : ℕ) (o : Result Answer StoreError) → k ≡ length bodies.items → Drafts bodies others xs → Moves s m (Gathered bodies others) → Moves m t (MakesAll xs k o) → Moves s t (Carries n how o)
  made_moves s m t bodies others xs k o count drafts first second =
      moved_twice s m t (Gathered bodies others) (MakesAll xs k o) (Carries n how o) first second
      (λ docs mid after h makes a shown ready.
      let x = h a shown in
      let ds = list_of (state_of a) n in
      let es = displaced how (state_of a) in
      let there : Represents mid a = subst (λ rows. Represents rows a) (sym x.0) shown in
      subst (λ rows. TransfersIn how n (state_of a) o rows after) x.0
      (made a xs k o mid after there ready x.1.0 x.1.1.0 x.1.2.0 (drafts ds es x.1.1.0 x.1.1.1 x.1.2.0 x.1.2.1) (many_are bodies ds k count x.1.1.1) makes))

  -- ---- what a crash leaves

  pub refused_leaves : (s t : State) (r : Reply) → IsRefusal r → Survives s t (λ _. ⊥) → LeavesCarried n how r s t
  refused_leaves s t r refusal survives clean first docs beside stands a shown db may ready = inl (refusal, elim (survives.crash clean db may) [ inl was ↦ was | inr none ↦ absurd none ])

  after_all : (first : Database) (a : DocumentTable) (xs : List Edit) (db : Trees) → AreKept (list_of (state_of a) n) → AreKept (displaced how (state_of a)) → IsReady how n (state_of a) → DraftsOf a xs → HoldsDone first a xs db → Holds first db (transferred how n (state_of a))
  after_all first a xs db kept others ready draft h = subst (Holds first db) (draft_leads how n xs (state_of a) h.t (rows_not_empty a) kept others ready draft h.run) h.holds

  pub made_leaves : (s m t : State) (bodies others : Bodies) (xs : List Edit) (k : ℕ) (o : Result Answer StoreError) → Drafts bodies others xs → Moves s m (Gathered bodies others) → Survives s m (λ _. ⊥) → Moves m t (MakesAll xs k o) → LeavesApplied xs o m t
      → LeavesCarried n how (reply_of o) s t
  made_leaves s m t bodies others xs k (Ok x) drafts first_move survives second_move leaves clean first docs beside stands a shown db may ready =
      let early = (second_move clean).0 in
      let y = (first_move early).1 docs stands in
      let f = y.2 a shown in
      let there : Represents y.0 a = subst (λ rows. Represents rows a) (sym f.0) shown in
      let draft = drafts (list_of (state_of a) n) (displaced how (state_of a)) f.1.1.0 f.1.1.1 f.1.2.0 f.1.2.1 in
      inr (after_all first a xs db f.1.1.0 f.1.2.0 ready draft (leaves clean first y.0 (shows_then first s m beside y.3) y.1 a there db may))
  made_leaves s m t bodies others xs k (Err e) drafts first_move survives second_move (r, leaves) clean first docs beside stands a shown db may ready =
      let early = (second_move clean).0 in
      let y = (first_move early).1 docs stands in
      let f = y.2 a shown in
      let there : Represents y.0 a = subst (λ rows. Represents rows a) (sym f.0) shown in
      let draft = drafts (list_of (state_of a) n) (displaced how (state_of a)) f.1.1.0 f.1.1.1 f.1.2.0 f.1.2.1 in
      elim (leaves clean first y.0 (shows_then first s m beside y.3) y.1 a there db may) [
        | inl before ↦ inl (tt, elim (survives.crash early db before) [ inl was ↦ was | inr none ↦ absurd none ])
        | inr done ↦ inr (after_all first a xs db f.1.1.0 f.1.2.0 ready draft done.1)
      ]

  -- ---- with the test in front

  pub untested_moves : (s t : State) (e : StoreError) → Moves s t (Readies how n (Err e)) → Moves s t (Transfers n how (Err e))
  untested_moves s t e m = moved s t (Readies how n (Err e)) (Transfers n how (Err e)) m (λ docs after h a shown. let x = h a shown in (x.1, x.0))

  pub carried_moves : (s m t : State) (o : Result Answer StoreError) → Moves s m (Readies how n (Ok tt)) → Moves m t (Carries n how o) → Moves s t (Transfers n how o)
  carried_moves s m t o first second =
      moved_twice s m t (Readies how n (Ok tt)) (Carries n how o) (Transfers n how o) first second
      (λ docs mid after h g a shown.
      let x = h a shown in
      subst (λ rows. TransfersIn how n (state_of a) o rows after) x.0 (g a (subst (λ rows. Represents rows a) (sym x.0) shown) x.1))

  pub untested_leaves : (s t : State) (r : Reply) → IsRefusal r → Survives s t (λ _. ⊥) → LeavesTransfer n how r s t
  untested_leaves s t r refusal survives clean first docs beside stands a shown db may = inl (refusal, elim (survives.crash clean db may) [ inl was ↦ was | inr none ↦ absurd none ])

  pub carried_leaves : (s m t : State) (o : Result Answer StoreError) (r : Reply) → Moves s m (Readies how n (Ok tt)) → Survives s m (λ _. ⊥) → Moves m t (Carries n how o) → LeavesCarried n how r m t → LeavesTransfer n how r s t
  carried_leaves s m t o r first_move survives second_move leaves clean first docs beside stands a shown db may =
      let early = (second_move clean).0 in
      let y = (first_move early).1 docs stands in
      let f = y.2 a shown in
      let there : Represents y.0 a = subst (λ rows. Represents rows a) (sym f.0) shown in
      elim (leaves clean first y.0 (shows_then first s m beside y.3) y.1 a there db may f.1) [
        | inl before ↦ inl (before.0, elim (survives.crash early db before.1) [ inl was ↦ was | inr none ↦ absurd none ])
        | inr has ↦ inr (f.1, has)
      ]
