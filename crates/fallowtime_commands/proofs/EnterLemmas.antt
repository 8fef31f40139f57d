-- Documents that enter a collection, and what the lists of changes of an import lead to.
use Rattle.std.proofs.Common.{◌≡◌, ◌<◌, ◌≤◌, ◌+◌, inl, inr, ℕ, zero, suc, Bool, true, false, List, [], ◌∷◌, ◌++◌, length, take, get_or, Option, Some, None, Result, Ok, Err, Vec, Global, arith, refl, sym, ap, subst, ◌∙◌}
use Rattle.std.proofs.lemmas.List.{take_all, take_more}
use Rattle.std.specs.Cow.{cow_slice_items}
use Rattle.std.specs.Prelude.{IsSomeAnd, MatchOption, MatchResult, string_bytes}
use Rattle.sqlite.specs.State.{State}
use Rattle.bson_base.specs.Value.{Members, Value, look_up}
use Rattle.bson_bytes.specs.Encode.{encode}
use Rattle.store_documents.proofs.AppendLemmas.{all_accepted}
use Rattle.store_documents.specs.Judging.{AreWrittenRows, Judges}
use Rattle.store_documents.specs.declared.write.KeptRow.{KeptRow}
use Rattle.store_model.proofs.RestoreLemmas.{not_refused, written_reads}
use Rattle.store_model.specs.Reading.{Documents, readable, ReadsBytes, ReadsStream}
use Rattle.store_model.specs.Refusal.{refusal}
use Rattle.store_model.specs.State as model
use Rattle.store_model.specs.State.{Answers, AreKept, AtId, id_key, in_bytes, insert, IsKept, IsName, IsTaken, list_of, NoneHasId, on, Refuses, refused, replace, Reply, SomeHasId, Step, When}
use Rattle.store_model.specs.Table.{DocumentTable, IsRefusal, state_of}
use Rattle.store_model.specs.declared.error.ErrorKind.{ErrorKind}
use Rattle.store_model.specs.declared.error.ErrorKind.TheVariants.{DuplicateId, Memory, NotFound}
use Rattle.store_model.specs.declared.error.StoreError.{StoreError}
use Rattle.store_pipeline.proofs.PlaceLemmas.{zip_more}
use Rattle.store_table.specs.Moves.{Moves}
use Rattle.bson_store.proofs.MoveLemmas.{moved, rests}
use Rattle.bson_store.proofs.WholeLemmas.{take_none}
use Rattle.bson_store.specs.Drafting.{HasInserted, HasReplaced, IsFault, KeepBy, PutBy}
use Rattle.bson_store.specs.Whole.{Accepted, EditBy, StopsAt, WhyNot}
use Rattle.bson_store.specs.declared.edit.Edit.{Edit}
use Rattle.bson_store.specs.declared.edit.Edit.TheVariants.{InsertRaw, KeepRaw, PutRaw, Remove, ReplaceRaw}
use Rattle.bson_store.specs.declared.edit.ListRefusal.{ListRefusal}
use Rattle.fallowtime_commands.proofs.DraftLemmas.{goes_in, own_list}
use Rattle.fallowtime_commands.specs.Importing.{AreEntries, EnterAll, Enters, EntriesOf, ImportsOver, IsEntry, IsUnimported}
use Rattle.fallowtime_commands.specs.Left.{LeavesApplied, LeavesOver}
use Rattle.fallowtime_commands.specs.Performing.{reply_of}
use Rattle.fallowtime_commands.specs.Transferring.{MakesAll}
use Rattle.fallowtime_commands.specs.declared.answer.Answer.{Answer}
use Rattle.fallowtime_commands.specs.declared.answer.Answer.TheVariants as answer

-- ---- one change

-- the document of a change enters
entry_steps : (stays : Bool) (n : List ℕ) (x : Edit) (d : Members) (s : model.State) (r : Reply) (t : model.State) → IsKept d → IsEntry stays n x d → EditBy Step x s r t → Enters stays n d s r t
entry_steps false n (PutRaw name bytes) d s r t kept (named, is) (x, reads, step) =
    let same : x ≡ readable d = (written_reads d kept x).0 (subst (λ (b : List ℕ). ReadsBytes b x) is reads) in
    subst (λ m. PutBy Step m (readable d) s r t) named (subst (λ y. PutBy Step (string_bytes name) y s r t) same step)
entry_steps false n (InsertRaw name bytes) d s r t kept it step = absurd it
entry_steps false n (ReplaceRaw name bytes) d s r t kept it step = absurd it
entry_steps false n (KeepRaw name bytes) d s r t kept it step = absurd it
entry_steps false n (Remove name id) d s r t kept it step = absurd it
entry_steps true n (KeepRaw name bytes) d s r t kept (named, is) (x, reads, step) =
    let same : x ≡ readable d = (written_reads d kept x).0 (subst (λ (b : List ℕ). ReadsBytes b x) is reads) in
    subst (λ m. KeepBy Step m (readable d) s r t) named (subst (λ y. KeepBy Step (string_bytes name) y s r t) same step)
entry_steps true n (InsertRaw name bytes) d s r t kept it step = absurd it
entry_steps true n (ReplaceRaw name bytes) d s r t kept it step = absurd it
entry_steps true n (PutRaw name bytes) d s r t kept it step = absurd it
entry_steps true n (Remove name id) d s r t kept it step = absurd it

-- ---- none is refused for the lists

-- a kept document is replaced if one has its id
replaces : (d : Members) (ds : Documents) (r : Reply) (es : Documents) → IsKept d → Answers (replace in_bytes (readable d)) ds r es
    → IsSomeAnd (look_up id_key d) (λ id. AtId id ds (λ front old back. (r ≡ model.done) × (es ≡ front ++ d ∷ back)) (Refuses NotFound ds r es))
replaces d ds r es kept h =
    subst (λ (o : Option ErrorKind). MatchOption o (IsSomeAnd (look_up id_key d) (λ id. AtId id ds (λ front old back. (r ≡ model.done) × (es ≡ front ++ d ∷ back)) (Refuses NotFound ds r es))) (λ k. Refuses k ds r es)) (not_refused d kept) h

some_or_none : (id : Value) (ds : Documents) → SomeHasId id ds → NoneHasId id ds → ⊥
some_or_none id [] some none = some
some_or_none id (d ∷ ds) (inl has) none = none.0 has
some_or_none id (d ∷ ds) (inr some) none = some_or_none id ds some none.1

-- a replacement that finds nothing leaves the list, in which no document has the id
finds_none : (s m : model.State) (n : List ℕ) (d : Members) → IsName n → IsKept d → Step s (on n (replace in_bytes (readable d))) (refused NotFound None) m → (IsTaken d (list_of m n) → ⊥)
finds_none s m n d good kept (inr (bad, refuses)) taken = bad good
finds_none s m n d good kept (inl (named, (es, answers, is))) taken =
    by (look_up id_key d) (replaces d (list_of s n) (refused NotFound None) es kept answers) (subst (λ ds. IsTaken d ds) (ap (λ x. list_of x n) is ∙ own_list s n es) taken)
  where
    by : (o : Option Value) → IsSomeAnd o (λ id. AtId id (list_of s n) (λ front old back. (refused NotFound None ≡ model.done) × (es ≡ front ++ d ∷ back)) (Refuses NotFound (list_of s n) (refused NotFound None) es))
        → IsSomeAnd o (λ id. SomeHasId id es) → ⊥
    by None h some = absurd h
    by (Some id) (inl (front, old, back, stands, (accepts, left))) some = absurd cc
    by (Some id) (inr (none, (refuses, stays))) some = some_or_none id (list_of s n) (subst (SomeHasId id) stays some) none

entry_goes : (stays : Bool) (n : List ℕ) (d : Members) (s t : model.State) (k : ErrorKind) (i : Option ℕ) → IsName n → IsKept d → Enters stays n d s (refused k i) t → ⊥
entry_goes false n d s t k i good kept (inl (has, inr (bad, refuses))) = bad good
entry_goes false n d s t k i good kept (inl (has, inl (named, (es, answers, is)))) = by (look_up id_key d) (replaces d (list_of s n) (refused k i) es kept answers)
  where
    by : (o : Option Value) → IsSomeAnd o (λ id. AtId id (list_of s n) (λ front old back. (refused k i ≡ model.done) × (es ≡ front ++ d ∷ back)) (Refuses NotFound (list_of s n) (refused k i) es)) → ⊥
    by None h = absurd h
    by (Some id) (inl (front, old, back, stands, (accepts, left))) = absurd cc
    by (Some id) (inr (none, (refuses, stays))) = absurd (subst HasReplaced refuses has)
entry_goes false n d s t k i good kept (inr (m, first, inr (bad, refuses))) = bad good
entry_goes false n d s t k i good kept (inr (m, first, inl (named, (es, answers, is)))) = by (goes_in d (list_of m n) (refused k i) es kept answers)
  where
    by : When (IsTaken d (list_of m n)) (Refuses DuplicateId (list_of m n) (refused k i) es) ((refused k i ≡ model.done) × (es ≡ list_of m n ++ d ∷ [])) → ⊥
    by (inl (taken, refuses)) = finds_none s m n d good kept first taken
    by (inr (free, (accepts, goes))) = absurd cc
entry_goes true n d s t k i good kept (inl (has, inr (bad, refuses))) = bad good
entry_goes true n d s t k i good kept (inl (has, inl (named, (es, answers, is)))) = by (goes_in d (list_of s n) (refused k i) es kept answers)
  where
    by : When (IsTaken d (list_of s n)) (Refuses DuplicateId (list_of s n) (refused k i) es) ((refused k i ≡ model.done) × (es ≡ list_of s n ++ d ∷ [])) → ⊥
    by (inl (taken, (refuses, left))) = absurd (subst HasInserted refuses has)
    by (inr (free, (accepts, goes))) = absurd cc
entry_goes true n d s t k i good kept (inr (is, step)) = absurd cc

-- ---- all of them

module _ (stays : Bool) (n : List ℕ) where
  entries_run : (xs : List Edit) (ds : Documents) (s t : model.State) → AreKept ds → AreEntries stays n xs ds → Accepted s xs t → EnterAll stays n ds s t
  entries_run [] [] s t kept are run = run
  entries_run [] (d ∷ ds) s t kept are run = absurd are
  entries_run (x ∷ xs) [] s t kept are run = absurd are
  entries_run (x ∷ xs) (d ∷ ds) s t kept (it, are) (u, step, run) = (u, entry_steps stays n x d s model.done u kept.0 it step, entries_run xs ds u t kept.1 are run)

  entries_go : (x : Edit) (back : List Edit) (u : model.State) (k : ErrorKind) (i : Option ℕ) → IsName n → EditBy Step x u (refused k i) u → (xs : List Edit) (ds : Documents) (front : List Edit) → AreKept ds → AreEntries stays n xs ds → xs ≡ front ++ x ∷ back → ⊥
  entries_go x back u k i good refuses [] ds [] kept are split = cc
  entries_go x back u k i good refuses [] ds (f ∷ fs) kept are split = cc
  entries_go x back u k i good refuses (y ∷ ys) [] front kept are split = are
  entries_go x back u k i good refuses (y ∷ ys) (d ∷ ds) [] kept (it, are) split =
      let same : y ≡ x = cc in
      entry_goes stays n d u u k i good kept.0 (entry_steps stays n x d u (refused k i) u kept.0 (subst (λ z. IsEntry stays n z d) same it) refuses)
  entries_go x back u k i good refuses (y ∷ ys) (d ∷ ds) (f ∷ fs) kept (it, are) split =
      let rest : ys ≡ fs ++ x ∷ back = cc in
      entries_go x back u k i good refuses ys ds fs kept.1 are rest

  entries_denied : (a : DocumentTable) (xs : List Edit) (ds : Documents) (r : ListRefusal) → IsName n → AreKept ds → AreEntries stays n xs ds → WhyNot a xs r → IsFault r.error
  entries_denied a xs ds r good kept are = by r.position
    where
      at : (i : ℕ) (st : StopsAt a xs i r.error) → IsFault r.error
      at i st = elim st.refuses [
        | inl refuses ↦ absurd (entries_go st.x st.back st.s r.error.kind r.error.document good refuses xs ds st.front kept are st.split)
        | inr denied ↦ denied.0
      ]

      by : (p : Option ℕ) → MatchOption p (IsFault r.error) (λ i. StopsAt a xs i r.error) → IsFault r.error
      by None h = h
      by (Some i) h = at i h

  as_many : (xs : List Edit) (ds : Documents) → AreEntries stays n xs ds → length xs ≡ length ds
  as_many [] [] are = refl
  as_many [] (d ∷ ds) are = absurd are
  as_many (x ∷ xs) [] are = absurd are
  as_many (x ∷ xs) (d ∷ ds) (it, are) = ap suc (as_many xs ds are)

  -- ---- rows, and what a crash leaves

  module _ (bytes : List ℕ) where
    abbrev pub Given : List Edit → Type 0
    Given xs = (ds : Documents) × ReadsStream bytes ds None × AreKept ds × AreEntries stays n xs ds

    pub unimported_moves : (s : State) (e : StoreError) → IsUnimported n bytes e → Moves s s (ImportsOver stays n bytes (Err e))
    unimported_moves s e why = rests s (ImportsOver stays n bytes (Err e)) (λ docs a shown. (why, refl))

    pub unimported_leaves : (s : State) (r : Reply) → IsRefusal r → LeavesOver stays n bytes r s s
    unimported_leaves s r refusal clean first docs beside stands a shown db may = inl (refusal, may)

    pub imported_moves : (s t : State) (xs : List Edit) (k : ℕ) (o : Result Answer StoreError) → IsName n → k ≡ length xs → Given xs → Moves s t (MakesAll xs k o) → Moves s t (ImportsOver stays n bytes o)
    imported_moves s t xs k (Ok x) good count (ds, reads, kept, are) m =
        moved s t (MakesAll xs k (Ok x)) (ImportsOver stays n bytes (Ok x)) m
        (λ docs after (is, does) a shown.
        let b = does.told a shown in
        (good, (ds, reads, kept, is ∙ ap answer.Number (count ∙ as_many xs ds are), (b.b, b.shown, entries_run xs ds (state_of a) (state_of b.b) kept are b.run))))
    imported_moves s t xs k (Err e) good count (ds, reads, kept, are) m =
        moved s t (MakesAll xs k (Err e)) (ImportsOver stays n bytes (Err e)) m
        (λ docs after (r, is, does) a shown. (inr (good, inr (subst IsFault (sym is) (entries_denied a xs ds r good kept are (does.told a shown)))), does.same))

    pub imported_leaves : (s t : State) (xs : List Edit) (o : Result Answer StoreError) → Given xs → LeavesApplied xs o s t → LeavesOver stays n bytes (reply_of o) s t
    imported_leaves s t xs (Ok x) (ds, reads, kept, are) leaves clean first docs beside stands a shown db may =
        let h = leaves clean first docs beside stands a shown db may in
        inr (ds, h.t, reads, entries_run xs ds (state_of a) h.t kept are h.run, h.holds)
    imported_leaves s t xs (Err e) (ds, reads, kept, are) (r, leaves) clean first docs beside stands a shown db may =
        elim (leaves clean first docs beside stands a shown db may) [
          | inl before ↦ inl (tt, before)
          | inr (is, h) ↦ inr (ds, h.t, reads, entries_run xs ds (state_of a) h.t kept are h.run, h.holds)
        ]

  -- ---- one row after the other

  row_at : (rows : List KeptRow) (ds : Documents) (i : ℕ) (x : KeptRow) → AreWrittenRows rows ds → i < length rows → x ≡ get_or rows i x → (d : Members) × (cow_slice_items x.body ≡ encode d) × (d ≡ get_or ds i d) × (i < length ds)
  row_at [] ds i x are low is = absurd (omega (arith, low))
  row_at (y ∷ ys) [] i x are low is = absurd are
  row_at (y ∷ ys) (d ∷ ds) zero x are low is = (d, ap (λ (z : KeptRow). cow_slice_items z.body) is ∙ are.0, refl, omega arith)
  row_at (y ∷ ys) (d ∷ ds) (suc i) x are low is =
      let e = row_at ys ds i x are.2 (omega (arith, low)) is in
      (e.0, e.1, e.2, omega (arith, e.3))

  rows_many : (rows : List KeptRow) (ds : Documents) → AreWrittenRows rows ds → length rows ≡ length ds
  rows_many [] [] are = refl
  rows_many [] (d ∷ ds) are = absurd are
  rows_many (y ∷ ys) [] are = absurd are
  rows_many (y ∷ ys) (d ∷ ds) are = ap suc (rows_many ys ds are.2)

  pub none_entered : (ds : Documents) (xs : List Edit) → xs ≡ [] → AreEntries stays n xs (take 0 ds)
  none_entered ds xs none = subst (λ l. AreEntries stays n xs l) (sym (take_none ds)) (subst (λ ys. AreEntries stays n ys []) (sym none) tt)

  pub one_entered : (rows : List KeptRow) (ds : Documents) (i : ℕ) (x : KeptRow) (y : Edit) (old new : List Edit) → AreWrittenRows rows ds → i < length rows → x ≡ get_or rows i x → ((d : Members) → cow_slice_items x.body ≡ encode d → IsEntry stays n y d) → new ≡ old ++ y ∷ []
      → AreEntries stays n old (take i ds) → AreEntries stays n new (take (i + 1) ds)
  one_entered rows ds i x y old new are low is enters pushed h =
      let e = row_at rows ds i x are low is in
      let next : take (i + 1) ds ≡ take i ds ++ e.0 ∷ [] = take_more ds i e.0 e.3 ∙ ap (λ (d : Members). take i ds ++ d ∷ []) (sym e.2) in
      subst (λ l. AreEntries stays n new l) (sym next) (subst (λ ys. AreEntries stays n ys (take i ds ++ e.0 ∷ [])) (sym pushed) (zip_more (IsEntry stays n) old (take i ds) y e.0 h (enters e.0 e.1)))

  pub all_entered : (rows : List KeptRow) (ds : Documents) (i : ℕ) (xs : List Edit) → AreWrittenRows rows ds → length rows ≤ i → AreEntries stays n xs (take i ds) → AreEntries stays n xs ds
  all_entered rows ds i xs are end h = let long = rows_many rows ds are in subst (λ l. AreEntries stays n xs l) (take_all i ds (omega (arith, long, end))) h

  -- the rows of a stream
  pub judged : (bytes : List ℕ) (rows : List KeptRow) (capacity : Vec KeptRow Global) (o : Result (Vec Edit Global) StoreError) → capacity.items ≡ rows → Judges (ReadsStream bytes) (Ok capacity)
      → ((ds : Documents) → AreWrittenRows rows ds → MatchResult o (λ edits. AreEntries stays n edits.items ds) (λ e. e ≡ refusal Memory)) → EntriesOf stays n bytes o
  judged bytes rows capacity (Ok edits) same (ds, reads, read, none, written) entered = (ds, reads, all_accepted 0 ds read none, entered ds (subst (λ l. AreWrittenRows l ds) same written))
  judged bytes rows capacity (Err e) same (ds, reads, read, none, written) entered = (ds, None, reads, inl (entered ds (subst (λ l. AreWrittenRows l ds) same written)))
