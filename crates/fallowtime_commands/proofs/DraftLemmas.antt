-- What the lists of changes of a whole collection lead to.
use Rattle.std.proofs.Common.{◌≡◌, ◌≢◌, ◌<◌, ◌≤◌, ◌+◌, ◌⊎◌, inl, inr, ℕ, zero, suc, List, [], ◌∷◌, ◌++◌, length, map, take, get_or, Vec, Global, arith, Bool, true, false, not, cond, Option, Some, None, Result, Ok, Err, Bor, refl, sym, ap, ap₂, subst, ◌∙◌, append_assoc, append-nil}
use Rattle.std.proofs.lemmas.List.{length-map, take_all, take_more}
use Rattle.std.specs.Prelude.{bytes_eq, IsSomeAnd, MatchOption, MatchResult}
use Rattle.std.specs.FinMap.{get}
use Rattle.bson_base.proofs.MemberLemmas.{same_key}
use Rattle.bson_base.specs.Value.{Members, Value, look_up}
use Rattle.bson_bytes.specs.Encode.{encode}
use Rattle.bson_meaning.proofs.NowLemmas.{same_itself}
use Rattle.bson_meaning.specs.Meaning.{Same}
use Rattle.bson_model.specs.View.{view}
use Rattle.store_model.proofs.IdLemmas.{own_of}
use Rattle.store_model.proofs.KeptLemmas.{none_taken, taken_back, taken_if, taken_split}
use Rattle.store_model.proofs.KeyLemmas.{rows_are_a_state}
use Rattle.store_model.proofs.RowLemmas.{rows_not_empty}
use Rattle.store_model.proofs.RestoreLemmas.{not_refused, written_reads}
use Rattle.store_model.proofs.StateLemmas.{HasNoEmpty, list_of-store, never_empty, same_lists, stored_again}
use Rattle.store_model.specs.Reading.{Documents, IsRead, readable, ReadsBytes}
use Rattle.store_model.specs.Table.{AreRows, DocumentTable, state_of}
use Rattle.store_model.specs.State.{Answers, AreKept, done, HasId, HaveOwnIds, id_key, in_bytes, insert, IsKept, IsName, IsStore, IsTaken, list_of, NoneHasId, on, Refuses, refused, remove, Reply, SomeHasId, State, Step, store, When}
use Rattle.store_model.specs.declared.error.ErrorKind.{ErrorKind}
use Rattle.store_model.specs.declared.error.ErrorKind.TheVariants.{DuplicateId, Memory}
use Rattle.store_model.specs.declared.error.StoreError.{StoreError}
use Rattle.store_pipeline.proofs.PlaceLemmas.{zip_more}
use Rattle.store_model.specs.Refusal.{refusal}
use Rattle.bson_store.proofs.WholeLemmas.{take_none}
use Rattle.bson_store.specs.Export.{bytes_of_each}
use Rattle.bson_store.specs.Drafting.{IsFault}
use Rattle.bson_store.specs.Whole.{Accepted, EditBy, StopsAt, WhyNot}
use Rattle.bson_store.specs.declared.edit.Edit.{Edit}
use Rattle.bson_store.specs.declared.edit.Edit.TheVariants.{InsertRaw, KeepRaw, PutRaw, Remove, ReplaceRaw}
use Rattle.bson_store.specs.declared.edit.ListRefusal.{ListRefusal}
use Rattle.fallowtime_commands.proofs.ChangeLemmas.{entry, one_more}
use Rattle.fallowtime_commands.specs.Changing.{AreEdits, IsRemoval, listed}
use Rattle.fallowtime_commands.specs.Transferring.{AreInsertions, IsDraft, IsInsertion, IsReady, displaced, gives_way, transferred}
use Rattle.fallowtime_requests.specs.declared.request.Transfer.{Transfer}
use Rattle.fallowtime_requests.specs.declared.request.Transfer.TheVariants as transfer
use Rattle.fallowtime_requests.specs.declared.request.Work.TheVariants as work

-- ---- lists of a state

store_twice : (s : State) (n : List ℕ) (xs ys : Documents) → HasNoEmpty s → store (store s n xs) n ys ≡ store s n ys
store_twice s n xs ys whole =
    same_lists _ _ (λ m. never_empty (store s n xs) n m ys (λ k. never_empty s n k xs whole)) (λ m. never_empty s n m ys whole)
    (λ m. list_of-store (store s n xs) n m ys ∙ (by m (bytes_eq m n) (list_of-store s n m xs) ∙ sym (list_of-store s n m ys)))
  where
    by : (m : List ℕ) (b : Bool) → list_of (store s n xs) m ≡ cond b xs (list_of s m) → cond b ys (list_of (store s n xs) m) ≡ cond b ys (list_of s m)
    by m true e = refl
    by m false e = e

pub own_list : (s : State) (n : List ℕ) (ds : Documents) → list_of (store s n ds) n ≡ ds
own_list s n ds = list_of-store s n n ds ∙ ap (λ b. cond b ds (list_of s n)) (same_key n)

-- a list that is empty stays so, whatever other list is
still_empty : (s : State) (n m : List ℕ) → list_of s m ≡ [] → list_of (store s n []) m ≡ []
still_empty s n m none = list_of-store s n m [] ∙ by (bytes_eq m n)
  where
    by : (b : Bool) → cond b [] (list_of s m) ≡ []
    by true = refl
    by false = none

-- a list that stays when another one is emptied: it is empty, or it is another one
stays_there : (s : State) (n m : List ℕ) (drops : Bool) → (list_of s m ≡ []) ⊎ (gives_way drops n m ≡ true) → list_of (store s n []) m ≡ list_of s m
stays_there s n m drops (inl none) = still_empty s n m none ∙ sym none
stays_there s n m false (inr way) = absurd cc
stays_there s n m true (inr way) = list_of-store s n m [] ∙ by (bytes_eq m n) way
  where
    by : (b : Bool) → not b ≡ true → cond b [] (list_of s m) ≡ list_of s m
    by true e = absurd cc
    by false e = refl

none_empty : (s t : State) (n : List ℕ) (ds : Documents) → HasNoEmpty s → t ≡ store s n ds → HasNoEmpty t
none_empty s t n ds whole is = λ m. subst (λ (y : State). get y m ≢ Some []) (sym is) (never_empty s n m ds whole)

-- ---- one change

has_own : (d : Members) (id : Value) → IsKept d → look_up id_key d ≡ Some id → HasId id d
has_own d id kept own = subst (λ (o : Option Value). IsSomeAnd o (λ v. Same v id)) (sym own) (same_itself id (own_of d id kept own).sound)

-- a kept document goes in, if its id isn't taken
pub goes_in : (d : Members) (ds : Documents) (r : Reply) (es : Documents) → IsKept d → Answers (insert in_bytes (readable d)) ds r es → When (IsTaken d ds) (Refuses DuplicateId ds r es) ((r ≡ done) × (es ≡ ds ++ d ∷ []))
goes_in d ds r es kept h =
    subst (λ (o : Option ErrorKind). MatchOption o (When (IsTaken d ds) (Refuses DuplicateId ds r es) ((r ≡ done) × (es ≡ ds ++ d ∷ []))) (λ k. Refuses k ds r es)) (not_refused d kept) h

inserted : (s t : State) (n : List ℕ) (d : Members) → IsKept d → Step s (on n (insert in_bytes (readable d))) done t → t ≡ store s n (list_of s n ++ d ∷ [])
inserted s t n d kept (inl (good, (es, answers, is))) = is ∙ ap (store s n) (by (goes_in d (list_of s n) done es kept answers))
  where
    by : When (IsTaken d (list_of s n)) (Refuses DuplicateId (list_of s n) done es) ((done ≡ done) × (es ≡ list_of s n ++ d ∷ [])) → es ≡ list_of s n ++ d ∷ []
    by (inl (taken, (refuses, stays))) = absurd cc
    by (inr (free, (accepts, goes))) = goes
inserted s t n d kept (inr (bad, (refuses, stays))) = absurd cc

-- the first document with an id is the first of all, if that has it
pub first_out : (d : Members) (ds front : Documents) (e : Members) (back : Documents) (id : Value) → HasId id d → d ∷ ds ≡ front ++ e ∷ back → NoneHasId id front → front ++ back ≡ ds
first_out d ds [] e back id has split before = let same : ds ≡ back = cc in sym same
first_out d ds (c ∷ front) e back id has split before = let same : d ≡ c = cc in absurd (before.0 (subst (HasId id) same has))

removed : (s t : State) (n : List ℕ) (id : Value) (d : Members) (ds : Documents) → IsKept d → look_up id_key d ≡ Some id → list_of s n ≡ d ∷ ds → Step s (on n (remove id)) done t → t ≡ store s n ds
removed s t n id d ds kept own all (inl (good, (es, answers, is))) = is ∙ ap (store s n) (by answers)
  where
    by : Answers (remove id) (list_of s n) done es → es ≡ ds
    by (inl (front, e, back, stands, (accepts, left))) = left ∙ first_out d ds front e back id (has_own d id kept own) (sym all ∙ stands.split) stands.before
    by (inr (none, (refuses, stays))) = absurd cc
removed s t n id d ds kept own all (inr (bad, (refuses, stays))) = absurd cc

-- the step that an insertion is
pub insertion_steps : (n : List ℕ) (x : Edit) (d : Members) (s : State) (r : Reply) (t : State) → IsKept d → IsInsertion n x d → EditBy Step x s r t → Step s (on n (insert in_bytes (readable d))) r t
insertion_steps n (InsertRaw name bytes) d s r t kept (named, is) (x, reads, step) =
    let same : x ≡ readable d = (written_reads d kept x).0 (subst (λ (b : List ℕ). ReadsBytes b x) is reads) in
    subst (λ c. Step s c r t) (ap₂ (λ m y. on m (insert in_bytes y)) named same) step
insertion_steps n (ReplaceRaw name bytes) d s r t kept it step = absurd it
insertion_steps n (PutRaw name bytes) d s r t kept it step = absurd it
insertion_steps n (KeepRaw name bytes) d s r t kept it step = absurd it
insertion_steps n (Remove name id) d s r t kept it step = absurd it

-- the step that a removal is
pub removal_steps : (n : List ℕ) (x : Edit) (d : Members) (s : State) (r : Reply) (t : State) → IsRemoval n d x → EditBy Step x s r t → (id : Value) × (look_up id_key d ≡ Some id) × Step s (on n (remove id)) r t
removal_steps n (Remove name id) d s r t (named, own) step = (view id, own, subst (λ m. Step s (on m (remove (view id))) r t) named step)
removal_steps n (InsertRaw name bytes) d s r t it step = absurd it
removal_steps n (ReplaceRaw name bytes) d s r t it step = absurd it
removal_steps n (PutRaw name bytes) d s r t it step = absurd it
removal_steps n (KeepRaw name bytes) d s r t it step = absurd it

-- ---- all of them

insertions_run : (n : List ℕ) (xs : List Edit) (ds : Documents) (s t : State) → HasNoEmpty s → AreKept ds → AreInsertions n xs ds → Accepted s xs t → t ≡ store s n (list_of s n ++ ds)
insertions_run n [] [] s t whole kept are run = run ∙ sym (ap (store s n) (append-nil (list_of s n)) ∙ stored_again s n whole)
insertions_run n [] (d ∷ ds) s t whole kept are run = absurd are
insertions_run n (x ∷ xs) [] s t whole kept are run = absurd are
insertions_run n (x ∷ xs) (d ∷ ds) s t whole kept (it, are) (u, step, run) =
    let first : u ≡ store s n (list_of s n ++ d ∷ []) = inserted s u n d kept.0 (insertion_steps n x d s done u kept.0 it step) in
    let rest : t ≡ store u n (list_of u n ++ ds) = insertions_run n xs ds u t (none_empty s u n (list_of s n ++ d ∷ []) whole first) kept.1 are run in
    let there : list_of u n ≡ list_of s n ++ d ∷ [] = ap (λ y. list_of y n) first ∙ own_list s n (list_of s n ++ d ∷ []) in
    rest ∙ (ap (λ y. store y n (list_of u n ++ ds)) first ∙ (store_twice s n (list_of s n ++ d ∷ []) (list_of u n ++ ds) whole
    ∙ ap (store s n) (ap (λ l. l ++ ds) there ∙ append_assoc (list_of s n) (d ∷ []) ds)))

removals_run : (n : List ℕ) (ds : Documents) (xs : List Edit) (s t : State) → HasNoEmpty s → AreKept ds → list_of s n ≡ ds → AreEdits n work.Remove ds xs → Accepted s xs t → t ≡ store s n []
removals_run n [] xs s t whole kept all none run = subst (λ ys. Accepted s ys t) none run ∙ sym (ap (store s n) (sym all) ∙ stored_again s n whole)
removals_run n (d ∷ ds) xs s t whole kept all (change, rest, (x, removes, is), more, split) run = by (subst (λ ys. Accepted s ys t) (split ∙ ap (λ o. listed o ++ rest) is) run) (λ u clean here goes. removals_run n ds rest u t clean kept.1 here more goes)
  where
    by : Accepted s (x ∷ rest) t → ((u : State) → HasNoEmpty u → list_of u n ≡ ds → Accepted u rest t → t ≡ store u n []) → t ≡ store s n []
    by (u, step, goes) onward =
        let r = removal_steps n x d s done u removes step in
        let first : u ≡ store s n ds = removed s u n r.0 d ds kept.0 r.1 all r.2 in
        let last : t ≡ store u n [] = onward u (none_empty s u n ds whole first) (ap (λ y. list_of y n) first ∙ own_list s n ds) goes in
        last ∙ (ap (λ y. store y n []) first ∙ store_twice s n ds [] whole)

-- two lists of changes, one after the other
split_run : (xs ys : List Edit) (s t : State) → Accepted s (xs ++ ys) t → (u : State) × Accepted s xs u × Accepted u ys t
split_run [] ys s t run = (s, refl, run)
split_run (x ∷ xs) ys s t (v, step, run) = let r = split_run xs ys v t run in (r.0, (v, step, r.1), r.2)

-- those of a copy never give way
no_way : (ds : Documents) → (ds ≡ []) ⊎ (false ≡ true) → ds ≡ []
no_way ds (inl none) = none
no_way ds (inr way) = absurd cc

pub draft_leads : (how : Transfer) (n : List ℕ) (xs : List Edit) (s t : State) → HasNoEmpty s → AreKept (list_of s n) → AreKept (displaced how s) → IsReady how n s → IsDraft how n (list_of s n) (displaced how s) xs → Accepted s xs t → t ≡ transferred how n s
draft_leads transfer.Drop n xs s t whole kept others ready removals run = removals_run n (list_of s n) xs s t whole kept refl removals run
draft_leads (transfer.Copy new) n xs s t whole kept others ready insertions run =
    insertions_run new.now xs (list_of s n) s t whole kept insertions run ∙ ap (λ l. store s new.now (l ++ list_of s n)) (no_way (list_of s new.now) ready.2)
draft_leads (transfer.Rename new drops) n xs s t whole kept others ready (ys, rs, zs, removals, more, insertions, is) run =
    let r = split_run (ys ++ rs) zs s t (subst (λ l. Accepted s l t) is run) in
    let q = split_run ys rs s r.0 r.1 in
    let first : q.0 ≡ store s n [] = removals_run n (list_of s n) ys s q.0 whole kept refl removals q.1 in
    let there : list_of q.0 new.now ≡ list_of s new.now = ap (λ y. list_of y new.now) first ∙ stays_there s n new.now drops ready.2 in
    let clean = none_empty s q.0 n [] whole first in
    let second : r.0 ≡ store q.0 new.now [] = removals_run new.now (list_of s new.now) rs q.0 r.0 clean others there more q.2 in
    let last : t ≡ store r.0 new.now (list_of r.0 new.now ++ list_of s n) = insertions_run new.now zs (list_of s n) r.0 t (none_empty q.0 r.0 new.now [] clean second) kept insertions r.2 in
    let none : list_of r.0 new.now ≡ [] = ap (λ y. list_of y new.now) second ∙ own_list q.0 new.now [] in
    last ∙ (ap (λ l. store r.0 new.now (l ++ list_of s n)) none ∙ (ap (λ y. store y new.now (list_of s n)) second ∙ (store_twice q.0 new.now [] (list_of s n) clean
    ∙ ap (λ y. store y new.now (list_of s n)) first)))

-- ---- none of them is refused for the lists

some_here : (id : Value) (ds : Documents) (d : Members) (more : Documents) → SomeHasId id (d ∷ []) → SomeHasId id (ds ++ d ∷ more)
some_here id [] d more (inl h) = inl h
some_here id [] d more (inr h) = absurd h
some_here id (e ∷ ds) d more h = inr (some_here id ds d more h)

free_behind : (ds : Documents) (d : Members) (more : Documents) → IsRead d → HaveOwnIds (ds ++ d ∷ more) → IsTaken d ds → ⊥
free_behind [] d more read own taken = none_taken d taken
free_behind (e ∷ ds) d more read own taken = elim (taken_split d (e ∷ []) ds taken) [
  | inl x ↦ own.0 (taken_if e (d ∷ []) (ds ++ d ∷ more) (λ id. some_here id ds d more) (taken_back d e read x))
  | inr x ↦ free_behind ds d more read own.1 x
]

insertion_goes : (s u : State) (n : List ℕ) (d : Members) (k : ErrorKind) (i : Option ℕ) → IsName n → IsKept d → (IsTaken d (list_of s n) → ⊥) → Step s (on n (insert in_bytes (readable d))) (refused k i) u → ⊥
insertion_goes s u n d k i good kept free (inl (named, (es, answers, is))) = by (goes_in d (list_of s n) (refused k i) es kept answers)
  where
    by : When (IsTaken d (list_of s n)) (Refuses DuplicateId (list_of s n) (refused k i) es) ((refused k i ≡ done) × (es ≡ list_of s n ++ d ∷ [])) → ⊥
    by (inl (taken, refuses)) = free taken
    by (inr (other, (accepts, goes))) = absurd cc
insertion_goes s u n d k i good kept free (inr (bad, refuses)) = bad good

removal_goes : (s u : State) (n : List ℕ) (id : Value) (d : Members) (ds : Documents) (k : ErrorKind) (i : Option ℕ) → IsName n → IsKept d → look_up id_key d ≡ Some id → list_of s n ≡ d ∷ ds → Step s (on n (remove id)) (refused k i) u → ⊥
removal_goes s u n id d ds k i good kept own all (inl (named, (es, answers, is))) = by answers
  where
    by : Answers (remove id) (list_of s n) (refused k i) es → ⊥
    by (inl (front, e, back, stands, (accepts, left))) = absurd cc
    by (inr (none, refuses)) = let first : NoneHasId id (d ∷ ds) = subst (NoneHasId id) all none in first.0 (has_own d id kept own)
removal_goes s u n id d ds k i good kept own all (inr (bad, refuses)) = bad good

module _ (n : List ℕ) (good : IsName n) (x : Edit) (back : List Edit) (u : State) (k : ErrorKind) (i : Option ℕ) (refuses : EditBy Step x u (refused k i) u) where
  insertions_go : (xs : List Edit) (ds : Documents) (front : List Edit) (s : State) → HasNoEmpty s → AreKept ds → HaveOwnIds (list_of s n ++ ds) → AreInsertions n xs ds → xs ≡ front ++ x ∷ back → Accepted s front u → ⊥
  insertions_go [] [] [] s whole kept own are split run = cc
  insertions_go [] [] (f ∷ fs) s whole kept own are split run = cc
  insertions_go [] (d ∷ ds) front s whole kept own are split run = are
  insertions_go (y ∷ ys) [] front s whole kept own are split run = are
  insertions_go (y ∷ ys) (d ∷ ds) [] s whole kept own (it, are) split run =
      let same : y ≡ x = cc in
      let one : Step u (on n (insert in_bytes (readable d))) (refused k i) u = insertion_steps n x d u (refused k i) u kept.0 (subst (λ z. IsInsertion n z d) same it) refuses in
      insertion_goes s u n d k i good kept.0 (free_behind (list_of s n) d ds kept.0.read own) (subst (λ z. Step z (on n (insert in_bytes (readable d))) (refused k i) u) run one)
  insertions_go (y ∷ ys) (d ∷ ds) (f ∷ fs) s whole kept own (it, are) split (v, step, run) =
      let same : y ≡ f = cc in
      let rest : ys ≡ fs ++ x ∷ back = cc in
      let one = insertion_steps n f d s done v kept.0 (subst (λ z. IsInsertion n z d) same it) step in
      let first : v ≡ store s n (list_of s n ++ d ∷ []) = inserted s v n d kept.0 one in
      let there : list_of v n ≡ list_of s n ++ d ∷ [] = ap (λ z. list_of z n) first ∙ own_list s n (list_of s n ++ d ∷ []) in
      let whole_own : list_of s n ++ d ∷ ds ≡ list_of v n ++ ds = sym (ap (λ l. l ++ ds) there ∙ append_assoc (list_of s n) (d ∷ []) ds) in
      insertions_go ys ds fs v (none_empty s v n (list_of s n ++ d ∷ []) whole first) kept.1 (subst HaveOwnIds whole_own own) are rest run

  -- behind the removals come other changes
  removals_go : (ds : Documents) (xs tail front : List Edit) (s : State) → HasNoEmpty s → AreKept ds → list_of s n ≡ ds → AreEdits n work.Remove ds xs → xs ++ tail ≡ front ++ x ∷ back → Accepted s front u
      → ((fs : List Edit) (v : State) → v ≡ store s n [] → tail ≡ fs ++ x ∷ back → Accepted v fs u → ⊥) → ⊥
  removals_go [] xs tail front s whole kept all none split run onward =
      onward front s (sym (ap (store s n) (sym all) ∙ stored_again s n whole)) (subst (λ ys. ys ++ tail ≡ front ++ x ∷ back) none split) run
  removals_go (d ∷ ds) xs tail front s whole kept all (change, rest, (y, removes, is), more, parted) split run onward =
      by front (subst (λ ys. ys ++ tail ≡ front ++ x ∷ back) (parted ∙ ap (λ o. listed o ++ rest) is) split) run
      (λ fs v clean here left goes next. removals_go ds rest tail fs v clean kept.1 here more left goes next)
    where
      by : (fs : List Edit) → (y ∷ rest) ++ tail ≡ fs ++ x ∷ back → Accepted s fs u
          → ((gs : List Edit) (v : State) → HasNoEmpty v → list_of v n ≡ ds → rest ++ tail ≡ gs ++ x ∷ back → Accepted v gs u
          → ((is : List Edit) (w : State) → w ≡ store v n [] → tail ≡ is ++ x ∷ back → Accepted w is u → ⊥) → ⊥) → ⊥
      by [] same goes again =
          let first : y ≡ x = cc in
          let r = removal_steps n x d u (refused k i) u (subst (IsRemoval n d) first removes) refuses in
          removal_goes s u n r.0 d ds k i good kept.0 r.1 all (subst (λ z. Step z (on n (remove r.0)) (refused k i) u) goes r.2)
      by (f ∷ fs) same (v, step, goes) again =
          let first : y ≡ f = cc in
          let left : rest ++ tail ≡ fs ++ x ∷ back = cc in
          let r = removal_steps n f d s done v (subst (IsRemoval n d) first removes) step in
          let next : v ≡ store s n ds = removed s v n r.0 d ds kept.0 r.1 all r.2 in
          again fs v (none_empty s v n ds whole next) (ap (λ z. list_of z n) next ∙ own_list s n ds) left goes
          (λ gs w at parts way. onward gs w (at ∙ (ap (λ z. store z n []) next ∙ store_twice s n ds [] whole)) parts way)

-- a draft is refused for want of something alone
draft_goes : (how : Transfer) (n : List ℕ) (s : State) (xs front : List Edit) (x : Edit) (back : List Edit) (u : State) (k : ErrorKind) (i : Option ℕ) → HasNoEmpty s → IsName n → AreKept (list_of s n) → HaveOwnIds (list_of s n)
    → AreKept (displaced how s) → IsReady how n s → IsDraft how n (list_of s n) (displaced how s) xs → xs ≡ front ++ x ∷ back → Accepted s front u → EditBy Step x u (refused k i) u → ⊥
draft_goes transfer.Drop n s xs front x back u k i whole good kept own others ready draft split run refuses =
    removals_go n good x back u k i refuses (list_of s n) xs [] front s whole kept refl draft (append-nil xs ∙ split) run (λ fs v at none way. nothing_left fs none)
  where
    nothing_left : (fs : List Edit) → [] ≡ fs ++ x ∷ back → ⊥
    nothing_left [] e = cc
    nothing_left (f ∷ fs) e = cc
draft_goes (transfer.Copy new) n s xs front x back u k i whole good kept own others ready draft split run refuses =
    insertions_go new.now ready.1 x back u k i refuses xs (list_of s n) front s whole kept (subst (λ l. HaveOwnIds (l ++ list_of s n)) (sym (no_way (list_of s new.now) ready.2)) own) draft split run
draft_goes (transfer.Rename new drops) n s xs front x back u k i whole good kept own others ready (ys, rs, zs, removals, more, insertions, is) split run refuses =
    removals_go n good x back u k i refuses (list_of s n) ys (rs ++ zs) front s whole kept refl removals (sym (append_assoc ys rs zs) ∙ (sym is ∙ split)) run
    (λ fs v at parts way.
    let clean = none_empty s v n [] whole at in
    let there : list_of v new.now ≡ list_of s new.now = ap (λ z. list_of z new.now) at ∙ stays_there s n new.now drops ready.2 in
    removals_go new.now ready.1 x back u k i refuses (list_of s new.now) rs zs fs v clean others there more parts way
    (λ gs w emptied rest goes.
    let none : list_of w new.now ≡ [] = ap (λ z. list_of z new.now) emptied ∙ own_list v new.now [] in
    insertions_go new.now ready.1 x back u k i refuses zs (list_of s n) gs w (none_empty v w new.now [] clean emptied) kept (subst (λ l. HaveOwnIds (l ++ list_of s n)) (sym none) own) insertions rest goes))

pub draft_denied : (how : Transfer) (n : List ℕ) (a : DocumentTable) (xs : List Edit) (r : ListRefusal) → AreRows a → IsName n → AreKept (displaced how (state_of a)) → IsReady how n (state_of a) → IsDraft how n (list_of (state_of a) n) (displaced how (state_of a)) xs → WhyNot a xs r → IsFault r.error
draft_denied how n a xs r rows good others ready draft = by r.position
  where
    lists : IsStore (state_of a)
    lists = rows_are_a_state a rows

    at : (i : ℕ) (st : StopsAt a xs i r.error) → IsFault r.error
    at i st = elim st.refuses [
      | inl refuses ↦ absurd (draft_goes how n (state_of a) xs st.front st.x st.back st.s r.error.kind r.error.document (rows_not_empty a) good (lists.kept n) (lists.own_ids n) others ready draft st.split st.run refuses)
      | inr denied ↦ denied.0
    ]

    by : (p : Option ℕ) → MatchOption p (IsFault r.error) (λ i. StopsAt a xs i r.error) → IsFault r.error
    by None h = h
    by (Some i) h = at i h

-- ---- one body after the other

module _ (n : List ℕ) (bodies : List (Vec ℕ Global)) (ds : Documents) (kept : AreKept ds) (same : bytes_of_each bodies ≡ map encode ds) (before : List Edit) where
  -- so many of the documents have their removals, behind the changes that were there
  abbrev pub RemovedSoFar : ℕ → List Edit → Type 0
  RemovedSoFar i edits = (xs : List Edit) × AreEdits n work.Remove (take i ds) xs × (edits ≡ before ++ xs)

  pub none_removed : RemovedSoFar 0 before
  none_removed = ([], subst (λ l. AreEdits n work.Remove l []) (sym (take_none ds)) refl, sym (append-nil before))

  pub one_removed : (i : ℕ) (x : Vec ℕ Global) (old new : List Edit) → i < length bodies → x ≡ get_or bodies i x
      → ((d : Members) → IsKept d → x.items ≡ encode d → (y : Edit) × IsRemoval n d y × (new ≡ old ++ y ∷ [])) → RemovedSoFar i old → RemovedSoFar (i + 1) new
  one_removed i x old new low is removes (xs, are, all) =
      let e = entry bodies ds i x kept same low is in
      let r = removes e.0 e.1 e.2 in
      let next : take (i + 1) ds ≡ take i ds ++ e.0 ∷ [] = take_more ds i e.0 e.4 ∙ ap (λ (d : Members). take i ds ++ d ∷ []) (sym e.3) in (
        xs ++ r.0 ∷ [],
        subst (λ l. AreEdits n work.Remove l (xs ++ r.0 ∷ [])) (sym next) (one_more n work.Remove (take i ds) xs e.0 (Some r.0) are (r.0, r.1, refl)),
        r.2 ∙ (ap (λ l. l ++ r.0 ∷ []) all ∙ append_assoc before xs (r.0 ∷ [])),
      )

  pub none_more : (i : ℕ) (x : Vec ℕ Global) (e : StoreError) → i < length bodies → x ≡ get_or bodies i x → ((d : Members) → IsKept d → x.items ≡ encode d → e ≡ refusal Memory) → e ≡ refusal Memory
  none_more i x e low is why = let d = entry bodies ds i x kept same low is in why d.0 d.1 d.2

  pub all_removed : (i : ℕ) (new : List Edit) → length bodies ≤ i → RemovedSoFar i new → (xs : List Edit) × AreEdits n work.Remove ds xs × (new ≡ before ++ xs)
  all_removed i new end (xs, are, all) =
      let long : length ds ≡ length bodies = sym (length-map ds encode) ∙ (ap length (sym same) ∙ length-map bodies (λ (v : Vec ℕ Global). v.items)) in
      (xs, subst (λ l. AreEdits n work.Remove l xs) (take_all i ds (omega (arith, long, end))) are, all)

-- the document of the body at a place
body_at : (bodies : List (Vec ℕ Global)) (ds : Documents) (i : ℕ) (x : Vec ℕ Global) → bytes_of_each bodies ≡ map encode ds → i < length bodies → x ≡ get_or bodies i x → (d : Members) × (x.items ≡ encode d) × (d ≡ get_or ds i d) × (i < length ds)
body_at [] ds i x same low is = absurd (omega (arith, low))
body_at (b ∷ bs) [] i x same low is = absurd cc
body_at (b ∷ bs) (d ∷ ds) zero x same low is =
    let first : b.items ≡ encode d = cc in
    (d, ap (λ (v : Vec ℕ Global). v.items) is ∙ first, refl, omega arith)
body_at (b ∷ bs) (d ∷ ds) (suc i) x same low is =
    let rest : bytes_of_each bs ≡ map encode ds = cc in
    let e = body_at bs ds i x rest (omega (arith, low)) is in
    (e.0, e.1, e.2, omega (arith, e.3))

module _ (n : List ℕ) (bodies : List (Vec ℕ Global)) (ds : Documents) (same : bytes_of_each bodies ≡ map encode ds) (before : List Edit) where
  -- so many of the documents have their insertions, behind the changes that were there
  abbrev pub SoFar : ℕ → List Edit → Type 0
  SoFar i edits = (xs : List Edit) × AreInsertions n xs (take i ds) × (edits ≡ before ++ xs)

  pub none_inserted : SoFar 0 before
  none_inserted = ([], subst (λ l. AreInsertions n [] l) (sym (take_none ds)) tt, sym (append-nil before))

  pub one_inserted : (i : ℕ) (x : Vec ℕ Global) (y : Edit) (old new : List Edit) → i < length bodies → x ≡ get_or bodies i x → ((d : Members) → x.items ≡ encode d → IsInsertion n y d) → new ≡ old ++ y ∷ [] → SoFar i old → SoFar (i + 1) new
  one_inserted i x y old new low is inserts pushed (xs, are, all) =
      let e = body_at bodies ds i x same low is in
      let next : take (i + 1) ds ≡ take i ds ++ e.0 ∷ [] = take_more ds i e.0 e.3 ∙ ap (λ (d : Members). take i ds ++ d ∷ []) (sym e.2) in (
        xs ++ y ∷ [],
        subst (λ l. AreInsertions n (xs ++ y ∷ []) l) (sym next) (zip_more (IsInsertion n) xs (take i ds) y e.0 are (inserts e.0 e.1)),
        pushed ∙ (ap (λ l. l ++ y ∷ []) all ∙ append_assoc before xs (y ∷ [])),
      )

  pub all_inserted : (i : ℕ) (new : List Edit) → length bodies ≤ i → SoFar i new → (xs : List Edit) × AreInsertions n xs ds × (new ≡ before ++ xs)
  all_inserted i new end (xs, are, all) =
      let long : length ds ≡ length bodies = sym (length-map ds encode) ∙ (ap length (sym same) ∙ length-map bodies (λ (v : Vec ℕ Global). v.items)) in
      (xs, subst (λ l. AreInsertions n xs l) (take_all i ds (omega (arith, long, end))) are, all)

-- ---- the changes of each sort, where none were before

abbrev pub Added : (List Edit → Type 0) → List Edit → List Edit → Type 0
Added Are old new = (xs : List Edit) × Are xs × (new ≡ old ++ xs)

pub drop_of : (n : List ℕ) (ds es : Documents) (old new : List Edit) (r : Result (Unit {0}) StoreError) → old ≡ [] → MatchResult r (λ _. Added (AreEdits n work.Remove ds) old new) (λ e. e ≡ refusal Memory) → MatchResult r (λ _. IsDraft transfer.Drop n ds es new) (λ e. e ≡ refusal Memory)
drop_of n ds es old new (Ok x) none (xs, are, is) = subst (AreEdits n work.Remove ds) (sym (is ∙ ap (λ l. l ++ xs) none)) are
drop_of n ds es old new (Err e) none is = is

pub copy_of : (name : Bor (List ℕ)) (n : List ℕ) (ds es : Documents) (old new : List Edit) (r : Result (Unit {0}) StoreError) → old ≡ [] → MatchResult r (λ _. Added (λ xs. AreInsertions name.now xs ds) old new) (λ e. e ≡ refusal Memory)
    → MatchResult r (λ _. IsDraft (transfer.Copy name) n ds es new) (λ e. e ≡ refusal Memory)
copy_of name n ds es old new (Ok x) none (xs, are, is) = subst (λ ys. AreInsertions name.now ys ds) (sym (is ∙ ap (λ l. l ++ xs) none)) are
copy_of name n ds es old new (Err e) none is = is

pub renaming_of : (name : Bor (List ℕ)) (drops : Bool) (n : List ℕ) (ds es : Documents) (old first second last : List Edit) (r : Result (Unit {0}) StoreError) → old ≡ [] → Added (AreEdits n work.Remove ds) old first → Added (AreEdits name.now work.Remove es) first second
    → MatchResult r (λ _. Added (λ xs. AreInsertions name.now xs ds) second last) (λ e. e ≡ refusal Memory) → MatchResult r (λ _. IsDraft (transfer.Rename name drops) n ds es last) (λ e. e ≡ refusal Memory)
renaming_of name drops n ds es old first second last (Ok x) none (ys, removals, a) (rs, more, b) (zs, insertions, c) =
    (ys, rs, zs, removals, more, insertions, c ∙ ap (λ l. l ++ zs) (b ∙ ap (λ l. l ++ rs) (a ∙ ap (λ l. l ++ ys) none)))
renaming_of name drops n ds es old first second last (Err e) none a b is = is
