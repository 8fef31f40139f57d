-- What a crash leaves of the ends of a command.
use Rattle.std.proofs.Common.{◌≡◌, ◌⊎◌, inl, inr, ℕ, suc, List, [], ◌∷◌, Bool, true, false, Option, None, Some, Result, Ok, Err, IsErr, MatchBool, MatchOption, refl, sym, subst, subst₂, arith}
use Rattle.sqlite.specs.State.{State, HasCleanDisk, Survives}
use Rattle.bson_base.specs.Device.{Feed, Tally}
use Rattle.serde_json.specs.Data.{Data}
use Rattle.store_table.specs.Moves.{Moves, WasOpen}
use Rattle.store_table.specs.Rows.{TableRow}
use Rattle.store_model.specs.Reading.{Documents, Reading, ReadsTree, ReadsTrees}
use Rattle.store_model.specs.State.{Command, Call, Reply, Appends, Step, first_refusal, import, number, on, or_later, refusal_of, refused}
use Rattle.store_model.specs.Table.{DocumentTable, IsRefusal, Serves, state_of}
use Rattle.store_model.specs.declared.error.ErrorKind.{ErrorKind}
use Rattle.store_model.specs.declared.error.ErrorKind.TheVariants.{Writer}
use Rattle.store_model.specs.declared.error.StoreError.{StoreError}
use Rattle.store_model.proofs.ManyLemmas.{trees_alike}
use Rattle.store_model.proofs.PlainLemmas.{any_tree}
use Rattle.store_model.proofs.ReadingLemmas.{one_tree}
use Rattle.store_documents.proofs.StreamLemmas.{any_trees}
use Rattle.bson_store.specs.Calls.{Does, DoesTree}
use Rattle.bson_store.specs.Left.{Leaves, LeavesImport, LeavesMany, LeavesTree}
use Rattle.bson_store.specs.Many.{DoesMany}
use Rattle.bson_store.specs.Refusals.{as_number, reply_by}
use Rattle.bson_store.specs.Shown.{Represents}
use Rattle.bson_store.proofs.CrashLemmas.{step_of, survives_itself}
use Rattle.bson_store.proofs.MoveLemmas.{Relation, moved}
use Rattle.cli_commands.specs.declared.call.Call.{Call as Asked}
use Rattle.cli_commands.specs.Answers.{answer_by}
use Rattle.cli_commands.specs.Commands.{AsksFor, IsOfStream}
use Rattle.cli_commands.specs.Execute.{IsFailure, IsUnprinted, Tells}
use Rattle.cli_commands.specs.Leaving.{is_change, Settled, StaysOpen, LeavesBy, LeavesCall}
use Rattle.cli_commands.specs.declared.answer.Answer.{Answer}
use Rattle.cli_commands.specs.declared.stop.Failure.{Failure}
use Rattle.cli_commands.specs.declared.stop.Failure.TheVariants.{Refused, Words}

-- ---- none is put in of many documents that end at one which can't be read

some_refusal : (j : ℕ) (ds : Documents) (k : ErrorKind) → first_refusal j ds (Some k) ≡ None → ⊥
some_refusal j [] k e = cc
some_refusal j (d ∷ ds) k e = by (refusal_of d) e (some_refusal (suc j) ds k)
  where
    by : (o : Option ErrorKind) → or_later o j (first_refusal (suc j) ds (Some k)) ≡ None → (first_refusal (suc j) ds (Some k) ≡ None → ⊥) → ⊥
    by None e rest = rest e
    by (Some x) e rest = cc

not_appended : (o : Option (ErrorKind × ℕ)) (l ds es : Documents) (i : ℕ) → (o ≡ None → ⊥) → MatchOption o (Appends 0 l l ds (number i) es) (λ x. (number i ≡ refused x.0 (Some x.1)) × (es ≡ l)) → ⊥
not_appended None l ds es i some h = some refl
not_appended (Some x) l ds es i some h = let e = h.0 in cc

not_stepped : (a b : DocumentTable) (n : List ℕ) (ds : Documents) (k : ErrorKind) (i : ℕ) → Step (state_of a) (on n (import ds (Some k))) (number i) (state_of b) → ⊥
not_stepped a b n ds k i (inl (good, (es, answers, is))) = not_appended (first_refusal 0 ds (Some k)) _ ds es i (some_refusal 0 ds k) answers
not_stepped a b n ds k i (inr h) = let e = h.1.0 in cc

not_taken : (a b : DocumentTable) (n : List ℕ) (ds : Documents) (k : ErrorKind) (i : ℕ) → Serves a (on n (import ds (Some k))) (number i) b → ⊥
not_taken a b n ds k i h = not_stepped a b n ds k i (step_of a (on n (import ds (Some k))) (number i) b (λ no. no) h)

-- ---- a call of the store

-- no refusal of a command that was asked is one of the output
abbrev Never : StoreError → Type 0
Never e = ⊥

module _ (s t : State) (Meant : Command → Type 0) where
  -- the answer is printed, or a write failed
  pub printed : (old new : ℕ) (outcome : Result Answer Failure) (result : Result (Unit {0}) Failure) → ((x : Answer) (e : StoreError) → outcome ≡ Ok x → IsUnprinted x old new e → IsFailure Writer old new e)
      → Tells outcome result old new → LeavesBy Meant Never outcome s t → LeavesBy Meant (IsFailure Writer old new) result s t
  printed old new (Ok x) result failed (inl (is, same)) h = subst (λ (r : Result (Unit {0}) Failure). LeavesBy Meant (IsFailure Writer old new) r s t) (sym is) h
  printed old new (Ok x) result failed (inr (e, is, why)) h = subst (λ (r : Result (Unit {0}) Failure). LeavesBy Meant (IsFailure Writer old new) r s t) (sym is) (inr (inr (failed x e refl why, h)))
  printed old new (Err (Refused e)) result failed (is, same) h = subst (λ (r : Result (Unit {0}) Failure). LeavesBy Meant (IsFailure Writer old new) r s t) (sym is)
      (elim h [ inl was ↦ inl was | inr more ↦ elim more [ inl denied ↦ inr (inl denied) | inr none ↦ absurd none.0 ] ])
  printed old new (Err (Words w)) result failed (is, same) h = subst (λ (r : Result (Unit {0}) Failure). LeavesBy Meant (IsFailure Writer old new) r s t) (sym is) h

  -- what is meant is asked for
  pub with_line : {A : Type 0} (Asked : Command → Type 0) (Unprinted : StoreError → Type 0) (r : Result A Failure) → ((c : Command) → Meant c → Asked c) → LeavesBy Meant Unprinted r s t → LeavesBy Asked Unprinted r s t
  with_line Asked Unprinted (Ok x) asks h = record { command = h.command; meant = asks h.command h.meant; reply = h.reply; accepted = h.accepted; stays = h.stays; moves = h.moves; crash = h.crash }
  with_line Asked Unprinted (Err (Refused e)) asks (inl was) = inl was
  with_line Asked Unprinted (Err (Refused e)) asks (inr (inl (c, meant, leaves))) = inr (inl (c, asks c meant, leaves))
  with_line Asked Unprinted (Err (Refused e)) asks (inr (inr (why, h))) =
      inr (inr (why, record { command = h.command; meant = asks h.command h.meant; reply = h.reply; accepted = h.accepted; stays = h.stays; moves = h.moves; crash = h.crash }))
  with_line Asked Unprinted (Err (Words w)) asks h = h

  -- nothing was asked of the store
  pub not_done : {A : Type 0} (Unprinted : StoreError → Type 0) (r : Result A Failure) → IsErr r → Survives s t (λ _. ⊥) → LeavesBy Meant Unprinted r s t
  not_done Unprinted (Ok x) is h = absurd (let e = is in cc)
  not_done Unprinted (Err (Refused e)) is h = inl h
  not_done Unprinted (Err (Words w)) is h = h

  -- one call of the store
  by_call : {A : Type 0} (c : Command) (f : A → Reply) (g : A → Answer) (outcome : Result A StoreError) → Meant c → ((x : A) → IsRefusal (f x) → ⊥)
      → Moves s t (Does c (reply_by f outcome)) → WasOpen s t outcome → Leaves s t c (reply_by f outcome) → LeavesBy Meant Never (answer_by g outcome) s t
  by_call c f g (Ok x) meant accepts moves stays crash = record { command = c; meant = meant; reply = f x; accepted = accepts x; stays = stays; moves = moves; crash = crash }
  by_call c f g (Err e) meant accepts moves stays crash = inr (inl (c, meant, crash))

  pub call_leaves : {A : Type 0} (c : Command) (f : A → Reply) (g : A → Answer) (outcome : Result A StoreError) (answer : Result Answer Failure) → answer ≡ answer_by g outcome → Meant c → ((x : A) → IsRefusal (f x) → ⊥)
      → Moves s t (Does c (reply_by f outcome)) → WasOpen s t outcome → Leaves s t c (reply_by f outcome) → LeavesBy Meant Never answer s t
  call_leaves c f g outcome answer is meant accepts moves stays crash = subst (λ (r : Result Answer Failure). LeavesBy Meant Never r s t) (sym is) (by_call c f g outcome meant accepts moves stays crash)

  -- one with a tree
  pub tree_leaves : {A : Type 0} (n : List ℕ) (call : Reading → Call) (j : Data) (f : A → Reply) (g : A → Answer) (outcome : Result A StoreError) (answer : Result Answer Failure) → answer ≡ answer_by g outcome
      → ((x : Reading) → ReadsTree j x → Meant (on n (call x))) → ((x : A) → IsRefusal (f x) → ⊥) → Moves s t (DoesTree n call j (reply_by f outcome)) → WasOpen s t outcome → LeavesTree n call j (reply_by f outcome) s t → LeavesBy Meant Never answer s t
  tree_leaves n call j f g outcome answer is meant accepts moves stays crash =
      let x = any_tree j in
      call_leaves (on n (call x.0)) f g outcome answer is (meant x.0 x.1) accepts
      (moved s t (DoesTree n call j (reply_by f outcome)) (Does (on n (call x.0)) (reply_by f outcome)) moves (λ docs after h. subst (λ (y : Reading). Does (on n (call y)) (reply_by f outcome) docs after) (one_tree j h.0 x.0 h.1 x.1) h.2))
      stays (crash x.0 x.1)

  -- ---- many documents

  -- a load of trees
  pub trees_leave : (n : List ℕ) (js : List Data) (g : ℕ → Answer) (outcome : Result ℕ StoreError) (answer : Result Answer Failure) → answer ≡ answer_by g outcome
      → ((ds : Documents) (stop : Option ErrorKind) → ReadsTrees js ds stop → Meant (on n (import ds stop))) → Moves s t (DoesMany n (ReadsTrees js) (reply_by as_number outcome)) → WasOpen s t outcome → LeavesMany n (ReadsTrees js) (reply_by as_number outcome) s t
      → LeavesBy Meant Never answer s t
  trees_leave n js g outcome answer is meant moves stays crash = subst (λ (r : Result Answer Failure). LeavesBy Meant Never r s t) (sym is) (by outcome moves stays crash)
    where
      x : (ds : Documents) × (stop : Option ErrorKind) × ReadsTrees js ds stop
      x = any_trees js

      by : (outcome : Result ℕ StoreError) → Moves s t (DoesMany n (ReadsTrees js) (reply_by as_number outcome)) → WasOpen s t outcome → LeavesMany n (ReadsTrees js) (reply_by as_number outcome) s t → LeavesBy Meant Never (answer_by g outcome) s t
      by (Err e) moves stays crash = inr (inl (on n (import x.0 x.1), meant x.0 x.1 x.2, crash x.0 x.1 x.2))
      by (Ok i) moves stays crash = record {
        command = on n (import x.0 x.1);
        meant = meant x.0 x.1 x.2;
        reply = number i;
        accepted = λ no. no;
        stays = stays;
        moves = moved s t (DoesMany n (ReadsTrees js) (number i)) (Does (on n (import x.0 x.1)) (number i)) moves (λ docs after h a shown. here docs after a shown h x.1 x.2);
        crash = crash x.0 x.1 x.2;
      }
        where
          here : (docs after : List TableRow) (a : DocumentTable) → Represents docs a → DoesMany n (ReadsTrees js) (number i) docs after → (stop : Option ErrorKind) → ReadsTrees js x.0 stop
              → (b : DocumentTable) × Represents after b × Serves a (on n (import x.0 stop)) (number i) b
          here docs after a shown (ds, None, reads, does) stop told =
              let same = trees_alike js ds x.0 stop reads told in
              subst₂ (λ (more : Documents) (k : Option ErrorKind). (b : DocumentTable) × Represents after b × Serves a (on n (import more k)) (number i) b) (sym same.0) (sym same.1) (does a shown)
          here docs after a shown (ds, Some k, reads, does) stop told = let y = does a shown in absurd (not_taken a y.0 n ds k i y.2)

-- an import of a stream
pub stream_leaves : (s t : State) (n : List ℕ) (fed left : Feed) (g : ℕ → Answer) (outcome : Result ℕ StoreError) (answer : Result Answer Failure) → answer ≡ answer_by g outcome → WasOpen s t outcome → LeavesImport n fed left outcome s t → LeavesBy (IsOfStream n fed left) Never answer s t
stream_leaves s t n fed left g outcome answer is stays h = subst (λ (r : Result Answer Failure). LeavesBy (IsOfStream n fed left) Never r s t) (sym is) (elim h [
  | inl denied ↦ not_done s t (IsOfStream n fed left) Never (answer_by g outcome) (still outcome denied.0) denied.1
  | inr stream ↦ by_call s t (IsOfStream n fed left) (on n (import stream.documents None)) as_number g outcome (stream.bytes, stream.documents, None, inl (stream.name, stream.took), stream.reads, refl) (λ x no. no) stream.moves stays stream.crash
])
  where
    still : (outcome : Result ℕ StoreError) → IsErr outcome → IsErr (answer_by g outcome)
    still (Ok x) is = absurd (let e = is in cc)
    still (Err e) is = refl

-- ---- an open connection

module _ (s t : State) where
  open_by : {A : Type 0} (g : A → Answer) (outcome : Result A StoreError) → WasOpen s t outcome → WasOpen s t (answer_by g outcome)
  open_by g (Ok x) stays = stays
  open_by g (Err e) stays = λ clean docs stands. tt

  -- what a call of the store returns
  pub answered_open : {A : Type 0} (g : A → Answer) (outcome : Result A StoreError) (answer : Result Answer Failure) → answer ≡ answer_by g outcome → WasOpen s t outcome → WasOpen s t answer
  answered_open g outcome answer is stays = subst (λ (r : Result Answer Failure). WasOpen s t r) (sym is) (open_by g outcome stays)

  -- and is printed
  pub printed_open : (old new : ℕ) (outcome : Result Answer Failure) (result : Result (Unit {0}) Failure) → Tells outcome result old new → WasOpen s t outcome → WasOpen s t result
  printed_open old new (Ok x) result (inl (is, same)) stays = subst (λ (r : Result (Unit {0}) Failure). WasOpen s t r) (sym is) stays
  printed_open old new (Ok x) result (inr (e, is, why)) stays = subst (λ (r : Result (Unit {0}) Failure). WasOpen s t r) (sym is) (λ clean docs stands. tt)
  printed_open old new (Err e) result (is, same) stays = subst (λ (r : Result (Unit {0}) Failure). WasOpen s t r) (sym is) (λ clean docs stands. tt)

-- one call after another
pub open_twice : (s m t : State) (P : Relation) → StaysOpen s m → Moves s m P → Survives m t (λ _. ⊥) → StaysOpen m t → StaysOpen s t
open_twice s m t P first moves later second clean docs stands =
    let early : HasCleanDisk m = omega (arith, clean, later.clean) in
    let mid = (moves early).1 docs stands in
    ((first early docs stands).0, (second clean mid.0 mid.1).1)

-- ---- the call that was asked for

-- what a crash leaves of it, with the line and the streams by their parts
abbrev pub LeavesLine : Asked → List ℕ → List (List ℕ) → Feed → Feed → Tally → Tally → Result (Unit {0}) Failure → State → State → Type 0
LeavesLine call n texts fed left before behind = LeavesCall (record { call = call; name = n; texts = texts }) (record { fed = fed; left = left; before = before; behind = behind })

pub of_change : (s t : State) (call asked : Asked) (n : List ℕ) (texts : List (List ℕ)) (fed left : Feed) (before behind : Tally) (outcome : Result (Unit {0}) Failure) → asked ≡ call → LeavesLine call n texts fed left before behind outcome s t
    → LeavesLine asked n texts fed left before behind outcome s t
of_change s t call asked n texts fed left before behind outcome is h = subst (λ (x : Asked). LeavesLine x n texts fed left before behind outcome s t) (sym is) h

-- none was
pub of_none : (s : State) (call : Asked) (n : List ℕ) (texts : List (List ℕ)) (fed left : Feed) (before behind : Tally) (stop : Failure) → LeavesLine call n texts fed left before behind (Err stop) s s
of_none s call n texts fed left before behind stop = by (is_change call)
  where
    by : (b : Bool) → MatchBool b (LeavesBy {A = Unit {0}} (AsksFor call n texts fed left) (IsFailure Writer before.failures behind.failures) (Err stop) s s) (Survives s s (λ _. ⊥))
    by true = not_done s s (AsksFor call n texts fed left) {A = Unit {0}} (IsFailure Writer before.failures behind.failures) (Err stop) refl (survives_itself s)
    by false = survives_itself s
