-- The ends of a command.
use Rattle.std.proofs.Common.{◌≡◌, ◌≢◌, [], inl, inr, ℕ, List, Result, Ok, Err, IfOk, refl, sym, ◌∙◌, subst, subst₂}
use Rattle.sqlite.specs.State.{State as Connected}
use Rattle.bson_base.specs.Device.{Feed, Tally}
use Rattle.store_table.specs.Moves.{Moves}
use Rattle.serde_json.specs.Data.{Data}
use Rattle.store_model.specs.Reading.{Reading, ReadsTree}
use Rattle.store_model.specs.State.{Command, Reply, on, IsName}
use Rattle.store_model.specs.State as model
use Rattle.store_model.specs.Table.{DocumentTable, IsRefusal, Serves}
use Rattle.store_model.specs.declared.error.ErrorKind.TheVariants.{Memory, Reader, Writer}
use Rattle.store_model.specs.Refusal.{refusal}
use Rattle.store_model.specs.declared.error.StoreError.{StoreError}
use Rattle.bson_store.specs.Calls.{Does, DoesTree}
use Rattle.bson_store.specs.Refusals.{reply_by}
use Rattle.bson_store.proofs.MoveLemmas.{moved, rests}
use Rattle.cli_commands.specs.Words.{Takes}
use Rattle.cli_commands.specs.declared.call.Call.{Call}
use Rattle.cli_commands.specs.declared.call.Call.TheVariants.{Get, Import, Load, Export}
use Rattle.cli_commands.specs.declared.lines.UsageError.{UsageError}
use Rattle.cli_commands.specs.declared.lines.UsageError.TheVariants.{Line}
use Rattle.cli_commands.specs.Answers.{answer_by, number_answer}
use Rattle.cli_commands.specs.Commands.{AsksFor, Complains, IsCommandOf, IsOfCall, IsOfStream, IsUnread, mode_of}
use Rattle.cli_commands.specs.Execute.{Accepts, Any, Comes, Executed, IsFailure, IsFault, IsUnasked, IsUnprinted, Misprints, Performed, Performs, Sends, ShowsAnswer, Starves, Tells}
use Rattle.cli_commands.specs.Printing.{Prints, reply_of}
use Rattle.cli_commands.specs.Requests.{Stops}
use Rattle.cli_commands.specs.declared.answer.Answer.{Answer}
use Rattle.cli_commands.specs.declared.answer.Answer.TheVariants.{Number}
use Rattle.cli_commands.specs.declared.stop.Failure.{Failure}
use Rattle.cli_commands.specs.declared.stop.Failure.TheVariants.{Words, Refused}
use Rattle.cli_commands.proofs.AcceptLemmas.{got_same, performs, tree_performs}
use Rattle.cli_commands.proofs.FailureLemmas.{as_fault, no_fault, fault, other_fault}
use Rattle.cli_commands.proofs.KindLemmas.{IsReadCommand, no_device}
use Rattle.cli_commands.proofs.ReadableLemmas.{command_read, lines_quiet, lines_read, load_hush, stream_quiet, stream_read}

-- the same, with the line and the streams by their parts
abbrev pub Did : Call → List ℕ → List (List ℕ) → Feed → Feed → Tally → Tally → Result (Unit {0}) Failure → DocumentTable → DocumentTable → Type 0
Did call n texts fed left old new = Executed (record { call = call; name = n; texts = texts }) (record { fed = fed; left = left; before = old; behind = new })

-- if the answer isn't printed, the reason is as it should be
abbrev Excuses : (Command → Type 0) → Result Answer Failure → ℕ → ℕ → Type 0
Excuses Meant outcome old new = (x : Answer) (e : StoreError) (a b : DocumentTable) → outcome ≡ Ok x → Accepts Meant Any a b → IsUnprinted x old new e → Misprints old new e a b

module _ (call : Call) (n : List ℕ) (texts : List (List ℕ)) (fed left : Feed) (old new : Tally) (Meant : Command → Type 0) (Fault : StoreError → Type 0) (Unread : UsageError → Type 0)
    (asks : (c : Command) → Meant c → AsksFor call n texts fed left c) (reads : (c : Command) → Meant c → IsReadCommand c) (quiet : (c : Command) → Meant c → left.failures ≡ fed.failures)
    (faults : (e : StoreError) → Fault e → IsUnasked call n texts fed left e × IsFault Reader fed.failures left.failures e) (complains : (w : UsageError) → Unread w → Complains call texts fed left w × (left.failures ≡ fed.failures)) where
  accepted : (P Q : Reply → Type 0) (a b : DocumentTable) → ((r : Reply) → P r → Q r) → Accepts Meant P a b → Accepts (AsksFor call n texts fed left) Q a b
  accepted P Q a b told (c, meant, r, is, served, serves) = (c, asks c meant, r, told r is, served, serves)

  ended : (outcome : Result Answer Failure) (result : Result (Unit {0}) Failure) (a b : DocumentTable) → Excuses Meant outcome old.failures new.failures → Sends call n old new result a → Tells outcome result old.failures new.failures
      → ShowsAnswer outcome result old new → Performed Meant Fault Unread outcome a b → Did call n texts fed left old new result a b
  ended (Ok x) result a b prints sent (inl (is, same)) shows h = subst (λ r. Did call n texts fed left old new r a b) (sym is) (record {
    ended = accepted (λ r. r ≡ reply_of x) (λ r. Prints r old new) a b (λ r told. subst (λ (y : Reply). Prints y old new) (sym told) (subst (λ (z : Result (Unit {0}) Failure). IfOk z (λ _. Prints (reply_of x) old new)) is shows)) h;
    reader = quiet h.0 h.1;
    writer = same;
    sent = subst (λ r. Sends call n old new r a) is sent;
  })
  ended (Ok x) result a b prints sent (inr (e, is, why)) shows h =
      let any : Accepts Meant Any a b = (h.0, h.1, h.2, tt, h.4, h.5) in
      let unprinted = prints x e a b refl any why in
      let failed = as_fault old.failures new.failures e a b unprinted in
      subst (λ r. Did call n texts fed left old new r a b) (sym is) (record {
        ended = inr (unprinted, accepted Any Any a b (λ r told. told) any);
        reader = other_fault Writer Reader e old.failures new.failures fed.failures left.failures tt (λ x. cc) failed (quiet h.0 h.1);
        writer = fault Writer e old.failures new.failures tt failed;
        sent = subst (λ r. Sends call n old new r a) is sent;
      })
  ended (Err (Refused e)) result a b prints sent (is, same) shows (stays, inl (c, meant, serves)) = subst (λ r. Did call n texts fed left old new r a b) (sym is) (record {
    ended = inl (stays, inl (c, asks c meant, serves));
    reader = no_fault Reader e fed.failures left.failures tt (no_device a a c e.kind e.document (reads c meant) serves) (quiet c meant);
    writer = no_fault Writer e old.failures new.failures tt (no_device a a c e.kind e.document (reads c meant) serves) same;
    sent = subst (λ r. Sends call n old new r a) is sent;
  })
  ended (Err (Refused e)) result a b prints sent (is, same) shows (stays, inr why) = subst (λ r. Did call n texts fed left old new r a b) (sym is) (record {
    ended = inl (stays, inr (faults e why).0);
    reader = fault Reader e fed.failures left.failures tt (faults e why).1;
    writer = other_fault Reader Writer e fed.failures left.failures old.failures new.failures tt (λ x. cc) (faults e why).1 same;
    sent = subst (λ r. Sends call n old new r a) is sent;
  })
  ended (Err (Words w)) result a b prints sent (is, same) shows (stays, says) = subst (λ r. Did call n texts fed left old new r a b) (sym is) (record {
    ended = (stays, (complains w says).0);
    reader = (complains w says).1;
    writer = same;
    sent = subst (λ r. Sends call n old new r a) is sent;
  })

  ended_moves : (s t : Connected) (outcome : Result Answer Failure) (result : Result (Unit {0}) Failure) → Excuses Meant outcome old.failures new.failures → ((a : DocumentTable) → Sends call n old new result a) → Tells outcome result old.failures new.failures → ShowsAnswer outcome result old new
      → Moves s t (Performs Meant Fault Unread outcome) → Moves s t (Comes (Did call n texts fed left old new result))
  ended_moves s t outcome result prints sent tells shows m = moved s t (Performs Meant Fault Unread outcome) (Comes (Did call n texts fed left old new result)) m
      (λ docs after h a shown. let y = h a shown in (y.0, y.1, ended outcome result a y.0 prints (sent a) tells shows y.2))

-- ---- what a call of the store returns

answered_as : {A : Type 0} (h : A → Answer) (outcome : Result A StoreError) (answer : Result Answer Failure) (x : Answer) → answer ≡ answer_by h outcome → answer ≡ Ok x → (y : A) × (h y ≡ x)
answered_as h (Ok y) answer x is e = let same : ◌≡◌ {A = Result Answer Failure} (Ok (h y)) (Ok x) = sym is ∙ e in (y, cc)
answered_as h (Err k) answer x is e = absurd (let same : ◌≡◌ {A = Result Answer Failure} (Err (Refused k)) (Ok x) = sym is ∙ e in cc)

-- the same of a call whose answers are all of this form
prints_as : {A : Type 0} (Meant : Command → Type 0) (old new : ℕ) (h : A → Answer) (outcome : Result A StoreError) (answer : Result Answer Failure) → answer ≡ answer_by h outcome
    → ((y : A) (e : StoreError) (a b : DocumentTable) → Accepts Meant Any a b → IsUnprinted (h y) old new e → Misprints old new e a b) → Excuses Meant answer old new
prints_as Meant old new h outcome answer is each x e a b same accepted why =
    let y = answered_as h outcome answer x is same in
    each y.0 e a b accepted (subst (λ (z : Answer). IsUnprinted z old new e) (sym y.1) why)

-- a write failed, if the answer is no tree
pub failed_write : {A : Type 0} (old new : ℕ) (h : A → Answer) (outcome : Result A StoreError) (answer : Result Answer Failure) → answer ≡ answer_by h outcome → ((y : A) (e : StoreError) → IsUnprinted (h y) old new e → IsFailure Writer old new e)
    → (x : Answer) (e : StoreError) → answer ≡ Ok x → IsUnprinted x old new e → IsFailure Writer old new e
failed_write old new h outcome answer is each x e same why =
    let y = answered_as h outcome answer x is same in
    each y.0 e (subst (λ (z : Answer). IsUnprinted z old new e) (sym y.1) why)

-- so of a number
pub number_unprinted : (old new : ℕ) (answer : Result Answer Failure) → IfOk answer (λ x. (i : ℕ) × (x ≡ Number i)) → (x : Answer) (e : StoreError) → answer ≡ Ok x → IsUnprinted x old new e → IsFailure Writer old new e
number_unprinted old new (Ok y) is x e same why = let named : x ≡ Number is.0 = sym (let both : ◌≡◌ {A = Result Answer Failure} (Ok y) (Ok x) = same in cc) ∙ is.1 in subst (λ (z : Answer). IsUnprinted z old new e) named why
number_unprinted old new (Err k) is x e same why = absurd (let both : ◌≡◌ {A = Result Answer Failure} (Err k) (Ok x) = same in cc)

pub number_prints : (Meant : Command → Type 0) (old new : ℕ) (answer : Result Answer Failure) → IfOk answer (λ x. (i : ℕ) × (x ≡ Number i)) → Excuses Meant answer old new
number_prints Meant old new answer is x e a b same accepted why = inl (number_unprinted old new answer is x e same why)

-- a document that is got leaves the table, so out of memory for its text is as it should be
pub got_prints : (n : List ℕ) (texts : List (List ℕ)) (old new : ℕ) (e : StoreError) (a b : DocumentTable) → Accepts (IsCommandOf Get n texts) Any a b → IsFault Writer old new e → Misprints old new e a b
got_prints n texts old new e a b (c, (text, more, id, first, reads, is), r, any, served, serves) (inl failed) = inl failed
got_prints n texts old new e a b (c, (text, more, id, first, reads, is), r, any, served, serves) (inr (memory, same)) =
    inr (memory, same, got_same n (mode_of more) id r a b served (subst (λ (x : Command). Serves a x r b) is serves))

-- ---- one call of the store

-- a command that reads no input
told_asked : (s t : Connected) (call asked : Call) (n : List ℕ) (texts : List (List ℕ)) (f : Feed) (old new : Tally) (outcome : Result Answer Failure) (result : Result (Unit {0}) Failure) → asked ≡ call → Takes call texts
    → ((c : Command) → IsCommandOf call n texts c → IsOfCall call n texts f f c) → Excuses (IsCommandOf call n texts) outcome old.failures new.failures → ((a : DocumentTable) → Sends call n old new result a)
    → Tells outcome result old.failures new.failures → ShowsAnswer outcome result old new → Moves s t (Performs (IsCommandOf call n texts) (λ e. ⊥) (λ w. ⊥) outcome) → Moves s t (Comes (Did asked n texts f f old new result))
told_asked s t call asked n texts f old new outcome result is takes asks prints sent tells shows m =
    subst (λ x. Moves s t (Comes (Did x n texts f f old new result))) (sym is)
    (ended_moves call n texts f f old new (IsCommandOf call n texts) (λ e. ⊥) (λ w. ⊥) (λ c meant. (takes, asks c meant)) (command_read call n texts) (λ c meant. refl) (λ e no. absurd no) (λ w no. absurd no) s t outcome result prints sent tells shows m)

-- so one call of the store
pub plain : {A : Type 0} (s t : Connected) (call asked : Call) (n : List ℕ) (texts : List (List ℕ)) (f : Feed) (old new : Tally) (c : Command) (g : A → Reply) (h : A → Answer) (outcome : Result A StoreError) (answer : Result Answer Failure) (result : Result (Unit {0}) Failure) → asked ≡ call → Takes call texts
    → ((x : Command) → IsCommandOf call n texts x → IsOfCall call n texts f f x) → ((y : A) (e : StoreError) (a b : DocumentTable) → Accepts (IsCommandOf call n texts) Any a b → IsUnprinted (h y) old.failures new.failures e → Misprints old.failures new.failures e a b)
    → ((a : DocumentTable) → Sends call n old new result a)
    → IsCommandOf call n texts c → ((x : A) → IsRefusal (g x) → ⊥) → ((x : A) → g x ≡ reply_of (h x)) → answer ≡ answer_by h outcome → Tells answer result old.failures new.failures → ShowsAnswer answer result old new → Moves s t (Does c (reply_by g outcome)) → Moves s t (Comes (Did asked n texts f f old new result))
plain s t call asked n texts f old new c g h outcome answer result is takes asks prints sent meant accepts same by tells shows m =
    told_asked s t call asked n texts f old new answer result is takes asks (prints_as (IsCommandOf call n texts) old.failures new.failures h outcome answer by prints) sent tells shows
    (performs s t (IsCommandOf call n texts) (λ e. ⊥) (λ w. ⊥) c g h outcome answer meant accepts same by m)

-- and one with a tree
pub planted : {A : Type 0} (s t : Connected) (call asked : Call) (n : List ℕ) (texts : List (List ℕ)) (f : Feed) (old new : Tally) (put : Reading → model.Call) (j : Data) (g : A → Reply) (h : A → Answer) (outcome : Result A StoreError) (answer : Result Answer Failure) (result : Result (Unit {0}) Failure) → asked ≡ call → Takes call texts
    → ((x : Command) → IsCommandOf call n texts x → IsOfCall call n texts f f x) → ((y : A) (e : StoreError) (a b : DocumentTable) → Accepts (IsCommandOf call n texts) Any a b → IsUnprinted (h y) old.failures new.failures e → Misprints old.failures new.failures e a b)
    → ((a : DocumentTable) → Sends call n old new result a)
    → ((x : Reading) → ReadsTree j x → IsCommandOf call n texts (on n (put x))) → ((x : A) → IsRefusal (g x) → ⊥) → ((x : A) → g x ≡ reply_of (h x)) → answer ≡ answer_by h outcome → Tells answer result old.failures new.failures → ShowsAnswer answer result old new → Moves s t (DoesTree n put j (reply_by g outcome))
    → Moves s t (Comes (Did asked n texts f f old new result))
planted s t call asked n texts f old new put j g h outcome answer result is takes asks prints sent meant accepts same by tells shows m =
    told_asked s t call asked n texts f old new answer result is takes asks (prints_as (IsCommandOf call n texts) old.failures new.failures h outcome answer by prints) sent tells shows
    (tree_performs s t (IsCommandOf call n texts) (λ e. ⊥) (λ w. ⊥) n put j g h outcome answer meant accepts same by m)

-- an import, which reads the input
pub imported_asked : (s t : Connected) (asked : Call) (n : List ℕ) (texts : List (List ℕ)) (fed left : Feed) (old new : Tally) (outcome : Result ℕ StoreError) (answer : Result Answer Failure) (result : Result (Unit {0}) Failure) → asked ≡ Import → Takes Import texts
    → answer ≡ answer_by number_answer outcome → Tells answer result old.failures new.failures → ShowsAnswer answer result old new → Moves s t (Performs (IsOfStream n fed left) (λ e. IsName n × IsFault Reader fed.failures left.failures e) (λ w. ⊥) answer)
    → Moves s t (Comes (Did asked n texts fed left old new result))
imported_asked s t asked n texts fed left old new outcome answer result is takes by tells shows m =
    subst (λ x. Moves s t (Comes (Did x n texts fed left old new result))) (sym is)
    (ended_moves Import n texts fed left old new (IsOfStream n fed left) (λ e. IsName n × IsFault Reader fed.failures left.failures e) (λ w. ⊥) (λ c meant. (takes, meant)) (stream_read n fed left) (stream_quiet n fed left) (λ e why. ((takes, why), why.1)) (λ w no. absurd no) s t answer result
    (prints_as (IsOfStream n fed left) old.failures new.failures number_answer outcome answer by (λ y e a b done why. inl why)) (λ a. tt) tells shows m)

-- and a load
pub loaded_asked : (s t : Connected) (asked : Call) (n : List ℕ) (texts : List (List ℕ)) (fed left : Feed) (old new : Tally) (answer : Result Answer Failure) (result : Result (Unit {0}) Failure) → asked ≡ Load → Takes Load texts
    → IfOk answer (λ x. (i : ℕ) × (x ≡ Number i)) → Tells answer result old.failures new.failures → ShowsAnswer answer result old new → Moves s t (Performs (AsksFor Load n [] fed left) (IsUnasked Load n [] fed left) (Complains Load [] fed left) answer)
    → Moves s t (Comes (Did asked n texts fed left old new result))
loaded_asked s t asked n texts fed left old new answer result is takes number tells shows m =
    subst₂ (λ x ts. Moves s t (Comes (Did x n ts fed left old new result))) (sym is) (sym takes)
    (ended_moves Load n [] fed left old new (AsksFor Load n [] fed left) (IsUnasked Load n [] fed left) (Complains Load [] fed left) (λ c meant. meant) (λ c meant. lines_read n fed left c meant.1) (λ c meant. lines_quiet n fed left c meant.1) (λ e why. (why, why.1))
    (λ w says. (says, load_hush [] fed left w says)) s t answer result (number_prints (AsksFor Load n [] fed left) old.failures new.failures answer number) (λ a. tt) tells shows m)

-- one that prints for itself
pub as_asked : (s t : Connected) (call asked : Call) (n : List ℕ) (texts : List (List ℕ)) (f : Feed) (old new : Tally) (result : Result (Unit {0}) Failure) → asked ≡ call → texts ≡ []
    → Moves s t (Comes (Did call n [] f f old new result)) → Moves s t (Comes (Did asked n texts f f old new result))
as_asked s t call asked n texts f old new result is none m = subst₂ (λ x ts. Moves s t (Comes (Did x n ts f f old new result))) (sym is) (sym none) m

-- ---- words that ask for nothing

complains_unfed : (call : Call) (texts : List (List ℕ)) (f : Feed) (w : UsageError) → IsUnread call texts w → Complains call texts f f w
complains_unfed Load texts f (Line i) h = absurd h.1
complains_unfed call texts f w h = (h, refl)

unsent_words : (call : Call) (n : List ℕ) (old : Tally) (w : UsageError) (a : DocumentTable) → Sends call n old old (Err (Words w)) a
unsent_words Export n old w a = tt
unsent_words _ n old w a = tt

-- an export has no text, so none is read
unsent_memory : (call : Call) (n : List ℕ) (texts : List (List ℕ)) (old : Tally) (e : StoreError) (a : DocumentTable) → Takes call texts → texts ≢ [] → Sends call n old old (Err (Refused e)) a
unsent_memory Export n texts old e a none some = absurd (some none)
unsent_memory _ n texts old e a takes some = tt

-- it is out of memory for a text, which an import and a load don't have
starved : (call : Call) (n : List ℕ) (texts : List (List ℕ)) (f : Feed) (e : StoreError) → Takes call texts → texts ≢ [] → e ≡ refusal Memory → Starves call n texts f f e
starved Import n texts f e none some memory = absurd (some none)
starved Load n texts f e none some memory = absurd (some none)
starved _ n texts f e takes some memory = (some, memory, refl)

unasked : (call : Call) (n : List ℕ) (texts : List (List ℕ)) (f : Feed) (old : Tally) (stop : Failure) (a : DocumentTable) → Stops call texts stop → Did call n texts f f old old (Err stop) a a
unasked call n texts f old (Words w) a h = record {
  ended = (refl, complains_unfed call texts f w h);
  reader = refl;
  writer = refl;
  sent = unsent_words call n old w a;
}
unasked call n texts f old (Refused e) a (memory, takes, some) =
    let why : IsFault Reader f.failures f.failures e = inr (memory, refl) in
    record {
      ended = inl (refl, inr (takes, starved call n texts f e takes some memory));
      reader = fault Reader e f.failures f.failures tt why;
      writer = other_fault Reader Writer e f.failures f.failures old.failures old.failures tt (λ x. cc) why refl;
      sent = unsent_memory call n texts old e a takes some;
    }

-- nothing was asked of the store
pub not_asked : (s : Connected) (call : Call) (n : List ℕ) (texts : List (List ℕ)) (f : Feed) (old : Tally) (stop : Failure) → Stops call texts stop → Moves s s (Comes (Did call n texts f f old old (Err stop)))
not_asked s call n texts f old stop h = rests s (Comes (Did call n texts f f old old (Err stop))) (λ docs a shown. (a, shown, unasked call n texts f old stop a h))
