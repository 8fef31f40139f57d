-- Which device failed, by what is reported, whatever the disk does.
use Rattle.std.proofs.Common.{◌≡◌, ◌⊎◌, inl, inr, ℕ, Bool, false, List, Result, Ok, Err, refl, sym, ◌∙◌, ap, subst}
use Rattle.bson_base.specs.Device.{Feed}
use Rattle.store_documents.specs.Answers.{IsOfStore}
use Rattle.store_documents.specs.declared.loading.Loader.{Loader}
use Rattle.store_model.specs.declared.error.ErrorKind.{ErrorKind}
use Rattle.store_model.specs.declared.error.ErrorKind.TheVariants.{Memory, Reader, Writer}
use Rattle.store_model.specs.Refusal.{refusal}
use Rattle.store_model.specs.declared.error.StoreError.{StoreError}
use Rattle.bson_store.specs.Refusals.{ReportsFailure}
use Rattle.cli_commands.specs.declared.call.Call.{Call}
use Rattle.cli_commands.specs.declared.call.Call.TheVariants as words
use Rattle.cli_commands.specs.declared.lines.UsageError.{UsageError}
use Rattle.cli_commands.specs.declared.lines.UsageError.TheVariants.{Line}
use Rattle.cli_commands.specs.Answers.{answer_by, number_answer}
use Rattle.cli_commands.specs.Execute.{Fails, IsFailure, IsFault, IsReported, IsUnprinted, ReportsFailures, Tells}
use Rattle.cli_commands.specs.Loading.{StopsLines, TakesLines}
use Rattle.cli_commands.specs.Requests.{Stops}
use Rattle.cli_commands.specs.declared.answer.Answer.{Answer}
use Rattle.cli_commands.specs.declared.answer.Answer.TheVariants as answers
use Rattle.cli_commands.specs.declared.stop.Failure.{Failure}
use Rattle.cli_commands.specs.declared.stop.Failure.TheVariants.{Refused, Words}

-- ---- one device

-- none of its calls failed
pub still : {A : Type 0} (kind : ErrorKind) (result : Result A Failure) (old new : ℕ) → new ≡ old → IsReported kind result old new
still kind (Ok x) old new same = same
still kind (Err (Refused e)) old new same = inl same
still kind (Err (Words w)) old new same = same

kind_is : (kind : ErrorKind) (e : StoreError) (old new : ℕ) → IsFailure kind old new e → IsReported {A = Unit {0}} kind (Err (Refused e)) old new
kind_is kind e old new h = inr (ap (λ (x : StoreError). x.kind) h.0, h.1)

pub fault_is : (A : Type 0) (kind : ErrorKind) (e : StoreError) (old new : ℕ) → IsFault kind old new e → IsReported {A = A} kind (Err (Refused e)) old new
fault_is A kind e old new (inl h) = inr (ap (λ (x : StoreError). x.kind) h.0, h.1)
fault_is A kind e old new (inr h) = inl h.1

unprinted : (x : Answer) (e : StoreError) (old new : ℕ) → IsUnprinted x old new e → IsReported {A = Unit {0}} Writer (Err (Refused e)) old new
unprinted (answers.Tree j) e old new h = fault_is (Unit {0}) Writer e old new h
unprinted answers.Nothing e old new h = kind_is Writer e old new h
unprinted (answers.Flag b) e old new h = kind_is Writer e old new h
unprinted (answers.Number n) e old new h = kind_is Writer e old new h
unprinted (answers.Documents ds) e old new h = kind_is Writer e old new h
unprinted (answers.Names ns) e old new h = kind_is Writer e old new h

-- the output, once there is an answer or a failure
told_writer : (outcome : Result Answer Failure) (result : Result (Unit {0}) Failure) (old new : ℕ) → Tells outcome result old new → IsReported Writer result old new
told_writer (Ok x) result old new (inl (is, same)) = still Writer result old new same
told_writer (Ok x) result old new (inr (e, is, why)) = subst (λ (r : Result (Unit {0}) Failure). IsReported Writer r old new) (sym is) (unprinted x e old new why)
told_writer (Err e) result old new (is, same) = still Writer result old new same

-- the input, from the answer to what is reported of the command
told_reader : (outcome : Result Answer Failure) (result : Result (Unit {0}) Failure) (fed left old new : ℕ) → Tells outcome result old new → IsReported Reader outcome fed left → IsReported Reader result fed left
told_reader (Ok x) result fed left old new tells h = still Reader result fed left h
told_reader (Err (Refused e)) result fed left old new (is, same) h = subst (λ (r : Result (Unit {0}) Failure). IsReported Reader r fed left) (sym is) h
told_reader (Err (Words w)) result fed left old new (is, same) h = still Reader result fed left h

-- ---- a command

-- a command whose answer is printed, and which imports no stream
abbrev IsPlain : Call → Type 0
IsPlain words.Import = ⊥
IsPlain words.Export = ⊥
IsPlain words.Dump = ⊥
IsPlain _ = Unit {0}

pub reports : (call asked : Call) (outcome : Result Answer Failure) (result : Result (Unit {0}) Failure) (fed left old new : ℕ) → asked ≡ call → IsPlain call → IsReported Reader outcome fed left → Tells outcome result old new
    → ReportsFailures asked result fed left old new
reports call asked outcome result fed left old new is plain input tells = subst (λ (c : Call). ReportsFailures c result fed left old new) (sym is) (by call plain)
  where
    both : IsReported Reader result fed left × IsReported Writer result old new
    both = (told_reader outcome result fed left old new tells input, told_writer outcome result old new tells)

    by : (call : Call) → IsPlain call → ReportsFailures call result fed left old new
    by words.Import no_plain = absurd no_plain
    by words.Export no_plain = absurd no_plain
    by words.Dump no_plain = absurd no_plain
    by _ plain = both

-- an import
apart : (e : StoreError) (old new : ℕ) → IsFailure Writer old new e → e.kind ≡ Reader → ⊥
apart e old new h is = let both : Writer ≡ Reader = sym (ap (λ (x : StoreError). x.kind) h.0) ∙ is in cc

imported : (outcome : Result ℕ StoreError) (result : Result (Unit {0}) Failure) (fed left old new : ℕ) → ReportsFailure Reader outcome fed left → Tells (answer_by number_answer outcome) result old new → Fails Reader result fed left
imported (Ok x) result fed left old new h (inl (is, same)) = subst (λ (r : Result (Unit {0}) Failure). Fails Reader r fed left) (sym is) h
imported (Ok x) result fed left old new h (inr (e, is, why)) = subst (λ (r : Result (Unit {0}) Failure). Fails Reader r fed left) (sym is) (inr (apart e old new why, h))
imported (Err e) result fed left old new h (is, same) = subst (λ (r : Result (Unit {0}) Failure). Fails Reader r fed left) (sym is) h

pub import_reports : (asked : Call) (outcome : Result ℕ StoreError) (answer : Result Answer Failure) (result : Result (Unit {0}) Failure) (fed left old new : ℕ) → asked ≡ words.Import → answer ≡ answer_by number_answer outcome → ReportsFailure Reader outcome fed left
    → Tells answer result old new → ReportsFailures asked result fed left old new
import_reports asked outcome answer result fed left old new is same h tells =
    subst (λ (c : Call). ReportsFailures c result fed left old new) (sym is)
    (imported outcome result fed left old new h (subst (λ (a : Result Answer Failure). Tells a result old new) same tells), told_writer answer result old new tells)

-- an export and a dump, which read nothing
pub export_reports : (asked : Call) (result : Result (Unit {0}) Failure) (fed old new : ℕ) → asked ≡ words.Export → Fails Writer result old new → ReportsFailures asked result fed fed old new
export_reports asked result fed old new is h = subst (λ (c : Call). ReportsFailures c result fed fed old new) (sym is) (still Reader result fed fed refl, h)

pub dump_reports : (asked : Call) (result : Result (Unit {0}) Failure) (fed old new : ℕ) → asked ≡ words.Dump → Fails Writer result old new → ReportsFailures asked result fed fed old new
dump_reports asked result fed old new is h = subst (λ (c : Call). ReportsFailures c result fed fed old new) (sym is) (still Reader result fed fed refl, h)

-- out of memory is no device's refusal
no_device : (kind : ErrorKind) (e : StoreError) → (Memory ≡ kind → ⊥) → e ≡ refusal Memory → e.kind ≡ kind → ⊥
no_device kind e apart is same = apart (sym (ap (λ (x : StoreError). x.kind) is) ∙ same)

-- the store refuses a dump, and no write failed
no_writer : (k : ErrorKind) → IsOfStore k → k ≡ Writer → ⊥
no_writer k of is = subst IsOfStore is of

pub store_refused : (e : StoreError) (old new : ℕ) → IsOfStore e.kind → new ≡ old → Fails Writer (Err (Refused e)) old new
store_refused e old new of same = inr (no_writer e.kind of, same)

-- the printer's own refusal
pub writer_refused : (e : StoreError) (old new : ℕ) → IsFault Writer old new e → Fails Writer (Err (Refused e)) old new
writer_refused e old new (inl h) = inl (ap (λ (x : StoreError). x.kind) h.0, h.1)
writer_refused e old new (inr h) = inr (no_device Writer e (λ is. cc) h.0, h.1)

module _ {U N : Type 0} (name : U → N) (failed : U → Bool) (count : U → ℕ) (first : N) (old new : ℕ) where
  -- what the printer printed, or why it stopped: its output is the one that it had
  abbrev Printed : U → Type 0
  Printed y = (first ≡ name y) × (failed y ≡ false) × (count y ≡ old)

  abbrev Stopped : U → StoreError → Type 0
  Stopped y e = (first ≡ name y) × IsFault Writer old (count y) e

  pub dump_done : (y : U) → Printed y → (first ≡ name y → new ≡ count y) → Fails Writer (Ok tt) old new
  dump_done y h back = back h.0 ∙ h.2

  pub dump_stopped : (y : U) (e : StoreError) → Stopped y e ⊎ (Printed y × IsOfStore e.kind) → (first ≡ name y → new ≡ count y) → Fails Writer (Err (Refused e)) old new
  dump_stopped y e (inl h) back = writer_refused e old new (subst (λ (m : ℕ). IsFault Writer old m e) (sym (back h.0)) h.1)
  dump_stopped y e (inr h) back = store_refused e old new h.1 (back h.0.0 ∙ h.0.2)

-- a command that isn't asked of the store, as its words can't be read
no_failure : (call : Call) (texts : List (List ℕ)) (stop : Failure) (kind : ErrorKind) (n : ℕ) → (Memory ≡ kind → ⊥) → Stops call texts stop → Fails kind (Err stop) n n
no_failure call texts (Refused e) kind n apart h = inr (no_device kind e apart h.0, refl)
no_failure call texts (Words w) kind n apart h = refl

pub none_reports : (call : Call) (texts : List (List ℕ)) (stop : Failure) (fed old : ℕ) → Stops call texts stop → ReportsFailures call (Err stop) fed fed old old
none_reports call texts stop fed old h = by call
  where
    reader : IsReported {A = Unit {0}} Reader (Err stop) fed fed
    reader = still {A = Unit {0}} Reader (Err stop) fed fed refl

    writer : IsReported {A = Unit {0}} Writer (Err stop) old old
    writer = still {A = Unit {0}} Writer (Err stop) old old refl

    by : (call : Call) → ReportsFailures call (Err stop) fed fed old old
    by words.Import = (no_failure call texts stop Reader fed (λ e. cc) h, writer)
    by words.Export = (reader, no_failure call texts stop Writer old (λ e. cc) h)
    by words.Dump = (reader, no_failure call texts stop Writer old (λ e. cc) h)
    by _ = (reader, writer)

-- ---- the lines of a load

pub lines_stop : (fed left : Feed) (stop : Failure) → StopsLines fed left stop → IsReported {A = Answer} Reader (Err stop) fed.failures left.failures
lines_stop fed left (Words (Line i)) h = h.1.0.0
lines_stop fed left (Refused e) h = fault_is Answer Reader e fed.failures left.failures h
lines_stop fed left (Words _) h = absurd h

pub lines_taken : (fed left : Feed) (l : Loader) (result : Result Answer Failure) → TakesLines fed left l → IsReported Reader result fed.failures left.failures
lines_taken fed left l result (bytes, js, took, trees, taken) = still Reader result fed.failures left.failures took.0.0
