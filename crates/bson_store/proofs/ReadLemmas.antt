-- Exits of calls that read a document from bytes or JSON.
use Rattle.std.proofs.Common.{inl, inr, ℕ, List, None, Err, refl}
use Rattle.serde_json.specs.Data.{Data}
use Rattle.bson_base.specs.Value.{Members}
use Rattle.store_table.specs.Rows.{TableRow}
use Rattle.store_table.specs.declared.fault.Fault.TheVariants as faults
use Rattle.store_documents.specs.Answers.{AnswersBytes, AnswersTree}
use Rattle.store_model.specs.Reading.{Reading, readable, unreadable, ReadsBytes, ReadsTree}
use Rattle.store_model.specs.State.{Form, in_bytes, in_json, Call, insert, replace, on, Reply, refused, Answers, IsName}
use Rattle.store_model.specs.Reading.{Documents}
use Rattle.store_model.specs.Run.{IsUnread, IsDecidedCall}
use Rattle.store_model.proofs.PlainLemmas.{any_tree}
use Rattle.store_documents.proofs.StreamLemmas.{any_bytes}
use Rattle.store_model.specs.declared.error.ErrorKind.{ErrorKind}
use Rattle.store_model.specs.declared.error.ErrorKind.TheVariants.{BadName, Memory}
use Rattle.bson_store.specs.Calls.{Does, DoesBytes, DoesTree, DoesRead}
use Rattle.bson_store.proofs.ServeLemmas.{bad_name, answers_stay, denied, undecided, memory_other}

-- insert or replace
pub record TakesReading (call : Form → Reading → Call) : Type 0 where
  pub unread : (f : Form) (k : ErrorKind) (l : Documents) → Answers (call f (unreadable k)) l (refused k None) l
  pub undecided : (f : Form) (x : Reading) → IsDecidedCall (call f x) → IsUnread f x

pub inserts : TakesReading insert
inserts = record { unread = λ f k l. (refl, refl); undecided = λ f x d. d }

pub replaces : TakesReading replace
replaces = record { unread = λ f k l. (refl, refl); undecided = λ f x d. d }

pub bytes_bad_name : (docs : List TableRow) (n b : List ℕ) (call : Form → Reading → Call) → (IsName n → ⊥) → DoesBytes n (call in_bytes) b (refused BadName None) docs docs
bytes_bad_name docs n b call bad = let x = any_bytes b in (x.0, x.1, bad_name docs n (call in_bytes x.0) bad)

pub tree_bad_name : (docs : List TableRow) (n : List ℕ) (j : Data) (call : Form → Reading → Call) → (IsName n → ⊥) → DoesTree n (call in_json) j (refused BadName None) docs docs
tree_bad_name docs n j call bad = let x = any_tree j in (x.0, x.1, bad_name docs n (call in_json x.0) bad)

pub unread : (docs : List TableRow) (n : List ℕ) (call : Form → Reading → Call) (f : Form) (k : ErrorKind) → TakesReading call → IsName n → Does (on n (call f (unreadable k))) (refused k None) docs docs
unread docs n call f k t good = answers_stay docs n (call f (unreadable k)) (refused k None) good (λ a s. t.unread f k _)

wanted : (docs : List TableRow) (n : List ℕ) (call : Form → Reading → Call) (f : Form) (x : Reading) → TakesReading call → IsName n → (IsUnread f x → ⊥) → Does (on n (call f x)) (refused Memory None) docs docs
wanted docs n call f x t good open_reading = denied docs (on n (call f x)) faults.Memory memory_other (undecided n (call f x) good (λ d. open_reading (t.undecided f x d)))

pub bytes_refused : (docs : List TableRow) (n b : List ℕ) (call : Form → Reading → Call) (k : ErrorKind) → TakesReading call → IsName n → AnswersBytes b (Err k) → DoesBytes n (call in_bytes) b (refused k None) docs docs
bytes_refused docs n b call k t good (inl reads) = (unreadable k, reads, unread docs n call in_bytes k t good)
bytes_refused docs n b call k t good (inr h) = (readable h.1, h.2, rw h.0 (wanted docs n call in_bytes (readable h.1) t good (λ x. x)))

pub tree_refused : (docs : List TableRow) (n : List ℕ) (j : Data) (call : Form → Reading → Call) (k : ErrorKind) → TakesReading call → IsName n → AnswersTree j (Err k) → DoesTree n (call in_json) j (refused k None) docs docs
tree_refused docs n j call k t good (inl reads) = (unreadable k, reads, unread docs n call in_json k t good)
tree_refused docs n j call k t good (inr h) = (h.1, h.2, rw h.0 (wanted docs n call in_json h.1 t good h.3))

pub bytes_read : (docs after : List TableRow) (n b : List ℕ) (call : Form → Reading → Call) (d : Members) (r : Reply) → ReadsBytes b (readable d) → DoesRead n call d r docs after → DoesBytes n (call in_bytes) b r docs after
bytes_read docs after n b call d r reads does = (readable d, reads, does in_bytes)

pub tree_read : (docs after : List TableRow) (n : List ℕ) (j : Data) (call : Form → Reading → Call) (d : Members) (r : Reply) → ReadsTree j (readable d) → DoesRead n call d r docs after → DoesTree n (call in_json) j r docs after
tree_read docs after n j call d r reads does = (readable d, reads, does in_json)
