-- From the result for one document to that for many.
use Rattle.std.proofs.Common.{◌≡◌, ◌⊎◌, inl, inr, ℕ, List, ◌∷◌, ◌++◌, Option, Result, Ok, Err, refl, Bor}
use Rattle.serde_json.specs.Data.{Data}
use Rattle.bson_base.specs.Value.{Members}
use Rattle.bson_meaning.specs.Gate.{IsCounted}
use Rattle.store_model.specs.Reading.{Documents, Reading, readable, unreadable, IsRead, ReadsBytes, ReadsTree, ReadsTrees}
use Rattle.store_model.specs.declared.error.ErrorKind.{ErrorKind}
use Rattle.store_model.specs.declared.error.ErrorKind.TheVariants.{Memory}
use Rattle.store_model.specs.Refusal.{refusal, refusal_at}
use Rattle.store_documents.specs.Bodies.{AnswersInput, AnswersKept, AnswersWritten}
use Rattle.store_documents.specs.declared.write.KeptRow.{KeptRow}
use Rattle.store_documents.specs.Judging.{AnswersFront, AnswersRow, Judges, RefusesFront}
use Rattle.store_documents.proofs.JudgeLemmas.{SoFar, so_far_refused, so_far_stopped}
use Rattle.store_documents.proofs.StreamLemmas.{any_stream, any_trees, stream_more, stream_unread, trees_more, trees_unread}

-- ---- one document

-- what can't be read, or it is out of memory
pub unread_row : (Reads : Reading → Type 0) (k : ErrorKind) → Reads (unreadable k) ⊎ (k ≡ Memory) → AnswersRow Reads (Err k)
unread_row Reads Memory h = tt
unread_row Reads _ (inl h) = inl h
unread_row Reads _ (inr e) = absurd (cc)

pub written_row : (Reads : Reading → Type 0) (d : Members) (r : Result KeptRow ErrorKind) → Reads (readable d) → IsRead d → AnswersWritten d r → AnswersRow Reads r
written_row Reads d (Ok w) h read a = (d, h, read, a.0, a.2, a.1)
written_row Reads d (Err Memory) h read a = tt
written_row Reads d (Err _) h read (inl why) = inr (d, h, why)
written_row Reads d (Err _) h read (inr e) = absurd (cc)

-- what an input is kept as
pub input_row : (Reads : Reading → Type 0) (r : Result KeptRow ErrorKind) → AnswersInput Reads r → AnswersRow Reads r
input_row Reads (Ok w) (d, h, read, a) = written_row Reads d (Ok w) h read a
input_row Reads (Err Memory) h = tt
input_row Reads (Err _) (inl h) = inl h
input_row Reads (Err _) (inr (inl h)) = inr h
input_row Reads (Err _) (inr (inr e)) = absurd (cc)

-- what the bytes of one document are kept as
pub kept_row : (bytes : List ℕ) (r : Result KeptRow ErrorKind) → AnswersKept bytes r → AnswersRow (ReadsBytes bytes) r
kept_row bytes (Ok w) (d, reads, read, a) = written_row (ReadsBytes bytes) d (Ok w) reads read a
kept_row bytes (Err k) (inl h) = unread_row (ReadsBytes bytes) k (inl h)
kept_row bytes (Err k) (inr (d, reads, read, a)) = written_row (ReadsBytes bytes) d (Err k) reads read a

-- ---- the first document of a stream

pub front_kept : (bytes p : List ℕ) (rest : Bor (List ℕ)) (w : KeptRow) → bytes ≡ p ++ rest.now → IsCounted p → AnswersRow (ReadsBytes p) (Ok w) → AnswersFront bytes (Ok (w, rest))
front_kept bytes p rest w e counted (d, h, read, fits, body, is) = (d, (λ more stop s. stream_more bytes p rest.now d more stop e counted h s), read, fits, body, is)

pub front_refused : (bytes p rest : List ℕ) (k : ErrorKind) → bytes ≡ p ++ rest → IsCounted p → AnswersRow (ReadsBytes p) (Err k) → AnswersFront bytes (Err k)
front_refused bytes p rest Memory e counted h = tt
front_refused bytes p rest _ e counted (inl h) = inl (stream_unread bytes p rest _ e counted h)
front_refused bytes p rest _ e counted (inr (d, h, why)) = let s = any_stream rest in inr (d, s.0, s.1, stream_more bytes p rest d s.0 s.1 e counted h s.2, why)

-- ---- the first tree of a list

pub tree_refused : (j : Data) (js : List Data) (k : ErrorKind) → AnswersRow (ReadsTree j) (Err k) → RefusesFront (ReadsTrees (j ∷ js)) k
tree_refused j js Memory h = tt
tree_refused j js _ (inl h) = inl (trees_unread j js _ h)
tree_refused j js _ (inr (d, h, why)) = let s = any_trees js in inr (d, s.0, s.1, trees_more j js d s.0 s.1 h s.2, why)

-- ---- all

pub judged_memory : (Whole Rest : Documents → Option ErrorKind → Type 0) (rows : List KeptRow) (place : ℕ) → SoFar Whole Rest rows place
    → (ds : Documents) × (stop : Option ErrorKind) × Rest ds stop → Judges Whole (Err (refusal Memory))
judged_memory Whole Rest rows place s any = (s.done ++ any.0, any.1, s.reads any.0 any.1 any.2, inl refl)

pub judged_refused : (Whole Rest : Documents → Option ErrorKind → Type 0) (rows : List KeptRow) (place : ℕ) (k : ErrorKind) → SoFar Whole Rest rows place
    → (ds : Documents) × (stop : Option ErrorKind) × Rest ds stop → RefusesFront Rest k → Judges Whole (Err (refusal_at k place))
judged_refused Whole Rest rows place Memory s any h = judged_memory Whole Rest rows place s any
judged_refused Whole Rest rows place _ s any (inl h) = so_far_stopped Whole Rest rows place _ s h
judged_refused Whole Rest rows place _ s any (inr (d, more, stop, h, why)) = so_far_refused Whole Rest rows place _ d more stop s h why
