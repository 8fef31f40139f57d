-- What bytes are read as.
use Rattle.std.proofs.Common.{◌≡◌, ◌⊎◌, inl, inr, ℕ, List, refl, subst}
use Rattle.std.specs.Prelude.{Result, Ok, Err, IfOk, MatchResult}
use Rattle.bson_base.specs.Kinds.{AreBytes}
use Rattle.bson_base.specs.Value.{Members}
use Rattle.bson_bytes.specs.Encode.{encode}
use Rattle.bson_bytes.specs.Spells.{settle, Means}
use Rattle.bson_meaning.specs.Gate.{Passes}
use Rattle.bson_model.specs.View.{members_of, pairs_of}
use Rattle.bson_model.specs.declared.document.Document.{Document}
use Rattle.store_model.specs.Reading.{readable, unreadable, IsRead, ReadsBytes}
use Rattle.store_model.specs.State.{IsKept}
use Rattle.store_model.specs.declared.error.ErrorKind.{ErrorKind}
use Rattle.store_model.specs.declared.error.ErrorKind.TheVariants.{Memory}
use Rattle.store_model.proofs.ReadingLemmas.{bytes_read}
use Rattle.store_model.proofs.RestoreLemmas.{written_reads}
use Rattle.store_documents.specs.Answers.{AnswersBytes}

-- why there is no document, or that it is out of memory
abbrev pub Fails : List ℕ → ErrorKind → Type 0
Fails bytes k = ReadsBytes bytes (unreadable k) ⊎ ((k ≡ Memory) × (d : Members) × ReadsBytes bytes (readable d))

pub memory_fails : (bytes : List ℕ) (k : ErrorKind) → Passes bytes → k ≡ Memory → Fails bytes k
memory_fails bytes k passes is = inr (is, settle passes.2.0, (passes, (passes.2.0, passes.1, passes.2.1, refl)))

-- bytes that pass the gate were converted, or it is out of memory
abbrev pub Converts : List ℕ → Result Document ErrorKind → Type 0
Converts bytes r = MatchResult r (λ d. Means bytes (members_of (pairs_of d))) (λ k. k ≡ Memory)

pub converted : (bytes : List ℕ) (r : Result Document ErrorKind) → Passes bytes → Converts bytes r → AnswersBytes bytes r
converted bytes (Ok d) passes means = (passes, means)
converted bytes (Err k) passes wants = memory_fails bytes k passes wants

pub converted_read : (bytes : List ℕ) (r : Result Document ErrorKind) → AreBytes bytes → Passes bytes → Converts bytes r → IfOk r (λ d. IsRead (members_of (pairs_of d)))
converted_read bytes (Ok d) are passes means = bytes_read bytes (readable (members_of (pairs_of d))) are (passes, means)
converted_read bytes (Err k) are passes wants = tt

-- bytes that were written for a kept document are read as it
pub read_same : (bytes : List ℕ) (d e : Members) → IsKept d → bytes ≡ encode d → ReadsBytes bytes (readable e) → e ≡ d
read_same bytes d e kept is reads =
    let r : readable e ≡ readable d = (written_reads d kept (readable e)).0 (subst (λ b. ReadsBytes b (readable e)) is reads) in
    cc

pub wants_memory : (bytes : List ℕ) (d : Members) (k : ErrorKind) → IsKept d → bytes ≡ encode d → Fails bytes k → k ≡ Memory
wants_memory bytes d k kept is (inl h) =
    let r : unreadable k ≡ readable d = (written_reads d kept (unreadable k)).0 (subst (λ b. ReadsBytes b (unreadable k)) is h) in
    cc
wants_memory bytes d k kept is (inr h) = h.0
