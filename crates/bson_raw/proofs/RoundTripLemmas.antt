-- A document that was written comes back.
use Rattle.std.proofs.Common.{◌≡◌, ℕ, List, Result, MatchResult, IfErr, Option, None, Ok, Err, sym, subst}
use Rattle.bson_base.specs.Value.{Members}
use Rattle.bson_bytes.specs.Encode.{encode}
use Rattle.bson_bytes.specs.Spells.{Means, IsFaulty}
use Rattle.bson_bytes.specs.Writing.{IsWriteRefusal, RefusesWriting}
use Rattle.bson_frame.specs.declared.error.Error.{Error}
use Rattle.bson_frame.specs.declared.error.ErrorKind.{ErrorKind}
use Rattle.bson_frame.specs.declared.error.ErrorKind.TheVariants.{MalformedValue, Utf8EncodingError, OutOfMemory}
use Rattle.bson_frame.specs.View.{fault_key}
use Rattle.bson_model.specs.declared.document.Document.{Document}
use Rattle.bson_model.specs.View.{pairs_of, members_of}
use Rattle.bson_raw.specs.Convert.{Told, TellsFault}

wants : (P : Type 0) (bytes : List ℕ) (d : Members) → Means bytes d → (key : Option (List ℕ)) (kind : ErrorKind) → Told (λ _ _. IsFaulty bytes) key kind → RefusesWriting P kind × (key ≡ None)
wants P bytes d m key MalformedValue t = absurd (t m.0 m.2)
wants P bytes d m key Utf8EncodingError t = absurd (t m.0 m.2)
wants P bytes d m key OutOfMemory t = (tt, t)

-- bytes that mean a document are refused only for lack of memory
pub only_memory : (P : Type 0) (bytes : List ℕ) (d : Members) (e : Error) → Means bytes d → TellsFault (λ _ _. IsFaulty bytes) e → IsWriteRefusal P e
only_memory P bytes d e m t = wants P bytes d m (fault_key e) e.kind t

pub comes_back : (ms : Members) (bytes : List ℕ) (P : Type 0) (Q : Error → Type 0) (result : Result Document Error) → bytes ≡ encode ms → Means (encode ms) ms
    → ((bs : List ℕ) (d e : Members) → Means bs d → Means bs e → d ≡ e)
    → MatchResult result (λ d. Means bytes (members_of (pairs_of d))) Q → IfErr result (TellsFault (λ _ _. IsFaulty bytes))
    → MatchResult result (λ d. members_of (pairs_of d) ≡ ms) (IsWriteRefusal P)
comes_back ms bytes P Q (Ok d) e m one tree none = one bytes (members_of (pairs_of d)) ms tree (subst (λ (x : List ℕ). Means x ms) (sym e) m)
comes_back ms bytes P Q (Err x) e m one tree none = only_memory P bytes ms x (subst (λ (y : List ℕ). Means y ms) (sym e) m) none
