-- The kinds that an input is refused with.
use Rattle.std.proofs.Common.{◌≡◌, ◌≢◌, ◌⊎◌, inl, inr, ℕ, List, Bool, true, false, cond, Some, None, refl}
use Rattle.std.specs.Prelude.{nat_lt}
use Rattle.bson_base.specs.Value.{Members, has_key}
use Rattle.bson_bytes.specs.Encode.{size}
use Rattle.bson_frame.specs.Frame.{size_limit}
use Rattle.bson_meaning.specs.declared.gating.GateError.{GateError}
use Rattle.bson_meaning.specs.declared.gating.GateError.TheVariants as gate
use Rattle.store_model.specs.Reading.{kind_of_gate_error, readable, unreadable, ReadsBytes}
use Rattle.store_model.specs.State.{id_key, refusal_of}
use Rattle.store_model.specs.declared.error.ErrorKind.{ErrorKind}
use Rattle.store_model.specs.declared.error.ErrorKind.TheVariants.{NoId, TooLong, Memory, Database, Reader, Writer}
use Rattle.bson_base.specs.Device.{Feed}
use Rattle.cli_commands.specs.Pipe.{ReadsRefused, RefusesInput}

-- why bytes are refused, or the document that they mean
abbrev pub AreRefused : List ℕ → ErrorKind → Type 0
AreRefused bytes kind = ReadsBytes bytes (unreadable kind) ⊎ ((d : Members) × ReadsBytes bytes (readable d) × (refusal_of d ≡ Some kind))

-- the kind is of what is read, and not of a device, of memory or of the database
abbrev pub IsOfInput : ErrorKind → Type 0
IsOfInput kind = (kind ≢ Memory) × (kind ≢ Database) × (kind ≢ Reader) × (kind ≢ Writer)

of_bytes : (e : GateError) (kind : ErrorKind) → kind ≡ kind_of_gate_error e → IsOfInput kind
of_bytes gate.EndInside kind is = ((λ x. cc), (λ x. cc), (λ x. cc), (λ x. cc))
of_bytes gate.BadLength kind is = ((λ x. cc), (λ x. cc), (λ x. cc), (λ x. cc))
of_bytes gate.NotTerminated kind is = ((λ x. cc), (λ x. cc), (λ x. cc), (λ x. cc))
of_bytes gate.Faulty kind is = ((λ x. cc), (λ x. cc), (λ x. cc), (λ x. cc))
of_bytes gate.TooDeep kind is = ((λ x. cc), (λ x. cc), (λ x. cc), (λ x. cc))

of_document : (a b : Bool) (kind : ErrorKind) → cond a (cond b (Some TooLong) None) (Some NoId) ≡ Some kind → IsOfInput kind
of_document false b kind is = ((λ x. cc), (λ x. cc), (λ x. cc), (λ x. cc))
of_document true true kind is = ((λ x. cc), (λ x. cc), (λ x. cc), (λ x. cc))
of_document true false kind is = ((λ x. cc), (λ x. cc), (λ x. cc), (λ x. cc))

pub of_input : (bytes : List ℕ) (kind : ErrorKind) → AreRefused bytes kind → IsOfInput kind
of_input bytes kind (inl (e, refused, is)) = of_bytes e kind is
of_input bytes kind (inr (d, reads, is)) = of_document (has_key id_key d) (nat_lt size_limit (size d)) kind is

pub input_refused : (kind : ErrorKind) (old new : Feed) → ReadsRefused old new kind → RefusesInput kind old new
input_refused Memory old new h = absurd ((of_input h.0 Memory h.2).0 refl)
input_refused Database old new h = absurd ((of_input h.0 Database h.2).1 refl)
input_refused Reader old new h = absurd ((of_input h.0 Reader h.2).2 refl)
input_refused _ old new h = h
