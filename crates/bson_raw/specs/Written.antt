-- What the parts of `append` say.
use Rattle.std.specs.Prelude.{◌≡◌, ℕ, ◌+◌, ◌<◌, ◌^◌, ◌≤◌, List, [], ◌∷◌, ◌++◌, length, IsUtf8, Result, Ok, Err}
use Rattle.bson_base.specs.Value.{Scalar, object_id, decimal, db_pointer, regex}
use Rattle.bson_bytes.specs.Encode.{le32}
use Rattle.bson_frame.specs.declared.error.Error.{Error}
use Rattle.bson_frame.specs.declared.error.ErrorKind.TheVariants.{MalformedValue}
use Rattle.bson_frame.specs.Payload.{IsEnvelope}
use Rattle.bson_frame.specs.View.{IsBare}
use Rattle.bson_raw.specs.declared.bson_ref.RawJavaScriptCodeWithScopeRef.{RawJavaScriptCodeWithScopeRef}
use Rattle.bson_raw.specs.Raw.{RawValue, raw_payload, IsPlainRaw, leaf, array, document, scoped_code}
use Rattle.bson_raw.specs.View.{bytes_of}

abbrev pub scoped_value : RawJavaScriptCodeWithScopeRef → RawValue
scoped_value c = scoped_code c.code.now (bytes_of c.scope)

-- no 00 in a pattern or options, and at most 2147483647 bytes
abbrev pub CanWrite : RawValue → Type 0
CanWrite v = IsPlainRaw v × (length (raw_payload v) < 2 ^ 31)

-- what becomes of a document's elements and of what was put after its final 00, with the tag in place of that 00: a
-- document, if it isn't too long
abbrev pub Closes : List ℕ → List ℕ → List ℕ → ℕ → List ℕ → Result (Unit {0}) Error → Type 0
Closes four body more tag new (Ok x) = (new ≡ le32 (length body + length more + 5) ++ (body ++ tag ∷ more)) × (length body + length more + 5 < 2 ^ 31)
Closes four body more tag new (Err e) = (new ≡ four ++ (body ++ 0 ∷ [])) × IsBare MalformedValue e × (2 ^ 31 ≤ length body + length more + 5)

-- what the types of values say of their payloads
abbrev pub IsFormedScalar : Scalar → Type 0
IsFormedScalar (object_id bs) = length bs ≡ 12
IsFormedScalar (decimal bs) = length bs ≡ 16
IsFormedScalar (db_pointer t bs) = length bs ≡ 12
IsFormedScalar (regex p o) = IsUtf8 p × IsUtf8 o
IsFormedScalar _ = Unit {0}

abbrev pub IsFormed : RawValue → Type 0
IsFormed (leaf s) = IsFormedScalar s
IsFormed (array bs) = IsEnvelope bs
IsFormed (document bs) = IsEnvelope bs
IsFormed (scoped_code t bs) = Unit {0}
