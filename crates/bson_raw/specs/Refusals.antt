-- What the errors of reading and writing say, without the place of a key in memory.
use Rattle.std.specs.Prelude.{ℕ, List, Option}
use Rattle.bson_frame.specs.declared.error.ErrorKind.{ErrorKind}
use Rattle.bson_frame.specs.View.{fault_key}
use Rattle.bson_raw.specs.declared.read_error.ReadError.{ReadError}
use Rattle.bson_raw.specs.declared.read_error.ReadError.TheVariants as reading
use Rattle.bson_raw.specs.declared.write_error.WriteError.{WriteError}
use Rattle.bson_raw.specs.declared.write_error.WriteError.TheVariants as writing

pub data Refusal : Type 0 where
  reader : Refusal
  writer : Refusal
  end_inside : Refusal
  bad_length : Refusal
  raw : Option (List ℕ) → ErrorKind → Refusal
  memory : Refusal

abbrev pub reading_refusal : ReadError → Refusal
reading_refusal reading.Reader = reader
reading_refusal reading.EndInside = end_inside
reading_refusal reading.BadLength = bad_length
reading_refusal (reading.Raw e) = raw (fault_key e) e.kind
reading_refusal reading.Memory = memory

abbrev pub writing_refusal : WriteError → Refusal
writing_refusal writing.Writer = writer
writing_refusal (writing.Raw e) = raw (fault_key e) e.kind
writing_refusal writing.Memory = memory
