-- What is reported of a conversion, and the program's status.
use Rattle.std.specs.Prelude.{◌≡◌, ◌⊎◌, ℕ, ◌+◌, ◌-◌, ◌^◌, min, List, [], ◌++◌, codes, decimal, string_bytes, Result, Ok, Err}
use Rattle.std.specs.Io.KnownBytes.{Appends}
use Rattle.bson_base.specs.Device.{Tally, TakesText, TakesBeginning}
use Rattle.bson_frame.specs.declared.error.ErrorKind.{ErrorKind}
use Rattle.bson_frame.specs.declared.error.ErrorKind.TheVariants as kinds
use Rattle.bson_json_read.specs.declared.error.Error.{Error}
use Rattle.bson_json_read.specs.declared.error.Error.TheVariants.{NotJson, RepeatedKey, InvalidObjectId, NumberOutOfRange, NotExtendedJson, Memory}
use Rattle.cli_convert.specs.Shown.{shown}
use Rattle.cli_convert.specs.declared.stop.Fault.{Fault}
use Rattle.cli_convert.specs.declared.stop.Fault.TheVariants as fault
use Rattle.cli_convert.specs.declared.stop.LineFault.{LineFault}
use Rattle.cli_convert.specs.declared.stop.LineFault.TheVariants as line
use Rattle.cli_convert.specs.declared.stop.Stop.{Stop}
use Rattle.cli_convert.specs.declared.stop.Stop.TheVariants as stop

abbrev pub kind_name : ErrorKind → List ℕ
kind_name kinds.MalformedValue = codes "MalformedValue"
kind_name kinds.Utf8EncodingError = codes "Utf8EncodingError"
kind_name kinds.OutOfMemory = codes "Memory"

-- the kind, the document's place from 0, and what is at fault
abbrev pub refusal : List ℕ → ℕ → List ℕ → List ℕ
refusal kind place more = codes "refused: " ++ (kind ++ (codes " document " ++ (decimal place ++ (more ++ codes "\n"))))

abbrev pub fault_text : ℕ → Fault → List ℕ
fault_text n fault.EndInside = refusal (codes "EndInside") n []
fault_text n fault.BadLength = refusal (codes "BadLength") n []
fault_text n (fault.Raw e) = refusal (kind_name e.kind) n []
fault_text n (fault.ReservedKey path) = refusal (codes "ReservedKey") n (codes " " ++ shown (string_bytes path))

-- a byte's place from 1
abbrev pub byte_text : ℕ → List ℕ
byte_text n = codes " byte " ++ decimal (min (n + 1) (2 ^ 64 - 1))

-- the line's place from 1, the byte's, if there is one, and the kind
abbrev pub misuse : ℕ → List ℕ → List ℕ → List ℕ
misuse number byte kind = codes "words: line " ++ (decimal number ++ (byte ++ (codes " " ++ (kind ++ codes "\n"))))

abbrev pub text_fault : ℕ → Error → List ℕ
text_fault n (NotJson b) = misuse n (byte_text b) (codes "NotJson")
text_fault n RepeatedKey = misuse n [] (codes "RepeatedKey")
text_fault n (InvalidObjectId e) = misuse n [] (codes "InvalidObjectId")
text_fault n NumberOutOfRange = misuse n [] (codes "NumberOutOfRange")
text_fault n NotExtendedJson = misuse n [] (codes "NotExtendedJson")
text_fault n Memory = misuse n [] (codes "Memory")

abbrev pub line_text : ℕ → LineFault → List ℕ
line_text n line.TooLong = misuse n [] (codes "TooLong")
line_text n (line.NotUtf8 b) = misuse n (byte_text b) (codes "Utf8EncodingError")
line_text n (line.Text e) = text_fault n e
line_text n (line.Raw e) = misuse n [] (kind_name e.kind)

abbrev pub memory_line : List ℕ
memory_line = codes "refused: Memory\n"

abbrev pub stop_text : Stop → List ℕ
stop_text (stop.Document i f) = fault_text i f
stop_text (stop.Line i f) = line_text i f
stop_text stop.Reader = codes "refused: Reader\n"
stop_text stop.Writer = codes "refused: Writer\n"
stop_text stop.Memory = memory_line

-- 2 if a line can't be read, and 1 for everything else that is refused
abbrev pub stop_status : Stop → ℕ
stop_status (stop.Document i f) = 1
stop_status (stop.Line i f) = 2
stop_status stop.Reader = 1
stop_status stop.Writer = 1
stop_status stop.Memory = 1

-- The status of a result, and the line of what is refused, or that of memory if it ran out for that line.
abbrev pub Reports : Result (Unit {0}) Stop → Tally → Tally → ℕ → Type 0
Reports (Ok x) before after status = (status ≡ 0) × (after ≡ before)
Reports (Err e) before after status = (status ≡ stop_status e) × (TakesText before after (stop_text e) ⊎ TakesText before after memory_line)

-- a text was written; or a prefix of it, as a call failed
abbrev pub SendsWhole : List ℕ → Tally → Tally → Result (Unit {0}) Stop → Type 0
SendsWhole text before after (Ok x) = (after.failures ≡ before.failures) × Appends before.taken after.taken text
SendsWhole text before after (Err stop.Writer) = (after.failures ≡ before.failures + 1) × TakesBeginning before.taken after.taken text
SendsWhole text before after (Err _) = ⊥
