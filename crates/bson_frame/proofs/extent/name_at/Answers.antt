use Rattle.std.proofs.lemmas.Str.{IsUtf8-from_ascii}
use Rattle.std.proofs.lemmas.List.{take_rest}
use Rattle.bson_frame.proofs.AsciiLemmas.{ascii_run, whole_run, splits_at_zero}
use Rattle.bson_frame.proofs.extent.name_at.Goals as goal

pub from_utf8_unchecked-requires : goal.from_utf8_unchecked-requires
from_utf8_unchecked-requires c = IsUtf8-from_ascii _ (ascii_run c.args.bytes.now c.in-Some.i c.in-Some.ensures.2)

pub returns-in-Some : goal.returns-in-Some
returns-in-Some c =
    let bytes = c.args.bytes.now in
    let i = c.in-Some.i in
    let found = c.in-Some.ensures in
    rw take_rest (rw c.from_utf8_unchecked.ensures (record { no_zero = whole_run bytes i found.2; text = IsUtf8-from_ascii _ (ascii_run bytes i found.2) }, splits_at_zero bytes i found.0 found.1))
