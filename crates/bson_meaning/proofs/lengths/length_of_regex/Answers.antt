use Rattle.std.proofs.Common.{◌≡◌, length, string_bytes, arith}
use Rattle.std.proofs.lemmas.Str.{IsUtf8-string_bytes}
use Rattle.bson_base.specs.Options.{sorted_text}
use Rattle.bson_meaning.proofs.NormalScalarLemmas.{sorted_text_length}
use Rattle.bson_meaning.proofs.lengths.length_of_regex.Goals as goal

pub returns : goal.returns
returns c =
    let o = string_bytes c.args.regex.now.options in
    let same : length (sorted_text o) ≡ length o = sorted_text_length o (IsUtf8-string_bytes c.args.regex.now.options) in
    omega (arith, same, c.len.ensures, c.len-2.ensures, c.saturating_add.ensures, c.saturating_add-2.ensures)
