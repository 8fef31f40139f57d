use Rattle.std.proofs.Common.{string_bytes}
use Rattle.cli_convert.proofs.ToLinesLemmas.{line_of}
use Rattle.cli_convert.proofs.texts.write_line.Goals as goal

pub returns : goal.returns
unfolding lib.Utf8.encode
returns c = line_of c.args.mode c.args.bytes.now (string_bytes c.write_text.new.text) (string_bytes c.push.new.self) c.in_ok-write_text.ensures c.in_ok-push.ensures.bytes
