use Rattle.std.proofs.Common.{string_bytes}
use Rattle.json.specs.Value.{value_view}
use Rattle.fallowtime_statements.proofs.LineLemmas.{text_read}
use Rattle.fallowtime_statements.proofs.lines.statement_in_text.Goals as goal

pub returns : goal.returns
returns c = text_read c.statement_in_line.result c.args.command (string_bytes c.args.text.now) (value_view c.in_ok-line.line) c.in_ok-line.ensures c.statement_in_line.ensures
