use Rattle.std.proofs.Common.{map, string_bytes}
use Rattle.bson_model.specs.View.{items_of, view}
use Rattle.fallowtime_statements.proofs.LineLemmas.{line_read}
use Rattle.fallowtime_statements.proofs.lines.statement_by.Goals as goal

pub returns : goal.returns
returns c = line_read c.statement_in_text.result c.args.mode c.args.command (items_of (map view c.args.values.items)) (string_bytes c.in_ok-text.text) c.in_ok-text.ensures c.statement_in_text.ensures
