use Rattle.std.proofs.Common.{string_bytes}
use Rattle.bson_model.specs.View.{content}
use Rattle.fallowtime_statements.proofs.ModifyLemmas.{mixed}
use Rattle.fallowtime_statements.proofs.modifying.statement_mixed.Goals as goal

pub returns : goal.returns
returns c =
    mixed c.statement_in_text.result c.args.command c.args.name.now (content c.args.query) (content c.args.work) (content c.args.options) (string_bytes c.in_ok-first.first) (string_bytes c.in_ok-second.second) (string_bytes c.in_ok-third.third) (string_bytes c.in_ok-fourth.fourth)
    (string_bytes c.in_ok-line.line) c.in_ok-first.ensures c.in_ok-second.ensures c.in_ok-third.ensures c.in_ok-fourth.ensures
    (rw c.as_str.ensures.value at (rw c.as_str-2.ensures.value at (rw c.as_str-3.ensures.value at (rw c.as_str-4.ensures.value at c.in_ok-line.ensures)))) c.statement_in_text.ensures
