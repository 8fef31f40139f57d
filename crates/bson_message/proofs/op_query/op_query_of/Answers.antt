use Rattle.std.proofs.Common.{rules, sym, ◌∙◌}
use Rattle.bson_message.proofs.QuestionLemmas.{asked, asked_no_document, asked_no_name, asked_no_return, asked_no_selection, asked_no_skip}
use Rattle.bson_message.proofs.op_query.op_query_of.Goals as goal

pub returns-in_err-collection : goal.returns-in_err-collection
returns-in_err-collection c = rw c.from_residual-in_err-collection.ensures (asked_no_name c.args.bytes.now c.in_ok-flags.rest.now c.in_ok-flags.ensures.2 c.in_err-collection.ensures)

pub returns-in_err-_skipped : goal.returns-in_err-_skipped
returns-in_err-_skipped c =
    rw c.from_residual-in_err-_skipped.ensures (asked_no_skip c.args.bytes.now c.in_ok-collection.rest.now c.in_ok-collection.collection.now c.in_ok-collection.ensures.0 (sym c.in_ok-flags.ensures.2 ∙ c.in_ok-collection.ensures.1) c.in_err-_skipped.ensures)

pub returns-in_err-_returned : goal.returns-in_err-_returned
returns-in_err-_returned c =
    rw c.from_residual-in_err-_returned.ensures (asked_no_return c.args.bytes.now c.in_ok-collection.rest.now c.in_ok-_skipped.rest.now c.in_ok-collection.collection.now c.in_ok-collection.ensures.0 (sym c.in_ok-flags.ensures.2 ∙ c.in_ok-collection.ensures.1) c.in_ok-_skipped.ensures.2 c.in_err-_returned.ensures)

pub returns-in_err-query : goal.returns-in_err-query
returns-in_err-query c =
    rw c.from_residual-in_err-query.ensures (asked_no_document c.args.bytes.now c.in_ok-collection.rest.now c.in_ok-_skipped.rest.now c.in_ok-_returned.rest.now c.in_ok-collection.collection.now c.in_ok-collection.ensures.0 (sym c.in_ok-flags.ensures.2 ∙ c.in_ok-collection.ensures.1) c.in_ok-_skipped.ensures.2 c.in_ok-_returned.ensures.2 c.in_err-query.ensures)

pub returns-then-not-is_selection : goal.returns-then-not-is_selection
returns-then-not-is_selection c =
    asked_no_selection c.args.bytes.now c.in_ok-collection.rest.now c.in_ok-_skipped.rest.now c.in_ok-_returned.rest.now c.in_ok-collection.collection.now c.in_ok-query.query c.in_ok-query.fields.now c.in_ok-collection.ensures.0 (sym c.in_ok-flags.ensures.2 ∙ c.in_ok-collection.ensures.1) c.in_ok-_skipped.ensures.2 c.in_ok-_returned.ensures.2 c.in_ok-query.ensures.0 (search (rules, c.is_selection.ensures, c.if-not-is_selection.ensures))

pub returns : goal.returns
returns c = (
  c.in_ok-flags.ensures.1,
  asked c.args.bytes.now c.in_ok-flags.rest.now c.in_ok-collection.rest.now c.in_ok-_skipped.rest.now c.in_ok-_returned.rest.now c.in_ok-collection.collection.now c.in_ok-query.query c.in_ok-query.fields.now c.in_ok-flags.ensures.0 c.in_ok-flags.ensures.2 c.in_ok-collection.ensures.0 c.in_ok-collection.ensures.1 c.in_ok-_skipped.ensures.0 c.in_ok-_skipped.ensures.2 c.in_ok-_returned.ensures.0 c.in_ok-_returned.ensures.2 c.in_ok-query.ensures.0 (search (rules, c.is_selection.ensures, c.if-not-is_selection.ensures)),
)
