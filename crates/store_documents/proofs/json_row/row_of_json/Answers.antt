use Rattle.serde_json.specs.View.{view as data_of, members_view}
use Rattle.bson_model.specs.View.{members_of, pairs_of}
use Rattle.store_documents.proofs.OrderLemmas.{faulted, from_tree}
use Rattle.store_documents.proofs.json_row.row_of_json.Goals as goal

pub returns-in-Ok-clause-row : goal.returns-in-Ok-clause-row
returns-in-Ok-clause-row c =
    from_tree (data_of c.args.json) (members_view c.in-Some.map.entries) (members_of (pairs_of c.in-Ok.document)) c.row_in_order.result c.in-Some.ensures c.in-Ok.ensures c.row_in_order.ensures

pub returns-in-Err-clause-row : goal.returns-in-Err-clause-row
returns-in-Err-clause-row c =
    faulted (data_of c.args.json) (members_view c.in-Some.map.entries) c.in-Err.error c.json_refusal.result c.in-Some.ensures c.in-Err.ensures c.json_refusal.ensures
