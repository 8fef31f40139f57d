use Rattle.std.proofs.Common.{refl}
use Rattle.serde_json.specs.Data.{object}
use Rattle.bson_model.specs.View.{content}
use Rattle.store_model.specs.Reading.{ReadsTree}
use Rattle.store_documents.proofs.ManyLemmas.{input_row}
use Rattle.store_documents.proofs.OrderLemmas.{from_tree}
use Rattle.store_documents.proofs.loading.Loader.take_text.Goals as goal

pub returns-clause-taken : goal.returns-clause-taken
returns-clause-taken c = λ _.
    let r = c.in-Ok.ensures in
    let j = object r.0 in
    let row = c.row_in_order-row.result in
    (j, r.1, λ js h. c.take_row.ensures j (input_row (ReadsTree j) row (from_tree j r.0 (content c.in-Ok.document) row refl r.2 c.row_in_order-row.ensures)) js h)
