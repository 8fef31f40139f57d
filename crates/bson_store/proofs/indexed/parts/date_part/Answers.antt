use Rattle.std.proofs.Common.{rules}
use Rattle.bson_store.proofs.CodeLemmas.{date_result}
use Rattle.bson_store.proofs.indexed.parts.date_part.Goals as goal

pub returns : goal.returns
returns c = date_result c.timestamp_millis.result _ (search rules) c.timestamp_millis.ensures
