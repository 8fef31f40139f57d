use Rattle.std.proofs.Common.{rules}
use Rattle.json.specs.Value.{value_view}
use Rattle.bson_model.specs.JsonWrappers.{reserved_key}
use Rattle.bson_model.specs.View.{view}
use Rattle.store_documents.specs.Reads.{IsAlike}
use Rattle.store_documents.proofs.AlikeLemmas.{wrapped_alike}
use Rattle.store_documents.proofs.scalars.read_alike.Goals as goal

pub returns-in-Ok : goal.returns-in-Ok
returns-in-Ok c =
    let alike : IsAlike (reserved_key c.args.wrapper) (value_view c.args.value.now) = search rules in
    wrapped_alike c.args.key.now (reserved_key c.args.wrapper) (value_view c.args.value.now) (view c.in-Ok.read) alike c.in-Ok.ensures
