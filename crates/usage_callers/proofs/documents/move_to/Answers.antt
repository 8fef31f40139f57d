use Rattle.std.proofs.Common.{codes, string_bytes}
use Rattle.bson_base.specs.Value.{scalar, string}
use Rattle.bson_model.specs.View.{pairs_of, view}
use Rattle.usage_callers.proofs.KeyLemmas.{found_under}
use Rattle.usage_callers.proofs.documents.move_to.Goals as goal

pub returns-clause-found : goal.returns-clause-found
returns-clause-found c =
    found_under (codes "city") (scalar (string c.args.city.now)) c.put.result (string_bytes c.in_ok-key.key) (view c.in_ok-text.text) (pairs_of c.args.document.now) (pairs_of c.put.new.self) c.put.ensures.ok c.in_ok-key.ensures.ok c.in_ok-text.ensures
