use Rattle.std.proofs.Common.{string_bytes}
use Rattle.std.proofs.lemmas.Result.{on_ok_weaker}
use Rattle.bson_meaning.specs.Meaning.{norm_in_order}
use Rattle.bson_model.specs.View.{view, pairs_of}
use Rattle.store_documents.proofs.ChangeLemmas.{value_put}
use Rattle.store_documents.proofs.change.put_normal.Goals as goal

pub returns-clause-put : goal.returns-clause-put
returns-clause-put c =
    on_ok_weaker c.put_value.result (value_put (string_bytes c.in_ok-key.key) c.args.key.now (view c.in_ok-value.value) (norm_in_order (view c.args.value)) (pairs_of c.args.document.now) (pairs_of c.put_value.new.document) c.in_ok-key.ensures.ok c.in_ok-value.ensures.normal) c.put_value.ensures

pub returns-clause-sound : goal.returns-clause-sound
returns-clause-sound c = on_ok_weaker c.put_value.result (λ _. c.in_ok-value.ensures.sound) c.put_value.ensures
