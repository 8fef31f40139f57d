use Rattle.std.proofs.Common.{refl, string_bytes}
use Rattle.std.proofs.lemmas.Result.{on_ok_weaker}
use Rattle.bson_model.specs.View.{view, pairs_of}
use Rattle.store_documents.proofs.ChangeLemmas.{value_put}
use Rattle.fallowtime_commands.proofs.setting.put_value.Goals as goal

pub returns : goal.returns
returns c =
    on_ok_weaker c.put_owned.result (value_put (string_bytes c.in_ok-key.key) c.args.key.now (view c.args.value) (view c.args.value) (pairs_of c.args.document.now) (pairs_of c.put_owned.new.document) c.in_ok-key.ensures.ok refl) c.put_owned.ensures
