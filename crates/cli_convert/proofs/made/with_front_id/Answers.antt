use Rattle.std.proofs.lemmas.Result.{IfOk-weaker}
use Rattle.bson_model.specs.View.{view}
use Rattle.cli_convert.proofs.IdLemmas.{in_front}
use Rattle.cli_convert.proofs.made.with_front_id.Goals as goal

pub returns : goal.returns
returns c =
    IfOk-weaker c.from_pairs.result _ _ (λ d made. in_front c.args.document d (view c.args.id) c.in_ok-pairs.pairs.items c.requires c.distinct_keys_of_level.ensures c.in_ok-pairs.ensures made) c.from_pairs.ensures
