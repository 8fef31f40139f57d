use Rattle.std.proofs.lemmas.Result.{IfOk-weaker}
use Rattle.bson_model.specs.View.{content, pairs_of, view}
use Rattle.fallowtime_commands.proofs.ReplaceLemmas.{none_own, placed_front, placed_own}
use Rattle.fallowtime_commands.proofs.replacing.identified_by.Goals as goal

pub with_front_id-requires : goal.with_front_id-requires
with_front_id-requires c = none_own (pairs_of c.args.document) c.contains_key.result c.contains_key.ensures c.if-contains_key.false

pub returns-then-contains_key : goal.returns-then-contains_key
returns-then-contains_key c =
    IfOk-weaker c.with_value_of_id.result _ _ (λ m made. placed_own (pairs_of c.args.document) c.contains_key.result c.contains_key.ensures (view c.args.id) (content m) c.if-contains_key.true made) c.with_value_of_id.ensures

pub returns : goal.returns
returns c =
    IfOk-weaker c.with_front_id.result _ _ (λ m made. placed_front (pairs_of c.args.document) c.contains_key.result c.contains_key.ensures (view c.args.id) (content m) c.if-contains_key.false made) c.with_front_id.ensures
