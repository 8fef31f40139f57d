use Rattle.std.proofs.lemmas.Result.{IfOk-weaker}
use Rattle.bson_model.specs.View.{content, pairs_of, view}
use Rattle.fallowtime_requests.proofs.UpsertLemmas.{kept_own, none_own, put_front}
use Rattle.fallowtime_requests.proofs.upserts.fronted.Goals as goal

pub with_front_id-requires : goal.with_front_id-requires
with_front_id-requires c = none_own (pairs_of c.args.document) c.contains_key.result c.contains_key.ensures c.if-contains_key.false

pub returns-then-contains_key : goal.returns-then-contains_key
returns-then-contains_key c = kept_own (pairs_of c.args.document) c.contains_key.result c.contains_key.ensures (view c.args.id) c.if-contains_key.true

pub returns : goal.returns
returns c =
    IfOk-weaker c.with_front_id.result _ _ (λ m made. put_front (pairs_of c.args.document) c.contains_key.result c.contains_key.ensures (view c.args.id) (content m) c.if-contains_key.false made) c.with_front_id.ensures
