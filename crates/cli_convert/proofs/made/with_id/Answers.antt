use Rattle.std.proofs.Common.{◌∙◌}
use Rattle.std.proofs.lemmas.Result.{IfOk-weaker}
use Rattle.bson_model.specs.View.{view}
use Rattle.cli_convert.proofs.IdLemmas.{gained, kept_so, maker_kept, maker_moved, none_yet}
use Rattle.cli_convert.proofs.made.with_id.Goals as goal

pub returns-then-contains_key-clause-document : goal.returns-then-contains_key-clause-document
returns-then-contains_key-clause-document c = kept_so c.args.maker.now c.args.document c.contains_key.result c.contains_key.ensures c.if-contains_key.true

pub returns-then-contains_key-clause-maker : goal.returns-then-contains_key-clause-maker
returns-then-contains_key-clause-maker c = maker_kept c.args.maker.now c.args.document c.contains_key.result c.contains_key.ensures c.if-contains_key.true

pub with_front_id-requires : goal.with_front_id-requires
with_front_id-requires c = none_yet c.args.maker.now c.args.document c.contains_key.result c.contains_key.ensures c.if-contains_key.false

pub returns-clause-document : goal.returns-clause-document
returns-clause-document c =
    IfOk-weaker c.with_front_id.result _ _
    (λ d put. gained c.args.maker.now c.args.document c.contains_key.result c.contains_key.ensures d (view c.made_id-id.result) c.if-contains_key.false c.made_id-id.ensures.id put)
    c.with_front_id.ensures

pub returns-clause-maker : goal.returns-clause-maker
returns-clause-maker c = c.made_id-id.ensures.maker ∙ maker_moved c.args.maker.now c.args.document c.contains_key.result c.contains_key.ensures c.if-contains_key.false
