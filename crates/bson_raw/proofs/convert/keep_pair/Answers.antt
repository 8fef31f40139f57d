use Rattle.std.proofs.Common.{ap, ◌∙◌}
use Rattle.std.proofs.lemmas.List.Sums.{fold-append}
use Rattle.bson_model.specs.Extend.{put_all}
use Rattle.bson_model.specs.Keyed.{put}
use Rattle.bson_model.specs.View.{view}
use Rattle.bson_raw.proofs.convert.keep_pair.Goals as goal

pub returns : goal.returns
returns c = λ ps.
    ap (λ l. put_all l ps) c.in_ok-push.ensures.items ∙ fold-append _ ps c.args.pairs.now.items _
    ∙ ap (λ k. put k (view c.args.value) (put_all c.args.pairs.now.items ps)) c.in_ok-key.ensures.ok
