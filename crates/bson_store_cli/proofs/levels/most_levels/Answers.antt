use Rattle.std.proofs.Common.{◌∙◌, ap, max}
use Rattle.bson_store_cli.specs.Levels.{levels_in}
use Rattle.bson_store_cli.proofs.LevelLemmas.{last_text, next_text}
use Rattle.bson_store_cli.proofs.levels.most_levels.Goals as goal

pub loop-text-preserved : goal.loop-text-preserved
loop-text-preserved c =
    let l = c.loop-text in
    next_text l.most _ l.text-index c.args.texts.now _ _ c.loop-text-test.true c.text-item.is
    (c.greater-most.ensures ∙ ap (λ k. max l.most k) (c.levels_in.ensures ∙ ap levels_in c.as_bytes.ensures.value)) l.invariant

pub returns : goal.returns
returns c = last_text c.loop-text.most c.loop-text.text-index c.args.texts.now _ c.loop-text-test.false c.loop-text.invariant
