use Rattle.std.proofs.Common.{◌∙◌, refl, sym}
use Rattle.store_pipeline.proofs.KeyLemmas.{key_equal, key_greater, key_less, keys_end}
use Rattle.store_pipeline.proofs.sorted.compare.compare_documents.Goals as goal

pub loop-key-init : goal.loop-key-init
loop-key-init c = λ d is e is2. refl

pub returns-in-Less : goal.returns-in-Less
returns-in-Less c = λ d is e is2. key_less c.args.keys.now c.loop-key.key-index d e c.key-item.result c.key-item.is c.loop-key-test.true (c.loop-key.invariant d is e is2) (sym (c.compare_under.ensures d is e is2) ∙ c.in-Less.is)

pub returns-in-Greater : goal.returns-in-Greater
returns-in-Greater c = λ d is e is2. key_greater c.args.keys.now c.loop-key.key-index d e c.key-item.result c.key-item.is c.loop-key-test.true (c.loop-key.invariant d is e is2) (sym (c.compare_under.ensures d is e is2) ∙ c.in-Greater.is)

pub loop-key-preserved : goal.loop-key-preserved
loop-key-preserved c = λ d is e is2. key_equal c.args.keys.now c.loop-key.key-index d e c.key-item.result c.key-item.is c.loop-key-test.true (c.loop-key.invariant d is e is2) (sym (c.compare_under.ensures d is e is2) ∙ c.in-Equal.is)

pub returns : goal.returns
returns c = λ d is e is2. keys_end c.args.keys.now c.loop-key.key-index d e c.loop-key-test.false (c.loop-key.invariant d is e is2)
