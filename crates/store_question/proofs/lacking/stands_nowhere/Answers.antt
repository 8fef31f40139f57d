use Rattle.std.proofs.Common.{◌∙◌, ap}
use Rattle.std.specs.Prelude.{not}
use Rattle.store_question.proofs.LackLemmas.{no_pair, not_there}
use Rattle.store_question.proofs.lacking.stands_nowhere.Goals as goal

pub returns-in_default : goal.returns-in_default
returns-in_default c = λ t s. not_there c.args.text.now c.args.bytes.now c.find.result c.find.ensures (c.is_none.ensures ∙ ap not t) s

pub returns-then-not-starts_with : goal.returns-then-not-starts_with
returns-then-not-starts_with c = λ t s. not_there c.args.text.now c.args.bytes.now c.find-then-not-starts_with.result c.find-then-not-starts_with.ensures (c.is_none-then-not-starts_with.ensures ∙ ap not t) s

pub returns-in-None : goal.returns-in-None
returns-in-None c = λ t s. no_pair c.in-Some.pair c.args.text.now c.args.bytes.now c.in-Some.ensures.finder c.in-None.ensures s
