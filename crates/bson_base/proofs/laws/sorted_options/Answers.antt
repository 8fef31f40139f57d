use Rattle.bson_base.proofs.OptionsLemmas.{sorted_text-in_order, sorted_text-kept}
use Rattle.bson_base.proofs.laws.sorted_options.Goals as goal

pub returns-clause-in_order : goal.returns-clause-in_order
returns-clause-in_order c = sorted_text-in_order

pub returns-clause-kept : goal.returns-clause-kept
returns-clause-kept c = sorted_text-kept
