use Rattle.std.proofs.Common.{sym, ◌∙◌}
use Rattle.bson_model.specs.View.{pairs_of}
use Rattle.fallowtime_statements.proofs.CountLemmas.{size_is}
use Rattle.fallowtime_statements.proofs.counting.size_of.Goals as goal

pub returns : goal.returns
returns c = c.len.ensures ∙ sym (size_is (pairs_of c.args.document.now))
