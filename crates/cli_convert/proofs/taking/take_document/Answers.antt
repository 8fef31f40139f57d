use Rattle.bson_model.specs.View.{content}
use Rattle.cli_convert.proofs.TakeLemmas.{document_taken}
use Rattle.cli_convert.proofs.taking.take_document.Goals as goal

pub returns-clause-taken : goal.returns-clause-taken
returns-clause-taken g c = document_taken g.W.Take.takes c.args.number c.args.line.now (content c.in_ok-document.document) c.args.target.now c.take.new.target c.take.result c.in_ok-document.ensures c.take.ensures.taken
