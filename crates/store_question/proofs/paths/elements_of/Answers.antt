use Rattle.std.proofs.Common.{sym}
use Rattle.store_question.proofs.ViewLemmas.{array_held}
use Rattle.store_question.proofs.paths.elements_of.Goals as goal

pub returns-clause-held : goal.returns-clause-held
returns-clause-held c = λ v h. array_held c.args.value v c.in_ok-array.array c.as_bytes.result.now c.from_bytes.result c.ok.result (sym c.in_ok-array.ensures) c.as_bytes.ensures c.from_bytes.ensures c.ok.ensures.value h
