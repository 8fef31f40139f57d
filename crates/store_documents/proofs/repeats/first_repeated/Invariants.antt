use Rattle.std.proofs.Common.{[]}
use Rattle.store_documents.specs.Keys.{keys_of_rows}
use Rattle.store_documents.proofs.TakenLemmas.{ComeTo}
use Rattle.store_documents.proofs.repeats.first_repeated.Given as goal

abbrev pub invariant-loop-at : goal.invariant-loop-at
invariant-loop-at l = ComeTo [] (keys_of_rows l.rows) l.met l.at
