use Rattle.std.proofs.Common.{◌∙◌, sym, subst}
use Rattle.json.specs.Value.{value_view}
use Rattle.store_question_read.specs.Outcome.{Asks as StandsFor, Gives, IsQuery}
use Rattle.store_question_read.specs.Query.{query}
use Rattle.fallowtime_requests.proofs.QueryLemmas.{of_tree, of_word}
use Rattle.fallowtime_requests.proofs.parts.query_in.Goals as goal
use Rattle.fallowtime_requests.proofs.parts.query_in.Goals.{in-Word, in-Tree}

pub returns-in-Ok : goal.returns-in-Ok
returns-in-Ok c = elim c.match-input.branch [
  | in-Word w ↦ rw w.in-Word.is (of_word w.in-Word.text.now c.in-Ok.question (subst (λ r. IsQuery w.in-Word.text.now r) (sym w.read-is ∙ c.in-Ok.is) w.read_query-read.ensures))
  | in-Tree w ↦ rw w.in-Tree.is (of_tree (value_view w.in-Tree.tree.now) c.in-Ok.question (subst (λ r. Gives StandsFor r (query (value_view w.in-Tree.tree.now))) (sym w.read-is ∙ c.in-Ok.is) w.query_of-read.ensures))
]
