-- The question of an argument that was read as one.
use Rattle.std.proofs.Common.{◌≡◌, ℕ, List, Result, Ok, Err, refl}
use Rattle.json.specs.Json.{Json}
use Rattle.store_question.specs.Asked.{Asked}
use Rattle.store_question.specs.declared.question.Question.{Question}
use Rattle.store_question_read.specs.Outcome.{Asks as StandsFor, Gives, IsQuery}
use Rattle.store_question_read.specs.Query.{Fault, query}
use Rattle.fallowtime_requests.specs.Inputs.{Given, word, tree, IsAsked}

-- the argument is a query, and the question stands for what it asks
abbrev pub IsFor : Given → Question → Type 0
IsFor g q = (a : Asked) × IsAsked g a × StandsFor q a

-- what reading gave, if it gave a question
pub given : (q : Question) (r : Result Asked Fault) → Gives StandsFor (Ok q) r → (a : Asked) × (r ≡ Ok a) × StandsFor q a
given q (Ok a) h = (a, refl, h)
given q (Err f) h = absurd h

pub of_tree : (j : Json) (q : Question) → Gives StandsFor (Ok q) (query j) → IsFor (tree j) q
of_tree j q h = let g = given q (query j) h in (g.0, (j, refl, g.1), g.2)

pub of_word : (w : List ℕ) (q : Question) → IsQuery w (Ok q) → IsFor (word w) q
of_word w q h = (h.1, (h.0, (h.2, h.3), h.4), h.5)
