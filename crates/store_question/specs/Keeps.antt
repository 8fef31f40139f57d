-- What a question keeps of documents.
use Rattle.std.specs.Prelude.{◌≡◌, [], ◌∷◌, Some}
use Rattle.bson_base.specs.Value.{document}
use Rattle.store_model.specs.Reading.{Documents}
use Rattle.store_model.specs.State.{When}
use Rattle.store_question.specs.Asked.{Answers, Asked}

-- those of the documents that answer the question, in their order
abbrev pub Keeps : Asked → Documents → Documents → Type 0
Keeps q [] out = out ≡ []
Keeps q (d ∷ ds) out = When (Answers q (Some (document d))) ((rest : Documents) × (out ≡ d ∷ rest) × Keeps q ds rest) (Keeps q ds out)
