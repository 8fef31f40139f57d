-- What takers took.
use Rattle.std.specs.Prelude.{◌≡◌}
use Rattle.store_model.specs.Reading.{Documents}
use Rattle.store_question.specs.Asked.{Asked}
use Rattle.store_question.specs.Keeps.{Keeps}
use Rattle.store_question.specs.Reads.{Reads, form_of}
use Rattle.store_pipeline.specs.Held.{Holds, top_keys, top_limit}
use Rattle.store_pipeline.specs.declared.sorted.first.TopN.{TopN}
use Rattle.store_asked.specs.declared.answering.Answering.{Answering}

-- the taker behind a question took what the question keeps of the documents
abbrev pub TookAnswers : {T : Type 0} → (T → T → Documents → Type 0) → Answering T → Answering T → Documents → Type 0
TookAnswers took first t out = (t.question.now ≡ first.question.now) × ((q : Asked) → Reads (form_of t.question.now) q → (kept : Documents) × Keeps q out kept × took first.taker t.taker kept)

-- the first of the documents are held, of the same number and in the same order as before
abbrev pub TookFirst : TopN → TopN → Documents → Type 0
TookFirst first t out = (top_keys t ≡ top_keys first) × (top_limit t ≡ top_limit first) × Holds t out
