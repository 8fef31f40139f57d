-- Trees that come one after the other.
use Rattle.std.specs.Prelude.{List, ◌++◌, Ok, Err, MatchOption}
use Rattle.serde_json.specs.Data.{Data}
use Rattle.store_model.specs.Reading.{ReadsTrees}
use Rattle.store_documents.specs.Judging.{Judges}
use Rattle.store_documents.specs.declared.loading.Loader.{Loader}

-- These trees were taken. All can be kept, and the loader has their rows; or it has a refusal, which stays the same
-- whatever trees come after them.
abbrev pub HasTaken : Loader → List Data → Type 0
HasTaken l js = MatchOption l.refusal (Judges (ReadsTrees js) (Ok l.rows)) (λ e. (more : List Data) → Judges (ReadsTrees (js ++ more)) (Err e))
