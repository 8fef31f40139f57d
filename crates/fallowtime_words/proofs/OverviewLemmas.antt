-- The overview is made of the rows of the table.
use Rattle.std.proofs.Common.{◌≡◌, ℕ, List, ◌++◌, map, ◌∙◌, ap}
use Rattle.fallowtime_words.specs.Commands.{commands}
use Rattle.fallowtime_words.specs.declared.table.Signature.{Signature}
use Rattle.fallowtime_words.specs.Overview.{rows_text, IsOverview}
use Rattle.fallowtime_words.specs.declared.texts.TheConstants.{BACK, FRONT}

pub joined_rows : (rows : List Signature) (front list whole : List ℕ) → front ≡ FRONT.now → list ≡ front ++ rows_text rows → whole ≡ list ++ BACK.now
    → map (λ row. row.command) rows ≡ commands → IsOverview whole
joined_rows rows front list whole e f g same = (rows, same, g ∙ ap (λ t. t ++ BACK.now) (f ∙ ap (λ t. t ++ rows_text rows) e))
