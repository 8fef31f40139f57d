-- The lines of the answers of a list, one after the other.
use Rattle.std.proofs.Common.{◌≡◌, ◌<◌, ◌≤◌, ◌+◌, ℕ, List, [], ◌∷◌, ◌++◌, length, drop, get_or, Ok, Err, Result, refl, ap, sym, ◌∙◌, subst, append_assoc, append-nil}
use Rattle.std.proofs.lemmas.List.{drop_all, drop_more}
use Rattle.bson_base.specs.Device.{Tally}
use Rattle.fallowtime_commands.specs.declared.answer.Answer.{Answer}
use Rattle.fallowtime_commands.specs.ListLines.{AreLines, PutsLine, SendsAll}
use Rattle.fallowtime_commands.specs.Sessions.{Sends}
use Rattle.store_model.specs.declared.error.ErrorKind.{ErrorKind}
use Rattle.store_model.specs.declared.error.ErrorKind.TheVariants.{Memory, Writer}

-- after i answers: the lines of the rest behind these are those of all
pub record SoFar (answers : List Answer) (now : List ℕ) (i : ℕ) : Type 0 where
  pub ends : (rest : List ℕ) → AreLines (drop i answers) rest → AreLines answers (now ++ rest)

pub none_yet : (answers : List Answer) (now : List ℕ) → now ≡ [] → SoFar answers now 0
none_yet answers now none = record { ends = λ rest are. subst (λ bs. AreLines answers (bs ++ rest)) (sym none) are }

pub one_more : (answers : List Answer) (now more : List ℕ) (i : ℕ) (a : Answer) → SoFar answers now i → i < length answers → get_or answers i a ≡ a → PutsLine a now more → SoFar answers more (i + 1)
one_more answers now more i a so within at (line, shows, e) = record { ends = ends }
  where
    ends : (rest : List ℕ) → AreLines (drop (i + 1) answers) rest → AreLines answers (more ++ rest)
    ends rest are =
        let whole : AreLines (drop i answers) (line ++ rest) = subst (λ xs. AreLines xs (line ++ rest)) (sym (drop_more answers i a within ∙ ap (λ x. x ∷ drop (i + 1) answers) at)) (line, rest, shows, are, refl) in
        subst (λ bs. AreLines answers bs) (sym (append_assoc now line rest) ∙ ap (λ bs. bs ++ rest) (sym e)) (so.ends (line ++ rest) whole)

pub all_put : (answers : List Answer) (now : List ℕ) (i : ℕ) → SoFar answers now i → length answers ≤ i → AreLines answers now
all_put answers now i so past =
    let none : AreLines (drop i answers) [] = subst (λ xs. AreLines xs []) (sym (drop_all i answers past)) refl in
    subst (λ bs. AreLines answers bs) (append-nil now) (so.ends [] none)

-- they were sent
pub all_sent : (r : Result (Unit {0}) ErrorKind) (answers : List Answer) (text : List ℕ) (old new : Tally) → AreLines answers text → Sends r text old new → SendsAll r answers old new
all_sent (Ok x) answers text old new are sends = (text, are, sends)
all_sent (Err Writer) answers text old new are sends = (text, are, sends)
all_sent (Err _) answers text old new are sends = absurd sends
