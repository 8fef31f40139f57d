-- A command is no session.
use Rattle.std.proofs.Common.{ℕ, Bool, List, Option, Some, ◌≡◌, subst}
use Rattle.fallowtime_words.specs.declared.words.Task.{Task}
use Rattle.fallowtime_words.specs.declared.words.Task.TheVariants.{Command}
use Rattle.fallowtime_words.specs.declared.words.Words.{Words}
use Rattle.fallowtime_words.specs.Words.{asked_of, session}

pub no_session : (t : Task) (w : Words) → t ≡ Command w → (file : List ℕ) (messages : Bool) (seconds : Option ℕ) → Some (asked_of t) ≡ Some (session file messages seconds) → ⊥
no_session t w is file messages seconds same =
    let named = subst (λ (x : Task). Some (asked_of x) ≡ Some (session file messages seconds)) is same in cc
