use Rattle.std.proofs.Common.{◌≡◌, true, false}
use Rattle.fallowtime_words.specs.Words.{session}
use Rattle.fallowtime_words.proofs.SessionLemmas.{no_session}
use Rattle.fallowtime_words.proofs.words.is_session.Goals as goal

pub returns-in-Some-Command : goal.returns-in-Some-Command
returns-in-Some-Command c = (
  λ t. absurd (let none : false ≡ true = t in cc),
  λ s. absurd (no_session _ _ c.in-Some-Command.field-0-is s.0 s.1 s.2 (c.in-Some-Command.ensures.only (session s.0 s.1 s.2) s.3)),
)

pub returns-in-None : goal.returns-in-None
returns-in-None c =
    (λ t. absurd (let none : false ≡ true = t in cc), λ s. absurd (c.in-None.ensures.task (session s.0 s.1 s.2) s.3))
