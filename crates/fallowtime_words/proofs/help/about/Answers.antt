use Rattle.std.proofs.Common.{Some, string_bytes, refl, sym, subst}
use Rattle.fallowtime_words.specs.Overview.{Tells}
use Rattle.fallowtime_words.proofs.help.about.Goals as goal

pub returns-in_ok-overview-in-Program : goal.returns-in_ok-overview-in-Program
returns-in_ok-overview-in-Program c = subst (λ t. Tells t (Some (string_bytes c.in_ok-overview-in-Program.field-0))) (sym c.in-Program.is)
    (string_bytes c.in_ok-overview-in-Program.field-0, refl, c.in_ok-overview-in-Program.ensures)
