use Rattle.std.proofs.Common.{inl, inr, sym, ◌∙◌}
use Rattle.fallowtime_words.proofs.hint.meant.Goals as goal

pub returns-in-Some : goal.returns-in-Some
returns-in-Some c = inl (sym c.called.ensures ∙ c.in-Some.is)

pub returns-in-None : goal.returns-in-None
returns-in-None c = inr (sym c.called.ensures ∙ c.in-None.is, c.nearest.ensures)
