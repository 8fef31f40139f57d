use Rattle.std.proofs.Common.{codes, sym, ◌∙◌}
use Rattle.std.proofs.lemmas.Slice.Eq.{bytes_eq-Decides}
use Rattle.fallowtime_words.proofs.TopicLemmas.{not_both}
use Rattle.fallowtime_words.proofs.advice.advice_for.Goals as goal

pub returns-then-eq : goal.returns-then-eq
returns-then-eq c = λ e. c.advice_on_id.ensures

pub returns : goal.returns
returns c = λ e. absurd (not_both (sym c.if-eq.false ∙ (c.eq.ensures ∙ (bytes_eq-Decides c.args.kind.now (codes "NotFound")).1 e)))
