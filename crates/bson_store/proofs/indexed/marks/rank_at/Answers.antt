use Rattle.std.proofs.Common.{refl, subst, sym, ◌∙◌}
use Rattle.bson_frame.specs.Payload.{IsEnvelope}
use Rattle.store_model.specs.Reading.{readable}
use Rattle.store_model.proofs.RestoreLemmas.{written_reads}
use Rattle.bson_store.proofs.indexed.marks.rank_at.Goals as goal

pub returns : goal.returns
returns c d kept is = c.rank_in.ensures d kept.read.clean kept.read.sound (c.in-Ok.ensures ∙ is)

pub returns-in_default : goal.returns-in_default
returns-in_default c d kept is = absurd (c.in_default.ensures.0 (subst IsEnvelope (sym is) ((written_reads d kept (readable d)).1 refl).0.1))
