use Rattle.std.proofs.Common.{sym, ◌∙◌}
use Rattle.store_documents.proofs.LoadLemmas.{no_refusal, refusal_stays}
use Rattle.store_documents.proofs.loading.Loader.take_row.Goals as goal

pub returns-then-is_some : goal.returns-then-is_some
returns-then-is_some c j a js h = refusal_stays js j _ _ c.args.self.now.refusal (sym c.is_some.ensures ∙ c.if-is_some.true) h

pub returns-in-Err : goal.returns-in-Err
returns-in-Err c j a js h = c.in-Err.ensures j a js (no_refusal _ _ c.args.self.now.refusal (sym c.is_some.ensures ∙ c.if-is_some.false) h)
