use Rattle.std.proofs.Common.{sym, ◌∙◌}
use Rattle.serde_json.specs.View.{view as data_of}
use Rattle.store_documents.proofs.LoadLemmas.{refusal_stays}
use Rattle.store_documents.proofs.loading.Loader.take.Goals as goal

pub returns-then-is_some : goal.returns-then-is_some
returns-then-is_some c js h = refusal_stays js (data_of c.args.json) _ _ c.args.self.now.refusal (sym c.is_some.ensures ∙ c.if-is_some.true) h

pub returns : goal.returns
returns c js h = c.take_row.ensures (data_of c.args.json) c.row_of-row.ensures js h
