use Rattle.store_documents.proofs.LoadLemmas.{refusal_told}
use Rattle.store_documents.proofs.loading.Loader.finish.Goals as goal

pub returns : goal.returns
returns c js h = refusal_told js _ c.args.self.refusal c.in-Some.error c.in-Some.is h
