use Rattle.std.proofs.Common.{subst, ◌<◌, length}
use Rattle.store_documents.proofs.TreeLemmas.{empty_free, free}
use Rattle.store_documents.proofs.trees.is_unreserved.Goals as goal

pub returns-in-empty : goal.returns-in-empty
returns-in-empty c u = empty_free c.args.key.now (subst (λ l. length l < 1) c.as_bytes.ensures.value c.in-empty.len_below)

pub returns-in-len1-up : goal.returns-in-len1-up
returns-in-len1-up c u = free c.as_bytes.result.now c.args.key.now c.as_bytes.ensures.value u
