use Rattle.bson_store.proofs.PathLemmas.{begins, too_long}
use Rattle.bson_store.proofs.indexed.keys.is_beginning.Goals as goal

pub returns-then-path-a : goal.returns-then-path-a
returns-then-path-a c = (λ t. absurd (cc), λ h. absurd (too_long c.args.a.now c.args.path.now c.if-path-a.true h))

pub returns : goal.returns
returns c = begins c.args.a.now c.args.path.now c.is_same_path.result c.is_same_path.ensures
