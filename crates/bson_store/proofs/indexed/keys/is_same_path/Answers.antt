use Rattle.std.proofs.Common.{sym, ◌∙◌}
use Rattle.bson_store.proofs.PathLemmas.{same_paths, paths_same}
use Rattle.bson_store.proofs.indexed.keys.is_same_path.Goals as goal

pub returns : goal.returns
returns c = (λ t. same_paths c.args.a.now c.args.b.now (sym c.eq.ensures ∙ t), λ e. c.eq.ensures ∙ paths_same c.args.a.now c.args.b.now e)
