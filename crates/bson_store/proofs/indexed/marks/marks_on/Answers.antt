use Rattle.store_question.specs.Filters.{path_of}
use Rattle.bson_store.proofs.MarkLemmas.{marked}
use Rattle.bson_store.proofs.indexed.marks.marks_on.Goals as goal

pub returns : goal.returns
returns c d kept is = marked d (path_of c.args.path.now) _ (c.in_ok-key.ensures d kept is) (c.rank_at.ensures d kept is) (c.is_wide.ensures d kept is)
