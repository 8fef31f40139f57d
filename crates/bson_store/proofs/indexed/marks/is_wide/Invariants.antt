use Rattle.std.proofs.Common.{◌≡◌}
use Rattle.bson_base.specs.Value.{Members}
use Rattle.bson_bytes.specs.Encode.{encode}
use Rattle.store_question.specs.Filters.{path_of}
use Rattle.store_model.specs.State.{IsKept}
use Rattle.bson_store.proofs.MarkLemmas.{NoneUpTo}
use Rattle.bson_store.proofs.indexed.marks.is_wide.Given as goal

abbrev pub invariant-loop-n : goal.invariant-loop-n
invariant-loop-n l = (d : Members) → IsKept d → l.body ≡ encode d → NoneUpTo d (path_of l.path) l.n
