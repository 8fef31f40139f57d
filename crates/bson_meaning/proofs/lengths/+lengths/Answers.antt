use Rattle.std.proofs.Common.{arith}
use Rattle.bson_model.specs.View.{pairs_of}
use Rattle.bson_meaning.proofs.PairwiseLemmas.{stand_once}
use Rattle.bson_meaning.proofs.lengths.+lengths.Goals as goal

pub length_of_members-loop-key-init : goal.length_of_members-loop-key-init
length_of_members-loop-key-init t c =
    let once = stand_once (pairs_of c.args.document.now) c.distinct_keys_of_level.ensures in
    rw (c.into_iter-key-iterator.ensures.into_iter_gives) (omega arith, omega arith, omega arith, (λ h. h), once, (λ h. h), tt, tt)
