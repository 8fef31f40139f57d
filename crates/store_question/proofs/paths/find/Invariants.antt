use Rattle.std.proofs.Common.{◌≡◌, ◌+◌, ◌*◌, ◌≤◌, length}
use Rattle.bson_base.specs.Value.{Members}
use Rattle.bson_bytes.specs.Encode.{encode}
use Rattle.bson_raw.specs.View.{bytes_of, left_of}
use Rattle.store_question.specs.Views.{ComeBack}
use Rattle.store_question.proofs.LookUpLemmas.{Progress, left_length}
use Rattle.store_question.proofs.paths.find.Given as goal

abbrev pub invariant-loop-item : goal.invariant-loop-item
invariant-loop-item l =
    ((ms : Members) → bytes_of l.document ≡ encode ms → ComeBack ms → Progress l.key ms (left_of l.item-iterator) l.met)
    × (2 * l.met + 4 + left_length (left_of l.item-iterator) ≤ length (bytes_of l.document))
