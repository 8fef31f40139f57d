use Rattle.std.proofs.Common.{drop}
use Rattle.bson_raw.specs.View.{bytes_of, left_of}
use Rattle.bson_json.specs.declared.style.Style.TheVariants.{Stored}
use Rattle.bson_json.proofs.OrderedLemmas.{TakenSoFar}
use Rattle.bson_json.proofs.StraightLemmas.{MembersSoFar}
use Rattle.bson_json.proofs.order.pairs_of.Given as goal

abbrev pub invariant-loop-item : goal.invariant-loop-item
invariant-loop-item l =
    TakenSoFar l.keys (drop 4 (bytes_of l.document)) (left_of l.item-iterator) l.pairs.items
    × MembersSoFar Stored l.keys (drop 4 (bytes_of l.document)) (left_of l.item-iterator)
