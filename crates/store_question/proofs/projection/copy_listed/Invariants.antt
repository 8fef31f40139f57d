use Rattle.std.proofs.Common.{◌≡◌, length}
use Rattle.bson_base.specs.Value.{Members}
use Rattle.bson_bytes.specs.Encode.{members_bytes}
use Rattle.store_question.specs.Filters.{path_of}
use Rattle.store_question.specs.Views.{ComeBack}
use Rattle.store_question.proofs.ProjectionLemmas.{Copying, FewCopied}
use Rattle.store_question.proofs.projection.copy_listed.Given as goal

abbrev pub invariant-loop-first : goal.invariant-loop-first
invariant-loop-first l =
    ((ms : Members) → l.fn.elements ≡ members_bytes ms → ComeBack ms → Copying (path_of l.keys) ms l.fn.out.items l.out.items l.left)
    × FewCopied l.fn.out.items l.out.items l.left (length l.fn.elements)

abbrev pub decreases-loop-first : goal.decreases-loop-first
decreases-loop-first l = length l.left
