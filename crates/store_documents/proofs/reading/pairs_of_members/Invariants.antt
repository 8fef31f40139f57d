use Rattle.std.proofs.Common.{drop}
use Rattle.json.specs.Value.{members_view}
use Rattle.store_documents.specs.Order.{Ascends}
use Rattle.store_documents.proofs.MemberLemmas.{Taken}
use Rattle.store_documents.proofs.reading.pairs_of_members.Given as goal

abbrev pub invariant-loop-key : goal.invariant-loop-key
invariant-loop-key l = Taken (members_view l.members) (members_view (drop l.key-index l.members)) l.pairs.items × Ascends l.pairs.items
