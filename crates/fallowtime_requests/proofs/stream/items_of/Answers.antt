use Rattle.fallowtime_requests.proofs.TreeLemmas.{items_seen}
use Rattle.fallowtime_requests.proofs.stream.items_of.Goals as goal

pub returns-in-Array : goal.returns-in-Array
returns-in-Array c = items_seen c.args.tree.now c.in-Array.items c.as_slice.result.now c.in-Array.is c.as_slice.ensures.value
