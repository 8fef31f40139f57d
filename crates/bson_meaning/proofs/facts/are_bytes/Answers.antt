use Rattle.bson_meaning.proofs.facts.are_bytes.Goals as goal
use Rattle.bson_bytes.proofs.MeaningLemmas.{are_bytes}

pub returns : goal.returns
returns c = are_bytes c.args.bytes.now c.type_inv.bytes
