use Rattle.bson_raw.specs.View.{array_bytes}
use Rattle.bson_raw.proofs.FaultLemmas.{no_array}
use Rattle.bson_raw.proofs.array.RawArray.to_array.Goals as goal

pub returns-clause-none : goal.returns-clause-none
returns-clause-none c = no_array c.one_first_frame.ensures (array_bytes c.args.self) c.elements.result.now c.array_of.result c.elements.ensures.value c.array_of.ensures
