use Rattle.std.proofs.Common.{drop}
use Rattle.bson_raw.specs.View.{array_bytes, values_left}
use Rattle.bson_raw.specs.Read.{IsItemRead, value_steps}
use Rattle.bson_raw.proofs.RunLemmas.{run_walks}
use Rattle.bson_raw.proofs.array.RawArray.iter.Goals as goal

pub returns-clause-walk : goal.returns-clause-walk
returns-clause-walk c = λ items d.
    let w = run_walks value_steps values_left IsItemRead (λ _ _ _ h. h) items (drop 4 (array_bytes c.args.self)) (record { raw = c.iter_elements.result; alloc = c.args.alloc }) d.1.0 d.0 c.iter_elements.ensures.start d.1.1 d.1.2 in
    record { elements = w.0; fault = w.1; walk = w.2; in_order = w.3 }
