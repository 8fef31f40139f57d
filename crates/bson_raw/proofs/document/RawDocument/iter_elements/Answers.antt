use Rattle.std.proofs.Common.{drop, ap, Some}
use Rattle.bson_raw.specs.View.{bytes_of, left_of}
use Rattle.bson_raw.specs.Walk.{IsItem, raw_steps}
use Rattle.bson_raw.proofs.RunLemmas.{run_walks, raw_reads}
use Rattle.bson_raw.proofs.document.RawDocument.iter_elements.Goals as goal

pub returns-clause-walk : goal.returns-clause-walk
returns-clause-walk c = λ items d.
    let w = run_walks raw_steps left_of IsItem raw_reads items (drop 4 (bytes_of c.args.self)) (record { rest = Some c.split_at.result.1 }) d.1.0 d.0 (ap Some c.split_at.ensures.back) d.1.1 d.1.2 in
    record { elements = w.0; fault = w.1; walk = w.2; in_order = w.3 }
