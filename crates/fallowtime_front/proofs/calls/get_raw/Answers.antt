use Rattle.std.proofs.Common.{None, Some, rules}
use Rattle.bson_model.specs.View.{view}
use Rattle.store_model.specs.State.{IsName}
use Rattle.fallowtime_front.proofs.TurnLemmas.{got_body, got_none}
use Rattle.fallowtime_front.proofs.WriteLemmas.{found_as}
use Rattle.fallowtime_front.proofs.calls.get_raw.Goals as goal

pub returns-in-Some-clause-reads : goal.returns-in-Some-clause-reads
returns-in-Some-clause-reads g c clean first docs serves =
    let r = c.in_ok-found.ensures.reads clean first docs serves in
    let good : IsName c.args.name.now = search rules in (
      got_body first c.args.writer.now c.find_row.new.writer docs c.args.name.now c.in_ok-key.key.items (view c.args.id.now) good c.in_ok-key.ensures c.in-Some.found
          (found_as c.args.name.now c.in_ok-key.key.items _ _ docs _ (Some c.in-Some.found) (search rules) (search rules) c.in-Some.is r.0),
      r.1,
    )

pub returns-clause-reads : goal.returns-clause-reads
returns-clause-reads g c clean first docs serves =
    let r = c.in_ok-found.ensures.reads clean first docs serves in
    let good : IsName c.args.name.now = search rules in (
      rw c.from.ensures (got_none first c.args.writer.now c.find_row.new.writer docs c.args.name.now c.in_ok-key.key.items (view c.args.id.now) good c.in_ok-key.ensures
          (found_as c.args.name.now c.in_ok-key.key.items _ _ docs _ None (search rules) (search rules) c.in-None.is r.0)),
      r.1,
    )
