use Rattle.std.proofs.Common.{◌≡◌, ℕ, ℤ, Option, None, Some, Ok, Err, w64, to_z, of_z, rules, sym, ap, subst, ◌∙◌}
use Rattle.sqlite_pool.specs.StoredLaws.{Keeps-trans}
use Rattle.bson_model.specs.View.{view}
use Rattle.store_model.specs.State.{IsName, on, remove}
use Rattle.bson_store.specs.Calls.{Does}
use Rattle.bson_store.specs.Refusals.{as_done, reply_by}
use Rattle.fallowtime_front.specs.Changes.{IsLeftBy, Turned}
use Rattle.fallowtime_front.proofs.ExitLemmas.{taken}
use Rattle.fallowtime_front.proofs.TurnLemmas.{call_refused, remove_leaves, remove_turns, removes_none}
use Rattle.fallowtime_front.proofs.WriteLemmas.{found_as}
use Rattle.fallowtime_front.proofs.calls.remove.Goals as goal

pub returns-in_default-clause-turns : goal.returns-in_default-clause-turns
returns-in_default-clause-turns g c clean first docs serves =
    let good : IsName c.args.name.now = search rules in
    let r = c.in_ok-found.ensures.reads clean first docs serves in
    rw c.from.ensures (removes_none first c.args.writer.now c.find_row.new.writer docs c.args.name.now c.in_ok-held.held.items (view c.args.id.now) good c.in_ok-held.ensures (found_as c.args.name.now c.in_ok-held.held.items _ _ docs _ None (search rules) (search rules) c.in_default.is r.0))

pub returns-in_default-clause-crash : goal.returns-in_default-clause-crash
returns-in_default-clause-crash g c = call_refused c.args.writer.now c.find_row.new.writer c.find_row.ensures.keeps c.args.name.now (remove (view c.args.id.now)) c.from.result.kind c.from.result.document

pub returns-in_err-removed-clause-untold : goal.returns-in_err-removed-clause-untold
returns-in_err-removed-clause-untold g c none = Keeps-trans _ _ _ c.find_row.ensures.keeps (c.take_away.ensures.untold c.in_err-removed.was)

pub returns-clause-turns : goal.returns-clause-turns
returns-clause-turns g c clean first docs serves =
    let good : IsName c.args.name.now = search rules in
    let r = c.in_ok-found.ensures.reads (c.take_away.ensures.stays.clean clean) first docs serves in
    let at : to_z w64 (of_z w64 c.in-Some.found.place) ≡ c.in-Some.found.place = search rules in
    let its = found_as c.args.name.now c.in_ok-held.held.items _ _ docs _ (Some c.in-Some.found) (search rules) (search rules) c.in-Some.is r.0 in
    let gone = taken first c.args.writer.now c.find_row.new.writer c.take_away.new.writer docs c.find_row.ensures.keeps _ _ c.in-Some.found c.in_ok-found.field-0 c.in-Some.is r.0 c.in_ok-removed.removed _ at (λ was there. c.in_ok-removed.ensures.commits clean first docs was r.1 there) in
    subst (λ r. Turned first c.args.writer.now c.take_away.new.writer r (Does (on c.args.name.now (remove (view c.args.id.now))) (reply_by as_done r)) docs) (sym c.told.ensures)
    (remove_turns first c.args.writer.now c.take_away.new.writer docs c.args.name.now c.in_ok-held.held.items (view c.args.id.now) good c.in_ok-held.ensures c.in-Some.found its c.in_ok-removed.removed c.in_ok-removed.ensures.faults gone)

pub returns-clause-crash : goal.returns-clause-crash
returns-clause-crash g c clean first docs serves all a shown left may =
    let good : IsName c.args.name.now = search rules in
    let r = c.in_ok-found.ensures.reads (c.take_away.ensures.stays.clean clean) first docs serves in
    let at : to_z w64 (of_z w64 c.in-Some.found.place) ≡ c.in-Some.found.place = search rules in
    let its = found_as c.args.name.now c.in_ok-held.held.items _ _ docs _ (Some c.in-Some.found) (search rules) (search rules) c.in-Some.is r.0 in
    let gone = taken first c.args.writer.now c.find_row.new.writer c.take_away.new.writer docs c.find_row.ensures.keeps _ _ c.in-Some.found c.in_ok-found.field-0 c.in-Some.is r.0 c.in_ok-removed.removed _ at (λ was there. c.in_ok-removed.ensures.commits clean first docs was r.1 there) in
    subst (λ r. IsLeftBy c.take_away.new.writer (on c.args.name.now (remove (view c.args.id.now))) (reply_by as_done r) first a left) (sym c.told.ensures)
    (remove_leaves first c.args.writer.now c.take_away.new.writer docs c.args.name.now c.in_ok-held.held.items (view c.args.id.now) good c.in_ok-held.ensures c.in-Some.found its c.in_ok-removed.removed gone all a shown left may)
