use Rattle.std.proofs.Common.{◌≡◌, ℕ, ℤ, Option, None, Some, Ok, Err, w64, to_z, of_z, rules, sym, ap, subst, ◌∙◌}
use Rattle.sqlite_pool.specs.StoredLaws.{Keeps-trans}
use Rattle.sqlite_wal.proofs.StateLemmas.{StaysOrFails-trans}
use Rattle.store_model.specs.State.{IsName, in_bytes, on, replace}
use Rattle.bson_store.specs.Calls.{DoesBytes}
use Rattle.bson_store.specs.Refusals.{as_done, reply_by}
use Rattle.fallowtime_front.specs.Changes.{IsLeftBy, IsUnfound, Turned}
use Rattle.fallowtime_front.proofs.ExitLemmas.{back_leaves, back_turns, never_unfound}
use Rattle.fallowtime_front.proofs.TurnLemmas.{bytes_refused, is_unfound}
use Rattle.fallowtime_front.proofs.WriteLemmas.{found_as}
use Rattle.fallowtime_front.proofs.calls.replace_raw.Goals as goal

pub returns-in_default-2-clause-turns : goal.returns-in_default-2-clause-turns
returns-in_default-2-clause-turns g c clean first docs serves =
    let good : IsName c.args.name.now = search rules in
    let r = c.in_ok-found.ensures.reads clean first docs serves in
    rw c.from.ensures (is_unfound first c.args.writer.now c.find_row.new.writer docs c.args.name.now c.args.bytes.now c.in-Ok.row c.in-Ok.ensures good (found_as c.args.name.now c.in-Ok.row.key.items _ _ docs _ None (search rules) (search rules) c.in_default-2.is r.0))

pub returns-in_default-2-clause-crash : goal.returns-in_default-2-clause-crash
returns-in_default-2-clause-crash g c = bytes_refused c.args.writer.now c.find_row.new.writer c.find_row.ensures.keeps c.args.name.now c.args.bytes.now (replace in_bytes) c.from.result.kind c.from.result.document

pub returns-in_default-2-clause-unfound : goal.returns-in_default-2-clause-unfound
returns-in_default-2-clause-unfound g c unfound = (c.find_row.ensures.keeps, λ clean first docs serves. (c.in_ok-found.ensures.reads clean first docs serves).1)

pub returns-in_err-changed-clause-stays : goal.returns-in_err-changed-clause-stays
returns-in_err-changed-clause-stays g c = StaysOrFails-trans _ _ _ c.find_row.ensures.keeps.stays c.rewrite.ensures.stays

pub returns-in_err-changed-clause-untold : goal.returns-in_err-changed-clause-untold
returns-in_err-changed-clause-untold g c none = Keeps-trans _ _ _ c.find_row.ensures.keeps (c.rewrite.ensures.untold c.in_err-changed.was)

pub returns-clause-turns : goal.returns-clause-turns
returns-clause-turns g c clean first docs serves =
    let good : IsName c.args.name.now = search rules in
    let r = c.in_ok-found.ensures.reads (c.rewrite.ensures.stays.clean clean) first docs serves in
    let at : to_z w64 (of_z w64 c.in-Some.found.place) ≡ c.in-Some.found.place = search rules in
    subst (λ r. Turned first c.args.writer.now c.rewrite.new.writer r (DoesBytes c.args.name.now (replace in_bytes) c.args.bytes.now (reply_by as_done r)) docs) (sym c.told.ensures)
    (back_turns first c.args.writer.now c.find_row.new.writer c.rewrite.new.writer docs c.find_row.ensures.keeps c.args.name.now c.args.bytes.now c.in-Ok.row c.in-Ok.ensures good _ _ _ (search rules) (search rules) c.as_slice.ensures.value c.in_ok-changed.changed
    c.in-Some.found c.in_ok-found.field-0 c.in-Some.is r.0 _ at (λ was there. c.in_ok-changed.ensures.commits clean first docs was r.1 there) c.in_ok-changed.ensures.faults)

pub returns-clause-crash : goal.returns-clause-crash
returns-clause-crash g c x reads clean first docs serves all a shown left may =
    let good : IsName c.args.name.now = search rules in
    let r = c.in_ok-found.ensures.reads (c.rewrite.ensures.stays.clean clean) first docs serves in
    let at : to_z w64 (of_z w64 c.in-Some.found.place) ≡ c.in-Some.found.place = search rules in
    subst (λ r. IsLeftBy c.rewrite.new.writer (on c.args.name.now (replace in_bytes x)) (reply_by as_done r) first a left) (sym c.told.ensures)
    (back_leaves first c.args.writer.now c.find_row.new.writer c.rewrite.new.writer docs c.find_row.ensures.keeps c.args.name.now c.args.bytes.now c.in-Ok.row c.in-Ok.ensures good _ _ _ (search rules) (search rules) c.as_slice.ensures.value c.in_ok-changed.changed
    c.in-Some.found c.in_ok-found.field-0 c.in-Some.is r.0 _ at (λ was there. c.in_ok-changed.ensures.commits clean first docs was r.1 there) x reads all a shown left may)

pub returns-clause-unfound : goal.returns-clause-unfound
returns-clause-unfound g c unfound = absurd (never_unfound c.in_ok-changed.changed (subst IsUnfound c.told.ensures unfound))

pub returns-clause-stays : goal.returns-clause-stays
returns-clause-stays g c = StaysOrFails-trans _ _ _ c.find_row.ensures.keeps.stays c.rewrite.ensures.stays
