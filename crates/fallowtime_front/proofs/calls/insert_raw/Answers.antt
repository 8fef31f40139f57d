use Rattle.std.proofs.Common.{◌≡◌, ℕ, ℤ, Option, None, Some, Ok, Err, w64, to_z, of_z, rules, sym, ap, subst, ◌∙◌}
use Rattle.sqlite_pool.specs.StoredLaws.{Keeps-trans}
use Rattle.sqlite_wal.proofs.StateLemmas.{StaysOrFails-trans}
use Rattle.store_model.specs.State.{IsName, in_bytes, insert, on}
use Rattle.bson_store.specs.Calls.{DoesBytes}
use Rattle.bson_store.specs.Refusals.{as_done, reply_by}
use Rattle.fallowtime_front.specs.Changes.{IsLeftBy, Turned}
use Rattle.fallowtime_front.proofs.ExitLemmas.{place_as, put_leaves, put_turns}
use Rattle.fallowtime_front.proofs.TurnLemmas.{bytes_refused, is_duplicate}
use Rattle.fallowtime_front.proofs.calls.insert_raw.Goals as goal

pub returns-in-Some-clause-turns : goal.returns-in-Some-clause-turns
returns-in-Some-clause-turns g c clean first docs serves =
    let good : IsName c.args.name.now = search rules in
    rw c.from.ensures (is_duplicate first c.args.writer.now c.place_of.new.self docs c.args.name.now c.args.bytes.now c.in-Ok.row c.in-Ok.ensures good c.in-Some.field-0
    (place_as c.args.name.now c.in-Ok.row.key.items _ _ docs _ (Some c.in-Some.field-0) (search rules) (search rules) c.in-Some.is (c.in-Ok-place_of.ensures.found clean first docs serves)))

pub returns-in-Some-clause-crash : goal.returns-in-Some-clause-crash
returns-in-Some-clause-crash g c = bytes_refused c.args.writer.now c.place_of.new.self c.place_of.ensures.keeps c.args.name.now c.args.bytes.now (insert in_bytes) c.from.result.kind c.from.result.document

pub returns-in_err-added-clause-stays : goal.returns-in_err-added-clause-stays
returns-in_err-added-clause-stays g c = StaysOrFails-trans _ _ _ c.place_of.ensures.keeps.stays c.add.ensures.stays

pub returns-in_err-added-clause-untold : goal.returns-in_err-added-clause-untold
returns-in_err-added-clause-untold g c none = Keeps-trans _ _ _ c.place_of.ensures.keeps (c.add.ensures.untold c.in_err-added.was)

pub returns-clause-turns : goal.returns-clause-turns
returns-clause-turns g c clean first docs serves =
    let good : IsName c.args.name.now = search rules in
    let early = c.add.ensures.stays.clean clean in
    let there = c.in-Ok-place_of.ensures.same early first docs serves in
    subst (λ r. Turned first c.args.writer.now c.add.new.writer r (DoesBytes c.args.name.now (insert in_bytes) c.args.bytes.now (reply_by as_done r)) docs) (sym c.told.ensures)
    (put_turns first c.args.writer.now c.place_of.new.self c.add.new.writer docs c.place_of.ensures.keeps c.args.name.now c.args.bytes.now c.in-Ok.row c.in-Ok.ensures good _ _ _ (search rules) (search rules) c.as_slice.ensures.value c.in_ok-added.added
    c.utf8.name c.in-Ok-place_of.found c.in_default-found.is (c.in-Ok-place_of.ensures.found early first docs serves) (λ none. c.in_ok-added.ensures.commits clean first docs there none) (c.in_ok-added.ensures.room clean first docs there))

pub returns-clause-crash : goal.returns-clause-crash
returns-clause-crash g c x reads clean first docs serves all a shown left may =
    let good : IsName c.args.name.now = search rules in
    let early = c.add.ensures.stays.clean clean in
    let there = c.in-Ok-place_of.ensures.same early first docs serves in
    subst (λ r. IsLeftBy c.add.new.writer (on c.args.name.now (insert in_bytes x)) (reply_by as_done r) first a left) (sym c.told.ensures)
    (put_leaves first c.args.writer.now c.place_of.new.self c.add.new.writer docs c.place_of.ensures.keeps c.args.name.now c.args.bytes.now c.in-Ok.row c.in-Ok.ensures good _ _ _ (search rules) (search rules) c.as_slice.ensures.value c.in_ok-added.added
    c.utf8.name c.in-Ok-place_of.found c.in_default-found.is (c.in-Ok-place_of.ensures.found early first docs serves) (λ none. c.in_ok-added.ensures.commits clean first docs there none) (c.in_ok-added.ensures.room clean first docs there) x reads all a shown left may)

pub returns-clause-stays : goal.returns-clause-stays
returns-clause-stays g c = StaysOrFails-trans _ _ _ c.place_of.ensures.keeps.stays c.add.ensures.stays
