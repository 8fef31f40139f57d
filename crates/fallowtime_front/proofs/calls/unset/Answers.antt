use Rattle.std.proofs.Common.{◌≡◌, ℕ, ℤ, Option, None, Some, Ok, Err, w64, to_z, of_z, rules, sym, ap, subst, ◌∙◌}
use Rattle.sqlite_pool.specs.StoredLaws.{Keeps-trans}
use Rattle.bson_model.specs.View.{view}
use Rattle.store_model.specs.State.{IsName, Reply, flag, on, refused, unset}
use Rattle.store_model.specs.declared.error.StoreError.{StoreError}
use Rattle.bson_store.specs.Calls.{Does}
use Rattle.bson_store.specs.Refusals.{as_flag, reply_by}
use Rattle.fallowtime_front.specs.Changes.{IsLeftBy, Turned}
use Rattle.fallowtime_front.proofs.ExitLemmas.{is_done, is_refused, rewritten}
use Rattle.fallowtime_front.proofs.TurnLemmas.{call_refused, call_stays, lacks_key, not_unset, turn_stays, unset_leaves, unset_turns, unsets_none}
use Rattle.fallowtime_front.proofs.WriteLemmas.{found_as}
use Rattle.fallowtime_front.proofs.calls.unset.Goals as goal

pub returns-in_default-clause-turns : goal.returns-in_default-clause-turns
returns-in_default-clause-turns g c free clean first docs serves =
    let good : IsName c.args.name.now = search rules in
    let r = c.in_ok-found.ensures.reads clean first docs serves in
    rw c.from.ensures (unsets_none first c.args.writer.now c.find_row.new.writer docs c.args.name.now c.in_ok-held.held.items (view c.args.id.now) good c.in_ok-held.ensures c.args.key.now free
    (found_as c.args.name.now c.in_ok-held.held.items _ _ docs _ None (search rules) (search rules) c.in_default.is r.0))

pub returns-in_default-clause-crash : goal.returns-in_default-clause-crash
returns-in_default-clause-crash g c free = call_refused c.args.writer.now c.find_row.new.writer c.find_row.ensures.keeps c.args.name.now (unset (view c.args.id.now) c.args.key.now) c.from.result.kind c.from.result.document

pub returns-then-not-unset-clause-turns : goal.returns-then-not-unset-clause-turns
returns-then-not-unset-clause-turns g c free = turn_stays c.args.writer.now c.find_row.new.writer c.find_row.ensures.keeps as_flag _ (on c.args.name.now (unset (view c.args.id.now) c.args.key.now)) (λ clean first docs serves.
    let good : IsName c.args.name.now = search rules in
    let r = c.in_ok-found.ensures.reads clean first docs serves in
    let its = found_as c.args.name.now c.in_ok-held.held.items _ _ docs _ (Some c.in-Some.found) (search rules) (search rules) c.in-Some.is r.0 in
    (lacks_key first c.args.writer.now c.find_row.new.writer docs c.args.name.now c.in_ok-held.held.items (view c.args.id.now) good c.in_ok-held.ensures c.in-Some.found its c.args.key.now free c.in-Ok.unset (λ d kept was. c.in-Ok.ensures.unset d kept (c.as_slice.ensures.value ∙ was)) c.if-not-unset.true, r.1))

pub returns-then-not-unset-clause-crash : goal.returns-then-not-unset-clause-crash
returns-then-not-unset-clause-crash g c free = call_stays c.args.writer.now c.find_row.new.writer c.find_row.ensures.keeps c.args.name.now (unset (view c.args.id.now) c.args.key.now) _ (λ e. e) (λ clean first docs serves.
    let good : IsName c.args.name.now = search rules in
    let r = c.in_ok-found.ensures.reads clean first docs serves in
    let its = found_as c.args.name.now c.in_ok-held.held.items _ _ docs _ (Some c.in-Some.found) (search rules) (search rules) c.in-Some.is r.0 in
    (lacks_key first c.args.writer.now c.find_row.new.writer docs c.args.name.now c.in_ok-held.held.items (view c.args.id.now) good c.in_ok-held.ensures c.in-Some.found its c.args.key.now free c.in-Ok.unset (λ d kept was. c.in-Ok.ensures.unset d kept (c.as_slice.ensures.value ∙ was)) c.if-not-unset.true, r.1))

pub returns-in_err-changed-clause-untold : goal.returns-in_err-changed-clause-untold
returns-in_err-changed-clause-untold g c none = Keeps-trans _ _ _ c.find_row.ensures.keeps (c.rewrite.ensures.untold c.in_err-changed.was)

pub returns-in-Ok-told-clause-turns : goal.returns-in-Ok-told-clause-turns
returns-in-Ok-told-clause-turns g c free clean first docs serves =
    let good : IsName c.args.name.now = search rules in
    let r = c.in_ok-found.ensures.reads (c.rewrite.ensures.stays.clean clean) first docs serves in
    let its = found_as c.args.name.now c.in_ok-held.held.items _ _ docs _ (Some c.in-Some.found) (search rules) (search rules) c.in-Some.is r.0 in
    let at : to_z w64 (of_z w64 c.in-Some.found.place) ≡ c.in-Some.found.place = search rules in
    let made = rewritten first c.args.writer.now c.find_row.new.writer c.rewrite.new.writer docs c.find_row.ensures.keeps _ _ c.in-Some.found c.in_ok-found.field-0 c.in-Some.is r.0 c.in_ok-changed.changed _ at _ c.in-Ok.unset.body.items (search rules) (λ was there. c.in_ok-changed.ensures.commits clean first docs was r.1 there) in
    unset_turns first c.args.writer.now c.rewrite.new.writer docs c.args.name.now c.in_ok-held.held.items (view c.args.id.now) good c.in_ok-held.ensures c.in-Some.found its c.args.key.now free c.in-Ok.unset (λ d kept was. c.in-Ok.ensures.unset d kept (c.as_slice.ensures.value ∙ was)) c.if-not-unset.false (is_done first c.args.writer.now c.rewrite.new.writer docs _ c.in_ok-changed.changed c.in-Ok-told.field-0 (sym c.told.ensures ∙ c.in-Ok-told.is) made)

pub returns-in-Ok-told-clause-crash : goal.returns-in-Ok-told-clause-crash
returns-in-Ok-told-clause-crash g c free clean first docs serves all a shown left may =
    let good : IsName c.args.name.now = search rules in
    let r = c.in_ok-found.ensures.reads (c.rewrite.ensures.stays.clean clean) first docs serves in
    let its = found_as c.args.name.now c.in_ok-held.held.items _ _ docs _ (Some c.in-Some.found) (search rules) (search rules) c.in-Some.is r.0 in
    let at : to_z w64 (of_z w64 c.in-Some.found.place) ≡ c.in-Some.found.place = search rules in
    let made = rewritten first c.args.writer.now c.find_row.new.writer c.rewrite.new.writer docs c.find_row.ensures.keeps _ _ c.in-Some.found c.in_ok-found.field-0 c.in-Some.is r.0 c.in_ok-changed.changed _ at _ c.in-Ok.unset.body.items (search rules) (λ was there. c.in_ok-changed.ensures.commits clean first docs was r.1 there) in
    subst (λ r. IsLeftBy c.rewrite.new.writer (on c.args.name.now (unset (view c.args.id.now) c.args.key.now)) (reply_by (λ (x : Unit {0}). flag Rattle.std.proofs.Common.true) r) first a left) (sym c.told.ensures ∙ c.in-Ok-told.is)
    (unset_leaves first c.args.writer.now c.rewrite.new.writer docs c.args.name.now c.in_ok-held.held.items (view c.args.id.now) good c.in_ok-held.ensures c.in-Some.found its c.args.key.now free c.in-Ok.unset (λ d kept was. c.in-Ok.ensures.unset d kept (c.as_slice.ensures.value ∙ was)) c.if-not-unset.false c.in_ok-changed.changed made all a shown left may)

pub returns-clause-turns : goal.returns-clause-turns
returns-clause-turns g c free clean first docs serves =
    let good : IsName c.args.name.now = search rules in
    let r = c.in_ok-found.ensures.reads (c.rewrite.ensures.stays.clean clean) first docs serves in
    let its = found_as c.args.name.now c.in_ok-held.held.items _ _ docs _ (Some c.in-Some.found) (search rules) (search rules) c.in-Some.is r.0 in
    is_refused c.in_ok-changed.changed c.in-Err.error (λ e. Does (on c.args.name.now (unset (view c.args.id.now) c.args.key.now)) (refused e.kind e.document) docs docs) (sym c.told.ensures ∙ c.in-Err.is) c.in_ok-changed.ensures.faults
    (λ x other. not_unset first c.args.writer.now c.rewrite.new.writer docs c.args.name.now c.in_ok-held.held.items (view c.args.id.now) good c.in_ok-held.ensures c.in-Some.found its c.args.key.now free c.in-Ok.unset.body.items x other)

pub returns-clause-crash : goal.returns-clause-crash
returns-clause-crash g c free clean first docs serves all a shown left may =
    let good : IsName c.args.name.now = search rules in
    let r = c.in_ok-found.ensures.reads (c.rewrite.ensures.stays.clean clean) first docs serves in
    let its = found_as c.args.name.now c.in_ok-held.held.items _ _ docs _ (Some c.in-Some.found) (search rules) (search rules) c.in-Some.is r.0 in
    let at : to_z w64 (of_z w64 c.in-Some.found.place) ≡ c.in-Some.found.place = search rules in
    let made = rewritten first c.args.writer.now c.find_row.new.writer c.rewrite.new.writer docs c.find_row.ensures.keeps _ _ c.in-Some.found c.in_ok-found.field-0 c.in-Some.is r.0 c.in_ok-changed.changed _ at _ c.in-Ok.unset.body.items (search rules) (λ was there. c.in_ok-changed.ensures.commits clean first docs was r.1 there) in
    subst (λ r. IsLeftBy c.rewrite.new.writer (on c.args.name.now (unset (view c.args.id.now) c.args.key.now)) (reply_by (λ (x : Unit {0}). flag Rattle.std.proofs.Common.true) r) first a left) (sym c.told.ensures ∙ c.in-Err.is)
    (unset_leaves first c.args.writer.now c.rewrite.new.writer docs c.args.name.now c.in_ok-held.held.items (view c.args.id.now) good c.in_ok-held.ensures c.in-Some.found its c.args.key.now free c.in-Ok.unset (λ d kept was. c.in-Ok.ensures.unset d kept (c.as_slice.ensures.value ∙ was)) c.if-not-unset.false c.in_ok-changed.changed made all a shown left may)
