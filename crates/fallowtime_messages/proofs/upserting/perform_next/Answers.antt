use Rattle.std.proofs.Common.{◌≡◌, ◌∙◌, rules, sym}
use Rattle.std.proofs.lemmas.List.{nil_from_length}
use Rattle.std.specs.Vec.Iter.{into_iter_items, into_iter_len}
use Rattle.bson_store.specs.Calls.{store_state}
use Rattle.fallowtime_messages.proofs.UpsertLemmas.{next_done, none_next}
use Rattle.fallowtime_messages.proofs.upserting.perform_next.Goals as goal

pub returns-in_default : goal.returns-in_default
returns-in_default g c =
    let none : into_iter_len c.args.rest.now ≡ 0 = search rules in
    none_next (into_iter_items c.args.rest.now) (into_iter_items c.next.new.self) (store_state g.S.Store c.args.store.now) (nil_from_length (into_iter_items c.args.rest.now) (sym c.args.rest.now.rest.ok.0 ∙ none))

pub returns : goal.returns
returns g c =
    let did = c.perform_statement-outcome in
    next_done (into_iter_items c.args.rest.now) (into_iter_items c.next.new.self) c.in-Some.statement did.result (store_state g.S.Store c.args.store.now) (store_state g.S.Store did.new.store) c.in-Some.ensures.items did.ensures.did did.ensures.shape
