use Rattle.std.proofs.lemmas.Int.{to_z-of_z}
use Rattle.std.proofs.Common.{w64, ℤ, Some, cond, is_eq, option_map, find, sym, ap, ap₂, ◌∙◌}
use Rattle.std.specs.BTreeMap.{get}
use Rattle.store_table.specs.Rows.{TableRow, is_row_named}
use Rattle.store_table.specs.Seen.{Pair, pair_cmp}
use Rattle.store_table.proofs.PlacesLemmas.{places_more}
use Rattle.store_table.proofs.renewal.meet_place.Goals as goal

pub returns-clause-met : goal.returns-clause-met
returns-clause-met c docs has =
    let key : Pair = (c.in_ok-key.key, c.in_ok-name.name) in
    c.in_ok-met.ensures.old ∙ has key ∙ ap₂ (λ a b. option_map (λ (d : TableRow). d.place) (find (is_row_named a b) docs)) c.in_ok-name.ensures.items c.in_ok-key.ensures.items

pub returns-clause-added : goal.returns-clause-added
returns-clause-added c docs d has coll idkey place none =
    let key : Pair = (c.in_ok-key.key, c.in_ok-name.name) in
    places_more c.args.places.now c.insert.new.self docs d key has (coll ∙ sym c.in_ok-name.ensures.items) (idkey ∙ sym c.in_ok-key.ensures.items) (sym c.in_ok-met.ensures.old ∙ none)
    (λ q. c.in_ok-met.ensures.updates.0 q ∙ ap (λ (z : ℤ). cond (is_eq (pair_cmp key q)) (Some z) (get pair_cmp c.args.places.now q)) (to_z-of_z w64 c.args.place c.ranges.place ∙ sym place))
