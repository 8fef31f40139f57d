use Rattle.std.proofs.Common.{ap, map, string_bytes, subst, ◌≡◌, ◌++◌, ◌∙◌}
use Rattle.std.proofs.lemmas.List.{take_all}
use Rattle.std.specs.Option.{option_map}
use Rattle.bson_model.specs.View.{view}
use Rattle.fallowtime_messages.specs.Answers as told
use Rattle.fallowtime_messages.proofs.ValueLemmas.{one_wanted}
use Rattle.fallowtime_messages.proofs.telling.collections.Goals as goal

pub loop-name-preserved : goal.loop-name-preserved
loop-name-preserved c =
    let l = c.loop-name in
    one_wanted (option_map string_bytes c.args.only.now) c.args.names.now l.name-index c.name-item.result (map view l.items.items) (map view c.push_collection.new.items.items) c.loop-name-test.true c.name-item.is l.invariant
    (rw c.as_str.ensures.value at c.in_ok-push_collection.ensures)

pub returns : goal.returns
returns c =
    let l = c.loop-name in
    l.invariant ∙ ap (λ xs. told.wanted (option_map string_bytes c.args.only.now) (map string_bytes xs)) (take_all l.name-index c.args.names.now c.loop-name-test.false)
