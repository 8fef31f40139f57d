use Rattle.std.proofs.Common.{map, ap, ◌∙◌}
use Rattle.bson_model.specs.View.{view}
use Rattle.store_update.specs.Arrays.{has}
use Rattle.store_update.proofs.SetLemmas.{one_more, one_there}
use Rattle.store_update.proofs.sets.include_one.Goals as goal

pub returns-then-has : goal.returns-then-has
returns-then-has c =
    let w = view c.args.value.now in
    one_there w (map view c.args.items.now.items) c.has.result (c.has.ensures ∙ ap (λ xs. has (map view xs) w) c.as_slice.ensures.value) c.if-has.true

pub returns : goal.returns
returns c =
    let w = view c.args.value.now in
    one_more w c.args.items.now.items c.push.new.self.items c.in_ok-try_clone.field-0 c.has.result (c.has.ensures ∙ ap (λ xs. has (map view xs) w) c.as_slice.ensures.value) c.if-has.false c.in_ok-try_clone.ensures c.in_ok-push.ensures.items
