use Rattle.std.proofs.Common.{◌≡◌, of_calls, rules}
use Rattle.std.proofs.lemmas.Fn.{always_returns_same}
use Rattle.bson_model.specs.View.{view}
use Rattle.bson_order.specs.Order.{order}
use Rattle.store_pipeline.proofs.sorted.counted.place_of.Goals as goal
use Rattle.store_pipeline.specs.Counted.{value_in}

pub returns-clause-place : goal.returns-clause-place
returns-clause-place c =
    let value = view c.args.value.now in
    let told = always_returns_same _ (λ a r. r ≡ order (value_in a.0.now) value) _ (λ a r f k. (search (rules, of_calls), search (rules, of_calls))) in
    c.binary_search_by.ensures.position (λ x. order (value_in x) value) told
