use Rattle.std.proofs.Common.{◌≡◌, ap, ◌∙◌, ◌++◌}
use Rattle.bson_model.specs.View.{view}
use Rattle.bson_store.specs.Keys.{value_key}
use Rattle.bson_store.specs.Under.{places_under}
use Rattle.bson_store.proofs.ServingLemmas.{by_value}
use Rattle.bson_store.proofs.indexed.serving.places_of_value.Goals as goal

pub returns : goal.returns
returns c =
    let places = c.args.index.now.places in
    let key : c.in-Some.key.items ≡ value_key (view c.args.value.now) = rw c.in-Some.is at c.in_ok-key.ensures in
    let there = c.in_ok-add_to.ensures ∙ ap (λ xs. xs ++ places_under places c.as_slice.result.now) c.new-places.ensures.items ∙ ap (places_under places) c.as_slice.ensures.value in
    by_value c.args.index.now (view c.args.value.now) c.in-Some.key c.add_to.new.out key there
