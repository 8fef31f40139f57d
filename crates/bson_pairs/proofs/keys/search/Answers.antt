use Rattle.std.proofs.Common.{length, refl, sym, ap, ◌∙◌, arith}
use Rattle.bson_pairs.specs.Ascending.{key_cmp}
use Rattle.bson_pairs.specs.Keyed.{key_bytes}
use Rattle.bson_pairs.proofs.IndexLemmas.{length-places_of, place_within, read_at}
use Rattle.bson_pairs.proofs.SearchLemmas.{middle_within, search_start, search_left, search_right, search_found, search_end, search_few, search_one_more}
use Rattle.bson_pairs.proofs.keys.search.Goals as goal

pub loop-low-init : goal.loop-low-init
loop-low-init c = search_start (key_bytes c.args.texts.now) c.args.key.now _ (ap length c.requires ∙ length-places_of (key_bytes c.args.texts.now))

pub overflow_add-compared : goal.overflow_add-compared
overflow_add-compared c =
    let long = ap length c.requires ∙ length-places_of (key_bytes c.args.texts.now) in
    let few = search_one_more (key_bytes c.args.texts.now) c.args.key.now c.loop-low.low c.loop-low.high c.loop-low.compared _ c.loop-low.invariant c.loop-low-test.true long 64 (omega arith) in
    omega (arith, few)

pub offset_bounds-order-middle : goal.offset_bounds-order-middle
offset_bounds-order-middle c =
    let long = ap length c.requires ∙ length-places_of (key_bytes c.args.texts.now) in
    let within = middle_within (key_bytes c.args.texts.now) c.args.key.now c.loop-low.low c.loop-low.high c.loop-low.compared _ c.loop-low.invariant c.loop-low-test.true long in
    omega arith

pub bounds-order-middle : goal.bounds-order-middle
bounds-order-middle c =
    let long = ap length c.requires ∙ length-places_of (key_bytes c.args.texts.now) in
    middle_within (key_bytes c.args.texts.now) c.args.key.now c.loop-low.low c.loop-low.high c.loop-low.compared _ c.loop-low.invariant c.loop-low-test.true long

pub offset_bounds-texts-order : goal.offset_bounds-texts-order
offset_bounds-texts-order c =
    let long = ap length c.requires ∙ length-places_of (key_bytes c.args.texts.now) in
    let within = middle_within (key_bytes c.args.texts.now) c.args.key.now c.loop-low.low c.loop-low.high c.loop-low.compared _ c.loop-low.invariant c.loop-low-test.true long in
    let there = place_within c.args.texts.now c.args.order.now _ c.requires within in
    omega arith

pub bounds-texts-order : goal.bounds-texts-order
bounds-texts-order c =
    let long = ap length c.requires ∙ length-places_of (key_bytes c.args.texts.now) in
    let within = middle_within (key_bytes c.args.texts.now) c.args.key.now c.loop-low.low c.loop-low.high c.loop-low.compared _ c.loop-low.invariant c.loop-low-test.true long in
    place_within c.args.texts.now c.args.order.now _ c.requires within

pub loop-low-preserved-in-Less : goal.loop-low-preserved-in-Less
loop-low-preserved-in-Less c =
    let long = ap length c.requires ∙ length-places_of (key_bytes c.args.texts.now) in
    let within = middle_within (key_bytes c.args.texts.now) c.args.key.now c.loop-low.low c.loop-low.high c.loop-low.compared _ c.loop-low.invariant c.loop-low-test.true long in
    search_left (key_bytes c.args.texts.now) c.args.key.now _ _ c.loop-low.low c.loop-low.high c.loop-low.compared _ c.loop-low.invariant c.loop-low-test.true refl
    (read_at c.args.texts.now c.args.order.now _ c.index-texts-order.result c.requires within c.index-texts-order.is)
    (ap (key_cmp c.args.key.now) (sym c.as_str.ensures.value) ∙ sym c.cmp.ensures ∙ c.in-Less.is)

pub loop-low-preserved : goal.loop-low-preserved
loop-low-preserved c =
    let long = ap length c.requires ∙ length-places_of (key_bytes c.args.texts.now) in
    let within = middle_within (key_bytes c.args.texts.now) c.args.key.now c.loop-low.low c.loop-low.high c.loop-low.compared _ c.loop-low.invariant c.loop-low-test.true long in
    search_right (key_bytes c.args.texts.now) c.args.key.now _ _ c.loop-low.low c.loop-low.high c.loop-low.compared _ c.loop-low.invariant c.loop-low-test.true refl
    (read_at c.args.texts.now c.args.order.now _ c.index-texts-order.result c.requires within c.index-texts-order.is)
    (ap (key_cmp c.args.key.now) (sym c.as_str.ensures.value) ∙ sym c.cmp.ensures ∙ c.in-Greater.is)

pub returns-in-Equal-clause-stands : goal.returns-in-Equal-clause-stands
returns-in-Equal-clause-stands c =
    let long = ap length c.requires ∙ length-places_of (key_bytes c.args.texts.now) in
    let within = middle_within (key_bytes c.args.texts.now) c.args.key.now c.loop-low.low c.loop-low.high c.loop-low.compared _ c.loop-low.invariant c.loop-low-test.true long in
    search_found (key_bytes c.args.texts.now) c.args.key.now _ _ _
    (read_at c.args.texts.now c.args.order.now _ c.index-texts-order.result c.requires within c.index-texts-order.is)
    (ap (key_cmp c.args.key.now) (sym c.as_str.ensures.value) ∙ sym c.cmp.ensures ∙ c.in-Equal.is)

pub returns-in-Equal-clause-within : goal.returns-in-Equal-clause-within
returns-in-Equal-clause-within c =
    let long = ap length c.requires ∙ length-places_of (key_bytes c.args.texts.now) in
    middle_within (key_bytes c.args.texts.now) c.args.key.now c.loop-low.low c.loop-low.high c.loop-low.compared _ c.loop-low.invariant c.loop-low-test.true long

pub returns-in-Equal-clause-compared : goal.returns-in-Equal-clause-compared
returns-in-Equal-clause-compared c =
    let long = ap length c.requires ∙ length-places_of (key_bytes c.args.texts.now) in
    search_one_more (key_bytes c.args.texts.now) c.args.key.now c.loop-low.low c.loop-low.high c.loop-low.compared _ c.loop-low.invariant c.loop-low-test.true long

pub returns-clause-goes : goal.returns-clause-goes
returns-clause-goes c = search_end (key_bytes c.args.texts.now) c.args.key.now c.loop-low.low c.loop-low.high c.loop-low.compared c.loop-low.invariant c.loop-low-test.false

pub returns-clause-compared : goal.returns-clause-compared
returns-clause-compared c =
    let long = ap length c.requires ∙ length-places_of (key_bytes c.args.texts.now) in
    search_few (key_bytes c.args.texts.now) c.args.key.now c.loop-low.low c.loop-low.high c.loop-low.compared _ c.loop-low.invariant long
