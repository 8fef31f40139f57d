use Rattle.std.proofs.Common.{◌≡◌, ◌<◌, ◌≤◌, List, drop, map, length, string_bytes, sym, ap, ◌∙◌, subst, arith}
use Rattle.std.proofs.lemmas.List.{drop_all}
use Rattle.std.specs.Ordering.{nat_cmp, ordering_then}
use Rattle.bson_base.specs.Value.{Value, value_kind, items_levels, members_levels}
use Rattle.bson_meaning.proofs.TurnLemmas.{levels_more}
use Rattle.bson_model.specs.Keyed.{Key}
use Rattle.bson_model.specs.Rest.{iter_rest}
use Rattle.bson_model.specs.View.{view, pairs_of, items_of, members_of}
use Rattle.bson_order.specs.Order.{rank, inside}
use Rattle.bson_order.proofs.KeyLemmas.{equal_numbers}
use Rattle.bson_order.proofs.TurnLemmas.{compared, member_head, decided_less, decided_greater, decided_equal, then_first, element_keys, element_split}
use Rattle.bson_order.proofs.TreeLemmas.{inside_compared, list_inside, levels_on, list_less, list_greater, list_on, list_longer, no_items, list_end, list_shorter, pairs_inside, pairs_less, pairs_greater, pairs_on, pairs_longer, pairs_end, pairs_shorter}
use Rattle.bson_order.proofs.trees.+trees.Goals as goal

pub compare_trees-returns-in-Less : goal.compare_trees-returns-in-Less
compare_trees-returns-in-Less t c =
    let v = view c.args.value.now in
    let w = view c.args.other.now in
    decided_less c.compare_kinds.result (nat_cmp (rank (value_kind v)) (rank (value_kind w))) (compared (inside v) (inside w)) c.compare_kinds.ensures c.in-Less.is

pub compare_trees-returns-in-Equal : goal.compare_trees-returns-in-Equal
compare_trees-returns-in-Equal t c =
    let v = view c.args.value.now in
    let w = view c.args.other.now in
    let same = equal_numbers (rank (value_kind v)) (rank (value_kind w)) (sym c.compare_kinds.ensures ∙ c.in-Equal.is) in
    decided_equal c.compare_kinds.result (nat_cmp (rank (value_kind v)) (rank (value_kind w))) (compared (inside v) (inside w)) c.compare_contents.result c.compare_kinds.ensures c.in-Equal.is (inside_compared v w c.compare_contents.result same c.compare_contents.ensures)

pub compare_trees-returns-in-Greater : goal.compare_trees-returns-in-Greater
compare_trees-returns-in-Greater t c =
    let v = view c.args.value.now in
    let w = view c.args.other.now in
    decided_greater c.compare_kinds.result (nat_cmp (rank (value_kind v)) (rank (value_kind w))) (compared (inside v) (inside w)) c.compare_kinds.ensures c.in-Greater.is

pub compare_pairs-returns-in-Less : goal.compare_pairs-returns-in-Less
compare_pairs-returns-in-Less t c =
    let k = c.args.key.now in
    let l = c.args.name.now in
    let v = view c.args.value.now in
    let w = view c.args.other.now in
    let told = element_keys k l v w c.compare_kinds-heads.result c.compare_texts.result c.then.result c.compare_kinds-heads.ensures c.compare_texts.ensures c.then.ensures in
    decided_less c.then.result (ordering_then (nat_cmp (rank (value_kind v)) (rank (value_kind w))) (compared k l)) (compared (inside v) (inside w)) told c.in-Less.is ∙ sym (element_split k l v w)

pub compare_pairs-returns-in-Equal : goal.compare_pairs-returns-in-Equal
compare_pairs-returns-in-Equal t c =
    let k = c.args.key.now in
    let l = c.args.name.now in
    let v = view c.args.value.now in
    let w = view c.args.other.now in
    let told = element_keys k l v w c.compare_kinds-heads.result c.compare_texts.result c.then.result c.compare_kinds-heads.ensures c.compare_texts.ensures c.then.ensures in
    let same = equal_numbers (rank (value_kind v)) (rank (value_kind w)) (then_first (nat_cmp (rank (value_kind v)) (rank (value_kind w))) (compared k l) (sym told ∙ c.in-Equal.is)) in
    decided_equal c.then.result (ordering_then (nat_cmp (rank (value_kind v)) (rank (value_kind w))) (compared k l)) (compared (inside v) (inside w)) c.compare_contents.result told c.in-Equal.is (inside_compared v w c.compare_contents.result same c.compare_contents.ensures) ∙ sym (element_split k l v w)

pub compare_pairs-returns-in-Greater : goal.compare_pairs-returns-in-Greater
compare_pairs-returns-in-Greater t c =
    let k = c.args.key.now in
    let l = c.args.name.now in
    let v = view c.args.value.now in
    let w = view c.args.other.now in
    let told = element_keys k l v w c.compare_kinds-heads.result c.compare_texts.result c.then.result c.compare_kinds-heads.ensures c.compare_texts.ensures c.then.ensures in
    decided_greater c.then.result (ordering_then (nat_cmp (rank (value_kind v)) (rank (value_kind w))) (compared k l)) (compared (inside v) (inside w)) told c.in-Greater.is ∙ sym (element_split k l v w)

pub compare_lists-loop-item-preserved : goal.compare_lists-loop-item-preserved
compare_lists-loop-item-preserved t c =
    let items = c.args.items.now in
    let i = c.loop-item.item-index in
    let total = compared (list_inside items) (list_inside c.args.others.now) in
    let low : i < length items = omega (arith, c.loop-item-test.true, c.loop-item.auto.item-index-end) in (
      list_on total items c.loop-item.left.now i c.item-item.result low c.item-item.is c.loop-item.invariant.0 c.in-Some.other.now c.in-Some.rest.now c.in-Some.ensures.cases.0 c.compare_trees.result c.compare_trees.ensures c.in-Equal.is,
      levels_on items i (items_levels (items_of (map view items))) c.item-item.result low c.item-item.is c.loop-item.invariant.1,
    )

pub compare_lists-returns-in-Less : goal.compare_lists-returns-in-Less
compare_lists-returns-in-Less t c =
    let items = c.args.items.now in
    let i = c.loop-item.item-index in
    let low : i < length items = omega (arith, c.loop-item-test.true, c.loop-item.auto.item-index-end) in
    list_less (compared (list_inside items) (list_inside c.args.others.now)) items c.loop-item.left.now i c.item-item.result low c.item-item.is c.loop-item.invariant.0 c.in-Some.other.now c.in-Some.rest.now c.in-Some.ensures.cases.0 c.compare_trees.result c.compare_trees.ensures c.in-Less.is

pub compare_lists-returns-in-Greater : goal.compare_lists-returns-in-Greater
compare_lists-returns-in-Greater t c =
    let items = c.args.items.now in
    let i = c.loop-item.item-index in
    let low : i < length items = omega (arith, c.loop-item-test.true, c.loop-item.auto.item-index-end) in
    list_greater (compared (list_inside items) (list_inside c.args.others.now)) items c.loop-item.left.now i c.item-item.result low c.item-item.is c.loop-item.invariant.0 c.in-Some.other.now c.in-Some.rest.now c.in-Some.ensures.cases.0 c.compare_trees.result c.compare_trees.ensures c.in-Greater.is

pub compare_lists-returns-in_default : goal.compare_lists-returns-in_default
compare_lists-returns-in_default t c =
    let items = c.args.items.now in
    let i = c.loop-item.item-index in
    let low : i < length items = omega (arith, c.loop-item-test.true, c.loop-item.auto.item-index-end) in
    list_longer (compared (list_inside items) (list_inside c.args.others.now)) items c.loop-item.left.now i c.item-item.result low c.item-item.is c.loop-item.invariant.0 (no_items c.loop-item.left.now c.in_default.ensures.cases)

pub compare_lists-returns-then-is_empty : goal.compare_lists-returns-then-is_empty
compare_lists-returns-then-is_empty t c =
    let items = c.args.items.now in
    list_end (compared (list_inside items) (list_inside c.args.others.now)) (drop c.loop-item.item-index items) c.loop-item.left.now c.is_empty.result c.loop-item.invariant.0 (drop_all c.loop-item.item-index items c.loop-item-test.false) c.is_empty.ensures c.if-is_empty.true

pub compare_lists-returns-else-is_empty : goal.compare_lists-returns-else-is_empty
compare_lists-returns-else-is_empty t c =
    let items = c.args.items.now in
    list_shorter (compared (list_inside items) (list_inside c.args.others.now)) (drop c.loop-item.item-index items) c.loop-item.left.now c.is_empty.result c.loop-item.invariant.0 (drop_all c.loop-item.item-index items c.loop-item-test.false) c.is_empty.ensures c.if-is_empty.false

pub compare_documents-loop-key-init : goal.compare_documents-loop-key-init
compare_documents-loop-key-init t c =
    let ps = pairs_of c.args.document.now in
    let first = c.into_iter-key-iterator.ensures.into_iter_gives in
    let start : members_levels (members_of ps) ≤ members_levels (members_of ps) = omega arith in (
      ap (λ qs. compared (pairs_inside qs) (pairs_inside (pairs_of c.args.other.now))) (sym first) ∙ ap (λ qs. compared (pairs_inside (iter_rest c.into_iter-key-iterator.result)) (pairs_inside qs)) (sym c.iter-others.ensures),
      subst (λ qs. members_levels (members_of qs) ≤ members_levels (members_of ps)) (sym first) start,
      tt,
      tt,
    )

pub compare_documents-loop-key-preserved : goal.compare_documents-loop-key-preserved
compare_documents-loop-key-preserved t c =
    let total = compared (pairs_inside (pairs_of c.args.document.now)) (pairs_inside (pairs_of c.args.other.now)) in
    let rest = iter_rest c.loop-key.key-iterator in
    let more = iter_rest c.next.new.self in
    let p : Key × Value = (string_bytes c.in-Some.key.now, view c.in-Some.value.now) in
    let q : Key × Value = (string_bytes c.in-Some-next.name.now, view c.in-Some-next.found.now) in
    let told = c.compare_pairs.ensures ∙ ap (λ k. compared (member_head k p.1) (member_head c.as_str-in-loop-key.result.now q.1)) c.as_str.ensures.value ∙ ap (λ l. compared (member_head p.0 p.1) (member_head l q.1)) c.as_str-in-loop-key.ensures.value in (
      pairs_on total rest (iter_rest c.loop-key.others) more p c.in-Some.ensures.steps c.loop-key.invariant.0 q (iter_rest c.next-in-loop-key.new.self) c.in-Some-next.ensures.steps c.compare_pairs.result told c.in-Equal.is,
      levels_more rest more p (members_levels (members_of (pairs_of c.args.document.now))) c.in-Some.ensures.steps c.loop-key.invariant.1,
      tt,
      tt,
    )

pub compare_documents-returns-in_default : goal.compare_documents-returns-in_default
compare_documents-returns-in_default t c =
    let total = compared (pairs_inside (pairs_of c.args.document.now)) (pairs_inside (pairs_of c.args.other.now)) in
    let p : Key × Value = (string_bytes c.in-Some.key.now, view c.in-Some.value.now) in
    pairs_longer total (iter_rest c.loop-key.key-iterator) (iter_rest c.loop-key.others) (iter_rest c.next.new.self) p c.in-Some.ensures.steps c.loop-key.invariant.0 c.in_default.ensures.steps.0

pub compare_documents-returns-in-Less : goal.compare_documents-returns-in-Less
compare_documents-returns-in-Less t c =
    let total = compared (pairs_inside (pairs_of c.args.document.now)) (pairs_inside (pairs_of c.args.other.now)) in
    let p : Key × Value = (string_bytes c.in-Some.key.now, view c.in-Some.value.now) in
    let q : Key × Value = (string_bytes c.in-Some-next.name.now, view c.in-Some-next.found.now) in
    let told = c.compare_pairs.ensures ∙ ap (λ k. compared (member_head k p.1) (member_head c.as_str-in-loop-key.result.now q.1)) c.as_str.ensures.value ∙ ap (λ l. compared (member_head p.0 p.1) (member_head l q.1)) c.as_str-in-loop-key.ensures.value in
    pairs_less total (iter_rest c.loop-key.key-iterator) (iter_rest c.loop-key.others) (iter_rest c.next.new.self) p c.in-Some.ensures.steps c.loop-key.invariant.0 q (iter_rest c.next-in-loop-key.new.self) c.in-Some-next.ensures.steps c.compare_pairs.result told c.in-Less.is

pub compare_documents-returns-in-Greater : goal.compare_documents-returns-in-Greater
compare_documents-returns-in-Greater t c =
    let total = compared (pairs_inside (pairs_of c.args.document.now)) (pairs_inside (pairs_of c.args.other.now)) in
    let p : Key × Value = (string_bytes c.in-Some.key.now, view c.in-Some.value.now) in
    let q : Key × Value = (string_bytes c.in-Some-next.name.now, view c.in-Some-next.found.now) in
    let told = c.compare_pairs.ensures ∙ ap (λ k. compared (member_head k p.1) (member_head c.as_str-in-loop-key.result.now q.1)) c.as_str.ensures.value ∙ ap (λ l. compared (member_head p.0 p.1) (member_head l q.1)) c.as_str-in-loop-key.ensures.value in
    pairs_greater total (iter_rest c.loop-key.key-iterator) (iter_rest c.loop-key.others) (iter_rest c.next.new.self) p c.in-Some.ensures.steps c.loop-key.invariant.0 q (iter_rest c.next-in-loop-key.new.self) c.in-Some-next.ensures.steps c.compare_pairs.result told c.in-Greater.is

pub compare_documents-returns-in-None-next : goal.compare_documents-returns-in-None-next
compare_documents-returns-in-None-next t c =
    let total = compared (pairs_inside (pairs_of c.args.document.now)) (pairs_inside (pairs_of c.args.other.now)) in
    pairs_end total (iter_rest c.loop-key.key-iterator) (iter_rest c.loop-key.others) c.loop-key.invariant.0 c.in-None.ensures.steps.0 c.in-None-next.ensures.steps.0

pub compare_documents-returns-in-Some-next-2 : goal.compare_documents-returns-in-Some-next-2
compare_documents-returns-in-Some-next-2 t c =
    let total = compared (pairs_inside (pairs_of c.args.document.now)) (pairs_inside (pairs_of c.args.other.now)) in
    pairs_shorter total (iter_rest c.loop-key.key-iterator) (iter_rest c.loop-key.others) _ _ c.loop-key.invariant.0 c.in-None.ensures.steps.0 c.in-Some-next-2.ensures.steps
