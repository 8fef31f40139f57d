use Rattle.std.proofs.Common.{◌≡◌, ◌≤◌, List, ap, sym, ◌∙◌, subst, string_bytes, drop}
use Rattle.std.proofs.lemmas.List.{drop_all}
use Rattle.bson_base.specs.Value.{Value, members_levels}
use Rattle.bson_model.specs.Keyed.{Key, ascending}
use Rattle.bson_model.specs.Rest.{lent_member, ascending_rest}
use Rattle.bson_model.specs.View.{view, pairs_of, members_of}
use Rattle.bson_meaning.specs.Meaning.{Same}
use Rattle.bson_meaning.proofs.PairwiseLemmas.{SameInTurn, in_turn, ascending_low, ended_if, keys_differ, keys_meet, turn_longer, turn_other_key, turn_other_value, turn_more, turn_end}
use Rattle.bson_meaning.proofs.TurnLemmas.{items_end, levels_more}
use Rattle.bson_meaning.proofs.compare.+same.Goals as goal
use Rattle.bson_raw.proofs.ProgressLemmas.{untrue}

pub same_items-returns : goal.same_items-returns
same_items-returns t c =
    items_end _ (drop c.loop-item.item-index c.args.items.now) c.loop-item.left.now c.is_empty.result c.loop-item.invariant.0 (drop_all c.loop-item.item-index c.args.items.now c.loop-item-test.false) c.is_empty.ensures

pub same_documents-loop-key-init : goal.same_documents-loop-key-init
same_documents-loop-key-init t c =
    let ps = pairs_of c.args.document.now in
    let first = ap ascending_rest c.into_iter-key-iterator.ensures.into_iter_gives ∙ c.ascending-key-items.ensures in
    let second = c.ascending-others.ensures in
    let both = in_turn ps (pairs_of c.args.other.now) c.distinct_keys_of_level.ensures in
    let P : List (Key × Value) → List (Key × Value) → Type 0 = λ xs ys. SameInTurn (members_of xs) (members_of ys) in (
      (
        λ h. subst (λ xs. P xs (ascending_rest c.ascending-others.result)) (sym first) (subst (P (ascending ps)) (sym second) (both.0 h)),
        λ h. both.1 (subst (P (ascending ps)) second (subst (λ xs. P xs (ascending_rest c.ascending-others.result)) first h)),
      ),
      subst (λ xs. members_levels (members_of xs) ≤ members_levels (members_of ps)) (sym first) (ascending_low ps),
      tt,
      tt,
    )

pub same_documents-loop-key-preserved : goal.same_documents-loop-key-preserved
same_documents-loop-key-preserved t c =
    let rest = ascending_rest c.loop-key.key-iterator in
    let left = ascending_rest c.loop-key.others in
    let more = ascending_rest c.next.new.self in
    let others = ascending_rest c.next-in-loop-key.new.self in
    let p : Key × Value = (string_bytes c.in-Some.key.now, view c.in-Some.value.now) in
    let q : Key × Value = (string_bytes c.in-Some-next.name.now, view c.in-Some-next.found.now) in
    let same = keys_meet c.as_str.result.now c.as_str-in-loop-key.result.now c.ne.result c.ne.ensures c.if-ne.false in
    let keys : p.0 ≡ q.0 = sym c.as_str.ensures.value ∙ same ∙ c.as_str-in-loop-key.ensures.value in (
      turn_more _ rest left c.loop-key.invariant.0 p q more others c.in-Some.ensures.steps c.in-Some-next.ensures.steps keys (c.same_meaning.ensures.0 c.if-not-same_meaning.false),
      levels_more rest more p _ c.in-Some.ensures.steps c.loop-key.invariant.1,
      tt,
      tt,
    )

pub same_documents-returns-in_default : goal.same_documents-returns-in_default
same_documents-returns-in_default t c =
    let rest = ascending_rest c.loop-key.key-iterator in
    let left = ascending_rest c.loop-key.others in
    let p : Key × Value = (string_bytes c.in-Some.key.now, view c.in-Some.value.now) in
    (λ h. absurd cc, λ h. absurd (turn_longer _ rest left c.loop-key.invariant.0 p (ascending_rest c.next.new.self) c.in-Some.ensures.steps c.in_default.ensures.steps.0 h))

pub same_documents-returns-then-ne : goal.same_documents-returns-then-ne
same_documents-returns-then-ne t c =
    let rest = ascending_rest c.loop-key.key-iterator in
    let left = ascending_rest c.loop-key.others in
    let p : Key × Value = (string_bytes c.in-Some.key.now, view c.in-Some.value.now) in
    let q : Key × Value = (string_bytes c.in-Some-next.name.now, view c.in-Some-next.found.now) in
    let differ : p.0 ≡ q.0 → ⊥ = λ same. keys_differ c.as_str.result.now c.as_str-in-loop-key.result.now c.ne.result c.ne.ensures c.if-ne.true (c.as_str.ensures.value ∙ same ∙ sym c.as_str-in-loop-key.ensures.value) in
    (λ h. absurd cc, λ h. absurd (turn_other_key _ rest left c.loop-key.invariant.0 p q (ascending_rest c.next.new.self) (ascending_rest c.next-in-loop-key.new.self) c.in-Some.ensures.steps c.in-Some-next.ensures.steps differ h))

pub same_documents-returns-then-not-same_meaning : goal.same_documents-returns-then-not-same_meaning
same_documents-returns-then-not-same_meaning t c =
    let rest = ascending_rest c.loop-key.key-iterator in
    let left = ascending_rest c.loop-key.others in
    let p : Key × Value = (string_bytes c.in-Some.key.now, view c.in-Some.value.now) in
    let q : Key × Value = (string_bytes c.in-Some-next.name.now, view c.in-Some-next.found.now) in
    let differ : Same p.1 q.1 → ⊥ = λ same. untrue c.same_meaning.result c.if-not-same_meaning.true (c.same_meaning.ensures.1 same) in
    (λ h. absurd cc, λ h. absurd (turn_other_value _ rest left c.loop-key.invariant.0 p q (ascending_rest c.next.new.self) (ascending_rest c.next-in-loop-key.new.self) c.in-Some.ensures.steps c.in-Some-next.ensures.steps differ h))

pub same_documents-returns : goal.same_documents-returns
same_documents-returns t c =
    let left = ascending_rest c.loop-key.others in
    let last = ended_if lent_member c.next-2.result left (ascending_rest c.next-2.new.self) c.is_none.result c.next-2.ensures.steps c.is_none.ensures in
    turn_end _ (ascending_rest c.loop-key.key-iterator) left c.loop-key.invariant.0 c.is_none.result c.in-None.ensures.steps.0 last
