use Rattle.std.proofs.Common.{◌≡◌, ◌<◌, ◌+◌, ◌∙◌, List, [], ◌∷◌, ◌++◌, Some, length, drop, refl, ap, subst, sym, arith}
use Rattle.std.proofs.lemmas.List.{drop_all, drop_more}
use Rattle.std.specs.Prelude.{IfErr, IfOk, IsTrue}
use Rattle.std.proofs.lemmas.Result.{err_from_is_err_and}
use Rattle.json.specs.Token.{Token, begin_object, key, string}
use Rattle.bson_model.specs.JsonKeys.{key_of, of_code, scope_key}
use Rattle.bson_json.proofs.PrintLemmas.{behind}
use Rattle.bson_raw.specs.Raw.{ref_value}
use Rattle.bson_raw.specs.View.{array_bytes, bytes_of, left_of}
use Rattle.bson_raw.specs.Walk.{steps_from}
use Rattle.bson_json.specs.InOrder.{ShowsInOrder}
use Rattle.bson_json.specs.Settling.{ShowsSettled}
use Rattle.bson_json.specs.Straight.{IfUnseen}
use Rattle.bson_json.specs.declared.style.Style.TheVariants.{Full}
use Rattle.bson_json.proofs.OrderedLemmas.{value_left}
use Rattle.bson_json.proofs.SettlingLemmas.{all_met, array_settled, document_settled, item_settled, items_settled, no_key_met, nothing_settled, one_more_met, payload_settled}
use Rattle.bson_json.proofs.StepLemmas.{items_done, items_more, leaf_before, leaf_form, members_done, members_more, pairs_done, pairs_more, scoped_added}
use Rattle.bson_json.proofs.StraightLemmas.{IsLeftWhole, free_keys, item_left, items_onward, leaf_unseen, member_left, members_onward, no_item, no_member, of_array, of_document, of_scoped, reserved_key, unseen}
use Rattle.bson_json.proofs.document.+print.Goals as goal

pub print_in_turn-loop-item-preserved : goal.print_in_turn-loop-item-preserved
print_in_turn-loop-item-preserved t c =
    let l = c.loop-item in
    let step = subst (λ i. steps_from (left_of l.item-iterator) (Some i) (left_of c.next.new.self)) c.in-Ok.is c.in-Some.ensures.steps in (
      members_more c.args.mode c.args.keys (Some (drop 4 (bytes_of c.args.document))) (left_of l.item-iterator) (left_of c.next.new.self) c.in-Ok.element c.key-key.result.now
          c.begin_object.new.self l.out c.key.new.self c.print_value.new.out l.invariant.0 step c.key-key.ensures (c.is_among.ensures.among c.if-not-is_among.false)
          (c.in_ok-key.ensures.ok, c.in_ok-key.ensures.room.0) (λ v kind spelled. c.in_ok-value_is_settled.ensures.form v (c.in-Some-value_in.ensures.shown v kind spelled)),
      c.in_ok-value_is_settled.ensures.before ∙ c.in_ok-key.ensures.room.0 ∙ l.invariant.1,
      tt,
      tt,
      members_onward (Full c.args.mode) c.args.keys (drop 4 (bytes_of c.args.document)) (left_of l.item-iterator) (left_of c.next.new.self) c.in-Ok.element step l.invariant.4,
      λ told.
          let m = c.meet-is_settled.ensures told in
          let p = payload_settled c.in-Ok.element (ref_value c.in-Some-value_in.value) c.in-Some-value_in.ensures.spelled (c.in_ok-value_is_settled.ensures.settled m.1).0 in
          one_more_met (drop 4 (bytes_of c.args.document)) (left_of l.item-iterator) (left_of c.next.new.self) c.in-Ok.element c.key-key.result c.args.met.now.items l.met.items c.print_value.new.met.items c.meet-is_settled.new.met.items _ step c.key-key.ensures p (ap length c.as_slice-outer.ensures.value) (c.in_ok-value_is_settled.ensures.settled m.1).1 m.2 m.3 (l.invariant.5 m.0),
    )

pub print_in_turn-returns : goal.print_in_turn-returns
print_in_turn-returns t c =
    let l = c.loop-item in
    record {
      form =
          members_done c.args.mode c.args.keys (drop 4 (bytes_of c.args.document)) (left_of l.item-iterator) (left_of c.next.new.self) c.args.out.now c.begin_object.new.self l.out c.end_object.new.self l.invariant.0 c.in-None.ensures.steps
          (c.in_ok-begin_object.ensures.ok, c.in_ok-begin_object.ensures.room.0) (c.in_ok-end_object.ensures.ok, c.in_ok-end_object.ensures.room.0);
      settled = λ told. all_met (drop 4 (bytes_of c.args.document)) (left_of l.item-iterator) (left_of c.next.new.self) c.args.met.now.items l.met.items c.truncate.new.self.items _ c.in-None.ensures.steps (ap length c.as_slice-outer.ensures.value) c.truncate.ensures.items (l.invariant.5 told);
      before = c.in_ok-end_object.ensures.room.0 ∙ l.invariant.1 ∙ c.in_ok-begin_object.ensures.room.0;
      seen = tt;
    }

pub print_items-loop-item-preserved : goal.print_items-loop-item-preserved
print_items-loop-item-preserved t c =
    let l = c.loop-item in
    let step = subst (λ i. steps_from (left_of l.item-iterator) (Some i) (left_of c.next.new.self)) c.in-Ok-item.is c.in-Some.ensures.steps in (
      items_more c.args.style (Some (drop 4 (array_bytes c.args.array))) (left_of l.item-iterator) (left_of c.next.new.self) c.in-Ok-item.element c.begin_array.new.self l.out c.print_value.new.out l.invariant.0 step
          (λ v kind spelled. c.in_ok-value_is_settled.ensures.form v (c.in-Some-value_in.ensures.shown v kind spelled)),
      c.in_ok-value_is_settled.ensures.before ∙ l.invariant.1,
      tt,
      tt,
      items_onward c.args.style (drop 4 (array_bytes c.args.array)) (left_of l.item-iterator) (left_of c.next.new.self) c.in-Ok-item.element step l.invariant.4,
      λ told.
          let m = c.both-is_settled.ensures told in
          let p = payload_settled c.in-Ok-item.element (ref_value c.in-Some-value_in.value) c.in-Some-value_in.ensures.spelled (c.in_ok-value_is_settled.ensures.settled m.1).0 in
          item_settled (drop 4 (array_bytes c.args.array)) (left_of l.item-iterator) (left_of c.next.new.self) c.in-Ok-item.element c.args.met.now.items l.met.items c.print_value.new.met.items step p (c.in_ok-value_is_settled.ensures.settled m.1).1 (l.invariant.5 m.0),
    )

pub print_items-returns : goal.print_items-returns
print_items-returns t c =
    let l = c.loop-item in
    record {
      form =
          items_done c.args.style (drop 4 (array_bytes c.args.array)) (left_of l.item-iterator) (left_of c.next.new.self) c.args.out.now c.begin_array.new.self l.out c.end_array.new.self l.invariant.0 c.in-None.ensures.steps
          (c.in_ok-begin_array.ensures.ok, c.in_ok-begin_array.ensures.room.0) (c.in_ok-end_array.ensures.ok, c.in_ok-end_array.ensures.room.0);
      settled = λ told. items_settled (drop 4 (array_bytes c.args.array)) (left_of l.item-iterator) (left_of c.next.new.self) c.args.met.now.items l.met.items c.in-None.ensures.steps (l.invariant.5 told);
      before = c.in_ok-end_array.ensures.room.0 ∙ l.invariant.1 ∙ c.in_ok-begin_array.ensures.room.0;
      seen = tt;
    }

pub print_scoped-returns-clause-form : goal.print_scoped-returns-clause-form
print_scoped-returns-clause-form t c = λ ms h.
    let old = c.args.out.now in
    let text = c.args.code.code.now in
    let a : List Token = begin_object ∷ key (key_of of_code) ∷ [] in
    let b : List Token = string text ∷ [] in
    let one = behind a b old c.begin.new.out c.string.new.self c.in_ok-begin.ensures (c.in_ok-string.ensures.ok, c.in_ok-string.ensures.room.0) in
    let two = behind (a ++ b) (key scope_key ∷ []) old c.string.new.self c.key.new.self one (c.in_ok-key.ensures.ok, c.in_ok-key.ensures.room.0) in
    scoped_added c.args.style text ms old c.key.new.self c.print_members.new.out c.end_object.new.self two (c.in_ok-print_members.ensures.form ms h) (c.in_ok-end_object.ensures.ok, c.in_ok-end_object.ensures.room.0)

pub print_in_turn-returns-in_default-clause-seen : goal.print_in_turn-returns-in_default-clause-seen
print_in_turn-returns-in_default-clause-seen r c =
    let l = c.loop-item in
    let s = left_of l.item-iterator in
    let t = left_of c.next.new.self in
    let step = subst (λ i. steps_from s (Some i) t) c.in_default.is c.in-Some.ensures.steps in
    no_member (Full c.args.mode) c.args.keys (drop 4 (bytes_of c.args.document)) c.args.inner s t c.in_default.field-0 step l.invariant.4

pub print_in_turn-returns-then-not-is_among-clause-seen : goal.print_in_turn-returns-then-not-is_among-clause-seen
print_in_turn-returns-then-not-is_among-clause-seen r c =
    let l = c.loop-item in
    let s = left_of l.item-iterator in
    let t = left_of c.next.new.self in
    let step = subst (λ i. steps_from s (Some i) t) c.in-Ok.is c.in-Some.ensures.steps in
    reserved_key (Full c.args.mode) c.args.keys (drop 4 (bytes_of c.args.document)) s t c.in-Ok.element step l.invariant.4 c.args.inner c.key-key.result.now c.key-key.ensures (c.is_among.ensures.other c.if-not-is_among.true)

pub print_in_turn-returns-in_default-value_in-clause-seen : goal.print_in_turn-returns-in_default-value_in-clause-seen
print_in_turn-returns-in_default-value_in-clause-seen r c =
    let l = c.loop-item in
    let s = left_of l.item-iterator in
    let t = left_of c.next.new.self in
    let step = subst (λ i. steps_from s (Some i) t) c.in-Ok.is c.in-Some.ensures.steps in
    member_left (Full c.args.mode) c.args.keys (drop 4 (bytes_of c.args.document)) s t c.in-Ok.element step l.invariant.4 c.args.inner (λ v kind spelled _. c.in_default-value_in.ensures.fault v kind spelled)

pub print_in_turn-returns-in_err-value_is_settled-clause-seen : goal.print_in_turn-returns-in_err-value_is_settled-clause-seen
print_in_turn-returns-in_err-value_is_settled-clause-seen r c =
    let p = err_from_is_err_and c.from_residual-in_err-value_is_settled.result c.from_residual-in_err-value_is_settled.ensures.1 in
    let l = c.loop-item in
    let s = left_of l.item-iterator in
    let t = left_of c.next.new.self in
    let step = subst (λ i. steps_from s (Some i) t) c.in-Ok.is c.in-Some.ensures.steps in
    rw (p.1, p.2)
    (unseen c.in_err-value_is_settled.field-0.0
    (λ bad. member_left (Full c.args.mode) c.args.keys (drop 4 (bytes_of c.args.document)) s t c.in-Ok.element step l.invariant.4 c.args.inner (λ v kind spelled straight. bad v (c.in-Some-value_in.ensures.shown v kind spelled) straight))
    c.in_err-value_is_settled.ensures.seen)

pub print_items-returns-in_default-item-clause-seen : goal.print_items-returns-in_default-item-clause-seen
print_items-returns-in_default-item-clause-seen r c =
    let l = c.loop-item in
    let s = left_of l.item-iterator in
    let t = left_of c.next.new.self in
    let step = subst (λ i. steps_from s (Some i) t) c.in_default-item.is c.in-Some.ensures.steps in
    no_item c.args.style (drop 4 (array_bytes c.args.array)) c.args.inner s t c.in_default-item.field-0 step l.invariant.4

pub print_items-returns-in_default-value_in-clause-seen : goal.print_items-returns-in_default-value_in-clause-seen
print_items-returns-in_default-value_in-clause-seen r c =
    let l = c.loop-item in
    let s = left_of l.item-iterator in
    let t = left_of c.next.new.self in
    let step = subst (λ i. steps_from s (Some i) t) c.in-Ok-item.is c.in-Some.ensures.steps in
    item_left c.args.style (drop 4 (array_bytes c.args.array)) s t c.in-Ok-item.element step l.invariant.4 c.args.inner (λ v kind spelled _. c.in_default-value_in.ensures.fault v kind spelled)

pub print_items-returns-in_err-value_is_settled-clause-seen : goal.print_items-returns-in_err-value_is_settled-clause-seen
print_items-returns-in_err-value_is_settled-clause-seen r c =
    let p = err_from_is_err_and c.from_residual-in_err-value_is_settled.result c.from_residual-in_err-value_is_settled.ensures.1 in
    let l = c.loop-item in
    let s = left_of l.item-iterator in
    let t = left_of c.next.new.self in
    let step = subst (λ i. steps_from s (Some i) t) c.in-Ok-item.is c.in-Some.ensures.steps in
    rw (p.1, p.2)
    (unseen c.in_err-value_is_settled.field-0.0
    (λ bad. item_left c.args.style (drop 4 (array_bytes c.args.array)) s t c.in-Ok-item.element step l.invariant.4 c.args.inner (λ v kind spelled straight. bad v (c.in-Some-value_in.ensures.shown v kind spelled) straight))
    c.in_err-value_is_settled.ensures.seen)

pub print_scoped-returns-in_err-print_members-clause-seen : goal.print_scoped-returns-in_err-print_members-clause-seen
print_scoped-returns-in_err-print_members-clause-seen r c =
    let p = err_from_is_err_and c.from_residual-in_err-print_members.result c.from_residual-in_err-print_members.ensures.1 in
    rw (p.1, p.2) (unseen c.in_err-print_members.field-0.0 (free_keys c.args.style (drop 4 (bytes_of c.args.code.scope)) c.args.inner) c.in_err-print_members.ensures.seen)

pub print_value-returns-in_default : goal.print_value-returns-in_default
print_value-returns-in_default r c =
    let leaf = ref_value c.args.value in
    record {
      form = leaf_form c.args.style leaf c.print_settled_leaf.result c.args.out.now c.print_settled_leaf.new.out c.print_settled_leaf.ensures.form;
      before = leaf_before c.args.style leaf c.print_settled_leaf.result c.args.out.now c.print_settled_leaf.new.out c.print_settled_leaf.ensures.form;
      settled = no_key_met _ c.args.met.now.items c.print_settled_leaf.result c.print_settled_leaf.ensures.settled;
      seen = leaf_unseen c.args.style c.args.inner leaf c.print_settled_leaf.result c.print_settled_leaf.ensures.seen;
    }

pub print_value-returns-in-Document-clause-seen : goal.print_value-returns-in-Document-clause-seen
print_value-returns-in-Document-clause-seen r c =
    subst (λ v. IfErr c.print_members.result (IfUnseen (IsLeftWhole c.args.style c.args.inner (ref_value v)))) (sym c.in-Document.is) (of_document c.args.style c.args.inner (bytes_of c.in-Document.document) c.print_members.result c.print_members.ensures.seen)

pub print_value-returns-in-Document-clause-settled : goal.print_value-returns-in-Document-clause-settled
print_value-returns-in-Document-clause-settled r c =
    subst (λ v. IfOk c.print_members.result (λ b. IsTrue b → ShowsSettled (ref_value v) × (c.print_members.new.met.items ≡ c.args.met.now.items))) (sym c.in-Document.is) (document_settled _ (bytes_of c.in-Document.document) c.print_members.result c.print_members.ensures.settled)

pub print_value-returns-in-Array-clause-seen : goal.print_value-returns-in-Array-clause-seen
print_value-returns-in-Array-clause-seen r c =
    subst (λ v. IfErr c.print_items.result (IfUnseen (IsLeftWhole c.args.style c.args.inner (ref_value v)))) (sym c.in-Array.is) (of_array c.args.style c.args.inner (array_bytes c.in-Array.array) c.print_items.result c.print_items.ensures.seen)

pub print_value-returns-in-Array-clause-settled : goal.print_value-returns-in-Array-clause-settled
print_value-returns-in-Array-clause-settled r c =
    subst (λ v. IfOk c.print_items.result (λ b. IsTrue b → ShowsSettled (ref_value v) × (c.print_items.new.met.items ≡ c.args.met.now.items))) (sym c.in-Array.is) (array_settled _ (array_bytes c.in-Array.array) c.print_items.result c.print_items.ensures.settled)

pub print_value-returns-in-JavaScriptCodeWithScope-clause-settled : goal.print_value-returns-in-JavaScriptCodeWithScope-clause-settled
print_value-returns-in-JavaScriptCodeWithScope-clause-settled r c = nothing_settled _ c.print_scoped.result c.print_scoped.ensures.settled

pub print_value-returns-in-JavaScriptCodeWithScope-clause-seen : goal.print_value-returns-in-JavaScriptCodeWithScope-clause-seen
print_value-returns-in-JavaScriptCodeWithScope-clause-seen r c =
    subst (λ v. IfErr c.print_scoped.result (IfUnseen (IsLeftWhole c.args.style c.args.inner (ref_value v)))) (sym c.in-JavaScriptCodeWithScope.is) (of_scoped c.args.style c.args.inner c.in-JavaScriptCodeWithScope.code.code.now (bytes_of c.in-JavaScriptCodeWithScope.code.scope) c.print_scoped.result c.print_scoped.ensures.seen)

-- ---- members in the order of their keys

pub print_sorted-loop-pair-init : goal.print_sorted-loop-pair-init
print_sorted-loop-pair-init t c = (λ end h. h, refl)

pub print_sorted-loop-pair-preserved : goal.print_sorted-loop-pair-preserved
print_sorted-loop-pair-preserved t c =
    let l = c.loop-pair in
    let rs = c.as_slice-pair-items.result.now in
    let x = c.pair-item.result in
    let within : l.pair-index < length rs = omega arith in
    let here = drop_more rs l.pair-index x within ∙ ap (λ y. y ∷ drop (l.pair-index + 1) rs) (sym c.pair-item.is) in (
      pairs_more rs (drop l.pair-index rs) (drop (l.pair-index + 1) rs) x c.begin_object.new.self l.out c.key.new.self c.print_value.new.out l.invariant.0 here
          (c.in_ok-key.ensures.ok, c.in_ok-key.ensures.room.0) c.in_ok-print_value.ensures.form,
      c.in_ok-print_value.ensures.before ∙ c.in_ok-key.ensures.room.0 ∙ l.invariant.1,
    )

pub print_sorted-returns : goal.print_sorted-returns
print_sorted-returns t c =
    let l = c.loop-pair in
    let rs = c.as_slice-pair-items.result.now in
    let elements = drop 4 (bytes_of c.args.document) in
    let order = subst (ShowsInOrder c.args.keys elements) (sym c.as_slice-pair-items.ensures.value) c.in_ok-pairs.ensures.order in
    let none = drop_all l.pair-index rs c.loop-pair-test.false in
    record {
      form =
          pairs_done c.args.keys elements rs (drop l.pair-index rs) c.args.out.now c.begin_object.new.self l.out c.end_object.new.self order l.invariant.0 none
          (c.in_ok-begin_object.ensures.ok, c.in_ok-begin_object.ensures.room.0) (c.in_ok-end_object.ensures.ok, c.in_ok-end_object.ensures.room.0);
      settled = λ told. absurd (cc);
      before = c.in_ok-end_object.ensures.room.0 ∙ l.invariant.1 ∙ c.in_ok-begin_object.ensures.room.0;
      seen = tt;
    }

pub print_sorted-returns-in_err-pairs-clause-seen : goal.print_sorted-returns-in_err-pairs-clause-seen
print_sorted-returns-in_err-pairs-clause-seen t c =
    let p = err_from_is_err_and c.from_residual.result c.from_residual.ensures.1 in
    rw (p.1, p.2) (unseen c.in_err-pairs.field-0.0 (λ bad. bad c.args.inner) c.in_err-pairs.ensures.seen)

pub print_sorted-returns-in_err-print_value-clause-seen : goal.print_sorted-returns-in_err-print_value-clause-seen
print_sorted-returns-in_err-print_value-clause-seen t c =
    let p = err_from_is_err_and c.from_residual-in_err-print_value.result c.from_residual-in_err-print_value.ensures.1 in
    let l = c.loop-pair in
    let rs = c.as_slice-pair-items.result.now in
    let elements = drop 4 (bytes_of c.args.document) in
    let order = subst (ShowsInOrder c.args.keys elements) (sym c.as_slice-pair-items.ensures.value) c.in_ok-pairs.ensures.order in
    let within : l.pair-index < length rs = omega arith in
    rw (p.1, p.2) (unseen c.in_err-print_value.field-0.0 (value_left c.args.keys elements c.args.inner rs l.pair-index c.pair-item.result order within c.pair-item.is) c.in_err-print_value.ensures.seen)
