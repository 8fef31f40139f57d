use Rattle.std.proofs.Common.{rules, ◌≡◌, ◌↔◌, ◌∙◌, ◌++◌, ◌∷◌, [], IsTrue, true, false, ℕ, List, Some, None, String, is_some, drop, refl, sym, ap, subst, arith}
use Rattle.std.specs.Prelude.{option_and_then}
use Rattle.std.proofs.lemmas.Int.{to_z-of_z}
use mir.Syntax.{w64}
use mir.Val.{SFits}
use Rattle.std.specs.declared.alloc.Global.{Global}
use Rattle.bson_base.specs.Value.{Value}
use Rattle.bson_raw.specs.View.{bytes_of, left_of, parts_of}
use Rattle.bson_raw.specs.Walk.{steps_from}
use Rattle.std.specs.Str.{bytes_eq}
use Rattle.store_question.specs.Filters.{path_of}
use Rattle.store_question.specs.Views.{Encodes}
use Rattle.store_model.specs.Filter.{under_places}
use Rattle.store_question.specs.declared.question.Question.{Question, the_lemmas}
use Rattle.store_question.specs.Asked.{Asked, at, whole, has_item, no, leaves, begins, begins_so, text_in, Answers, AtMember, AtPlace, Along, Through}
use Rattle.store_question.specs.Reads.{Form, at_form, whole_form, item_form, not_form, remainder_form, begins_form, matches_form, Found, HasPattern, Reads, Tells, form_of}
use Rattle.regex.specs.Strings.{regex_pattern}
use Rattle.regex.specs.declared.string.regex.Regex.{Regex}
use Rattle.store_question.specs.Patterns.{IsReadFrom, matches_so}
use Rattle.store_question.proofs.AskLemmas.{answered, all_broken, all_on, all_end, all_refused, some_found, some_on, some_end, some_refused, not_told, has_items, end_item, end_itself, end_whole, is_document, no_document, member_document, member_array, member_other, place_document, place_array, place_other, into_it, through_here}
use Rattle.store_question.proofs.WalkLemmas.{any_start, any_here, any_passed, any_fault, any_end, any_refused}
use Rattle.bson_base.proofs.MemberLemmas.{found_levels}
use Rattle.store_question.specs.Lacking.{NamedOnce}
use Rattle.store_question.proofs.MemberLemmas.{found_back}
use Rattle.store_question.proofs.OnceLemmas.{by_none, by_place}
use Rattle.store_question.proofs.TellLemmas.{left_by, matched, one_has, over, told}
use Rattle.store_question.proofs.answer.+asking.Goals as goal

pub any_item-returns-in-Some : goal.any_item-returns-in-Some
any_item-returns-in-Some t c =
    λ a r o s. let h = c.in-Some.ensures o s in
    told _ _ _ c.any_member.result (λ b. has_items b (λ v. Answers a (Some v)) o h.0 h.1) (c.any_member.ensures a r (under_places 0 h.0) h.2 h.3 h.4)

pub any_member-loop-item-init : goal.any_member-loop-item-init
any_member-loop-item-init t c =
    let from = ap left_of c.into_iter-item-iterator.ensures.into_iter_gives ∙ c.iter_elements-item-items.ensures.start in
    (λ a r ms is back low. any_start (λ k v. Answers a (Some v)) (bytes_of c.args.items) ms (left_of c.into_iter-item-iterator.result) is from back low, tt, tt)

pub any_member-returns-in_default : goal.any_member-returns-in_default
any_member-returns-in_default t c =
    let step = subst (λ i. steps_from (left_of c.loop-item.item-iterator) (Some i) (left_of c.next.new.self)) c.in_default.is c.in-Some.ensures.steps in
    λ a r ms is back low. absurd (any_fault (λ k v. Answers a (Some v)) ms (left_of c.loop-item.item-iterator) (left_of c.next.new.self) c.in_default.field-0 step (c.loop-item.invariant.0 a r ms is back low))

pub any_member-returns-then-held : goal.any_member-returns-then-held
any_member-returns-then-held t c =
    let step = subst (λ i. steps_from (left_of c.loop-item.item-iterator) (Some i) (left_of c.next.new.self)) c.in-Ok.is c.in-Some.ensures.steps in
    λ a r ms is back low. any_here (λ k v. Answers a (Some v)) ms (left_of c.loop-item.item-iterator) (left_of c.next.new.self) c.in-Ok.element step (c.loop-item.invariant.0 a r ms is back low) c.in_ok-held.held (c.in_ok-held.ensures a r) c.if-held.true

pub any_member-loop-item-preserved : goal.any_member-loop-item-preserved
any_member-loop-item-preserved t c =
    let step = subst (λ i. steps_from (left_of c.loop-item.item-iterator) (Some i) (left_of c.next.new.self)) c.in-Ok.is c.in-Some.ensures.steps in
    (λ a r ms is back low. any_passed (λ k v. Answers a (Some v)) ms (left_of c.loop-item.item-iterator) (left_of c.next.new.self) c.in-Ok.element step (c.loop-item.invariant.0 a r ms is back low) c.in_ok-held.held (c.in_ok-held.ensures a r) c.if-held.false, tt, tt)

pub any_member-returns : goal.any_member-returns
any_member-returns t c =
    λ a r ms is back low. any_end (λ k v. Answers a (Some v)) ms (left_of c.loop-item.item-iterator) (left_of c.next.new.self) c.in-None.ensures.steps (c.loop-item.invariant.0 a r ms is back low)

pub through-loop-item-init : goal.through-loop-item-init
through-loop-item-init t c =
    let from = ap left_of c.into_iter-item-iterator.ensures.into_iter_gives ∙ c.iter_elements-item-items.ensures.start in
    (λ a r ms is back low. any_start (Through c.args.opens (Answers a) c.args.key.now (AtMember c.args.opens (Answers a) (path_of c.args.rest.now)) (AtPlace c.args.opens (Answers a) (path_of c.args.rest.now))) (bytes_of c.args.items) ms (left_of c.into_iter-item-iterator.result) is from back low, tt, tt)

pub through-returns-in_default : goal.through-returns-in_default
through-returns-in_default t c =
    let step = subst (λ i. steps_from (left_of c.loop-item.item-iterator) (Some i) (left_of c.next.new.self)) c.in_default.is c.in-Some.ensures.steps in
    λ a r ms is back low. absurd (any_fault (Through c.args.opens (Answers a) c.args.key.now (AtMember c.args.opens (Answers a) (path_of c.args.rest.now)) (AtPlace c.args.opens (Answers a) (path_of c.args.rest.now))) ms (left_of c.loop-item.item-iterator) (left_of c.next.new.self) c.in_default.field-0 step (c.loop-item.invariant.0 a r ms is back low))

pub through-returns-then-held : goal.through-returns-then-held
through-returns-then-held t c =
    let step = subst (λ i. steps_from (left_of c.loop-item.item-iterator) (Some i) (left_of c.next.new.self)) c.in-Ok.is c.in-Some.ensures.steps in
    λ a r ms is back low. any_here (Through c.args.opens (Answers a) c.args.key.now (AtMember c.args.opens (Answers a) (path_of c.args.rest.now)) (AtPlace c.args.opens (Answers a) (path_of c.args.rest.now))) ms (left_of c.loop-item.item-iterator) (left_of c.next.new.self) c.in-Ok.element step (c.loop-item.invariant.0 a r ms is back low) c.in_ok-held.held (c.in_ok-held.ensures a r) c.if-held.true

pub through-loop-item-preserved : goal.through-loop-item-preserved
through-loop-item-preserved t c =
    let step = subst (λ i. steps_from (left_of c.loop-item.item-iterator) (Some i) (left_of c.next.new.self)) c.in-Ok.is c.in-Some.ensures.steps in
    (λ a r ms is back low. any_passed (Through c.args.opens (Answers a) c.args.key.now (AtMember c.args.opens (Answers a) (path_of c.args.rest.now)) (AtPlace c.args.opens (Answers a) (path_of c.args.rest.now))) ms (left_of c.loop-item.item-iterator) (left_of c.next.new.self) c.in-Ok.element step (c.loop-item.invariant.0 a r ms is back low) c.in_ok-held.held (c.in_ok-held.ensures a r) c.if-held.false, tt, tt)

pub through-returns : goal.through-returns
through-returns t c =
    λ a r ms is back low. any_end (Through c.args.opens (Answers a) c.args.key.now (AtMember c.args.opens (Answers a) (path_of c.args.rest.now)) (AtPlace c.args.opens (Answers a) (path_of c.args.rest.now))) ms (left_of c.loop-item.item-iterator) (left_of c.next.new.self) c.in-None.ensures.steps (c.loop-item.invariant.0 a r ms is back low)

pub at_end-returns-then-held : goal.at_end-returns-then-held
at_end-returns-then-held t c =
    λ a r v f. end_item c.args.opens c.in_ok-held.held (Answers a) v c.if-not-opens.false (c.in_ok-held.ensures a r (Some v) (v, refl, f)) c.if-held.true

pub at_end-returns : goal.at_end-returns
at_end-returns t c =
    λ a r v f. told _ _ _ c.fits-2.result (λ b h. end_itself c.args.opens c.in_ok-held.held b (Answers a) v (c.in_ok-held.ensures a r (Some v) (v, refl, f)) c.if-held.false h) (c.fits-2.ensures a r (Some v) (v, refl, f))

pub at_member-returns-then-is_some : goal.at_member-returns-then-is_some
at_member-returns-then-is_some t c =
    λ a r v f.
    let d = is_document c.args.value v c.is_some.result (c.is_some.ensures ∙ ap is_some c.as_document.ensures) c.if-is_some.true f.encodes in
    told _ _ _ c.under.result (λ b. member_document c.args.opens (Answers a) b c.args.path.now c.in-Some.key.now c.in-Some.rest.now c.as_str.result.now v c.in-Some.ensures.cases.0 c.as_str.ensures.value d.0 d.1) (c.under.ensures a r v f)

pub at_member-returns-in-Some-items_in : goal.at_member-returns-in-Some-items_in
at_member-returns-in-Some-items_in t c =
    λ a r v f.
    let h = c.in-Some-items_in.ensures (Some v) (v, refl, f) in
    told _ _ _ c.into_items.result (λ b. member_array c.args.opens (Answers a) b c.args.path.now c.in-Some.key.now c.in-Some.rest.now c.as_str-in-Some-items_in.result.now v c.in-Some.ensures.cases.0 c.as_str-in-Some-items_in.ensures.value h.0 h.1) (c.into_items.ensures a r (under_places 0 h.0) h.2 h.3 h.4)

pub at_place-returns-then-is_some : goal.at_place-returns-then-is_some
at_place-returns-then-is_some t c =
    λ a r v f.
    let d = is_document c.args.value v c.is_some.result (c.is_some.ensures ∙ ap is_some c.as_document.ensures) c.if-is_some.true f.encodes in
    told _ _ _ c.under_place.result (λ b. place_document c.args.opens (Answers a) b c.args.path.now c.in-Some.key.now c.in-Some.rest.now c.as_str.result.now v c.in-Some.ensures.cases.0 c.as_str.ensures.value d.0 d.1) (c.under_place.ensures a r v f)

pub at_place-returns-in-Some-items_in : goal.at_place-returns-in-Some-items_in
at_place-returns-in-Some-items_in t c =
    λ a r v f.
    let h = c.in-Some-items_in.ensures (Some v) (v, refl, f) in
    told _ _ _ c.into_items.result (λ b. place_array c.args.opens (Answers a) b c.args.path.now c.in-Some.key.now c.in-Some.rest.now c.as_str-in-Some-items_in.result.now v c.in-Some.ensures.cases.0 c.as_str-in-Some-items_in.ensures.value h.0 h.1) (c.into_items.ensures a r (under_places 0 h.0) h.2 h.3 h.4)

pub at_member-returns-in-None : goal.at_member-returns-in-None
at_member-returns-in-None t c =
    λ a r v f.
    let d = no_document c.args.value v c.is_some.result (c.is_some.ensures ∙ ap is_some c.as_document.ensures) c.if-is_some.false f.encodes in
    told _ _ _ c.fits.result (λ b. member_other c.args.opens (Answers a) b c.args.path.now c.in-Some.key.now c.in-Some.rest.now v c.in-Some.ensures.cases.0 d (c.in-None.ensures (Some v) (v, refl, f))) (c.fits.ensures a r None refl)

pub at_place-returns-in-None : goal.at_place-returns-in-None
at_place-returns-in-None t c =
    λ a r v f.
    let d = no_document c.args.value v c.is_some.result (c.is_some.ensures ∙ ap is_some c.as_document.ensures) c.if-is_some.false f.encodes in
    place_other c.args.opens (Answers a) c.args.path.now c.in-Some.key.now c.in-Some.rest.now v c.in-Some.ensures.cases.0 d (c.in-None.ensures (Some v) (v, refl, f))

pub fits-returns-in-At : goal.fits-returns-in-At
fits-returns-in-At t c =
    λ a r o s.
    let same : form_of c.args.question.now ≡ at_form (path_of c.in-At.path.items) (form_of c.in-At.inner.value) = rw c.in-At.is (search (rules, the_lemmas)) in
    let p = subst (λ (f : Form). Reads f a) same r in
    let inner = subst (λ (q : Question). Reads (form_of q) p.0) (sym c.deref.ensures) p.2 in
    over _ _ _ _ c.along.result (λ h. subst HasPattern (sym same) (subst (λ (q : Question). HasPattern (form_of q)) c.deref.ensures h))
    (λ b h. answered b a (at (path_of c.in-At.path.items) p.0) o p.1 (subst (λ (ps : List (String Global)). IsTrue b ↔ Along true (Answers p.0) (path_of ps) o) c.as_slice.ensures.value h))
    (c.along.ensures p.0 inner o s)

pub fits-returns-in-Whole : goal.fits-returns-in-Whole
fits-returns-in-Whole t c =
    λ a r o s.
    let same : form_of c.args.question.now ≡ whole_form (path_of c.in-Whole.path.items) (form_of c.in-Whole.inner.value) = rw c.in-Whole.is (search (rules, the_lemmas)) in
    let p = subst (λ (f : Form). Reads f a) same r in
    let inner = subst (λ (q : Question). Reads (form_of q) p.0) (sym c.deref-in-Whole.ensures) p.2 in
    over _ _ _ _ c.along-in-Whole.result (λ h. subst HasPattern (sym same) (subst (λ (q : Question). HasPattern (form_of q)) c.deref-in-Whole.ensures h))
    (λ b h. answered b a (whole (path_of c.in-Whole.path.items) p.0) o p.1 (subst (λ (ps : List (String Global)). IsTrue b ↔ Along false (Answers p.0) (path_of ps) o) c.as_slice-in-Whole.ensures.value h))
    (c.along-in-Whole.ensures p.0 inner o s)

pub fits-returns-in-Remainder : goal.fits-returns-in-Remainder
fits-returns-in-Remainder t c =
    λ a r o s.
    let same : form_of c.args.question.now ≡ remainder_form c.in-Remainder.divisor c.in-Remainder.remainder = rw c.in-Remainder.is (search (rules, the_lemmas)) in
    let p = subst (λ (f : Form). Reads f a) same r in
    let first : SFits w64 c.in-Remainder.divisor = search rules in
    let second : SFits w64 c.in-Remainder.remainder = search rules in
    let told = simp to_z-of_z at (c.leaves.ensures o s) in
    answered c.leaves.result a (leaves c.in-Remainder.divisor c.in-Remainder.remainder) o p (λ u. sym told ∙ u, λ u. told ∙ u)

pub fits-returns-in-Begins : goal.fits-returns-in-Begins
fits-returns-in-Begins t c =
    λ a r o s.
    let same : form_of c.args.question.now ≡ begins_form c.in-Begins.beginning.items = rw c.in-Begins.is (search (rules, the_lemmas)) in
    let p = subst (λ (f : Form). Reads f a) same r in
    let told = c.begins.ensures o s ∙ ap (λ (b : List ℕ). begins_so b (option_and_then text_in o)) c.as_slice-in-Begins.ensures.value in
    answered c.begins.result a (begins c.in-Begins.beginning.items) o p (λ u. sym told ∙ u, λ u. told ∙ u)

pub fits-returns-in-Item : goal.fits-returns-in-Item
fits-returns-in-Item t c =
    λ a r o s.
    let same : form_of c.args.question.now ≡ item_form (form_of c.in-Item.inner.value) = rw c.in-Item.is (search (rules, the_lemmas)) in
    let p = subst (λ (f : Form). Reads f a) same r in
    let inner = subst (λ (q : Question). Reads (form_of q) p.0) (sym c.deref-in-Item.ensures) p.2 in
    over _ _ _ _ c.any_item.result (λ h. subst HasPattern (sym same) (subst (λ (q : Question). HasPattern (form_of q)) c.deref-in-Item.ensures h))
    (λ b h. answered b a (has_item p.0) o p.1 h) (c.any_item.ensures p.0 inner o s)

pub fits-returns-in-Not : goal.fits-returns-in-Not
fits-returns-in-Not t c =
    λ a r o s.
    let same : form_of c.args.question.now ≡ not_form (form_of c.in-Not.inner.value) = rw c.in-Not.is (search (rules, the_lemmas)) in
    let p = subst (λ (f : Form). Reads f a) same r in
    let inner = subst (λ (q : Question). Reads (form_of q) p.0) (sym c.deref-in-Not.ensures) p.2 in
    over _ _ _ _ c.fits_not.result (λ h. subst HasPattern (sym same) (subst (λ (q : Question). HasPattern (form_of q)) c.deref-in-Not.ensures h))
    (λ b h. answered b a (no p.0) o p.1 h) (c.fits_not.ensures p.0 inner o s)

pub fits-returns-in-Matches : goal.fits-returns-in-Matches
fits-returns-in-Matches t c =
    λ a r o s.
    let same : form_of c.args.question.now ≡ matches_form (regex_pattern c.in-Matches.pattern.value) = rw c.in-Matches.is (search (rules, the_lemmas)) in
    let p = subst (λ (f : Form). Reads f a) same r in
    let read = subst (λ (x : Regex). IsReadFrom p.0 p.1 (regex_pattern x)) (sym c.deref-in-Matches.ensures) p.3 in
    subst (λ (x : Asked). Tells (HasPattern (form_of c.args.question.now)) c.matches.result (Answers x o)) (sym p.2)
    (matched _ c.matches.result (matches_so p.0 p.1 (option_and_then text_in o)) (subst HasPattern (sym same) tt) (c.matches.ensures p.0 p.1 read o s))

pub fits_all-returns-then-not-held : goal.fits_all-returns-then-not-held
fits_all-returns-then-not-held t c =
    λ ts r o s. all_broken ts o c.args.list.now c.loop-question.question-index c.question-item.result c.question-item.is c.loop-question-test.true (c.loop-question.invariant ts r o s) c.in_ok-held.held (λ a x. c.in_ok-held.ensures a x o s) c.if-not-held.true

pub fits_all-loop-question-preserved : goal.fits_all-loop-question-preserved
fits_all-loop-question-preserved t c =
    λ ts r o s. all_on ts o c.args.list.now c.loop-question.question-index c.question-item.result c.question-item.is c.loop-question-test.true (c.loop-question.invariant ts r o s) c.in_ok-held.held (λ a x. c.in_ok-held.ensures a x o s) c.if-not-held.false

pub fits_all-returns : goal.fits_all-returns
fits_all-returns t c =
    λ ts r o s. all_end ts o c.args.list.now c.loop-question.question-index c.loop-question-test.false (c.loop-question.invariant ts r o s)

pub fits_any-returns-then-held : goal.fits_any-returns-then-held
fits_any-returns-then-held t c =
    λ ts r o s. some_found ts o c.args.list.now c.loop-question.question-index c.question-item.result c.question-item.is c.loop-question-test.true (c.loop-question.invariant ts r o s) c.in_ok-held.held (λ a x. c.in_ok-held.ensures a x o s) c.if-held.true

pub fits_any-loop-question-preserved : goal.fits_any-loop-question-preserved
fits_any-loop-question-preserved t c =
    λ ts r o s. some_on ts o c.args.list.now c.loop-question.question-index c.question-item.result c.question-item.is c.loop-question-test.true (c.loop-question.invariant ts r o s) c.in_ok-held.held (λ a x. c.in_ok-held.ensures a x o s) c.if-held.false

pub fits_any-returns : goal.fits_any-returns
fits_any-returns t c =
    λ ts r o s. some_end ts o c.args.list.now c.loop-question.question-index c.loop-question-test.false (c.loop-question.invariant ts r o s)

pub into_document-returns-then-is_some : goal.into_document-returns-then-is_some
into_document-returns-then-is_some t c =
    λ a r v f.
    let d = is_document c.args.value v c.is_some.result (c.is_some.ensures ∙ ap is_some c.as_document.ensures) c.if-is_some.true f.encodes in
    told _ _ _ c.under_item.result (λ b. into_it c.args.opens (Answers a) b c.args.key.now (AtMember c.args.opens (Answers a) (path_of c.args.rest.now)) v d.0 d.1) (c.under_item.ensures a r v f)

pub any_member-returns-in_err-held : goal.any_member-returns-in_err-held
any_member-returns-in_err-held t c =
    let step = subst (λ i. steps_from (left_of c.loop-item.item-iterator) (Some i) (left_of c.next.new.self)) c.in-Ok.is c.in-Some.ensures.steps in
    λ a r ms is back low. left_by _ _ _ c.from_residual.result c.from_residual.ensures.1 (any_refused (λ k v. Answers a (Some v)) ms (left_of c.loop-item.item-iterator) (left_of c.next.new.self) c.in-Ok.element step (c.loop-item.invariant.0 a r ms is back low) (HasPattern (form_of c.args.question.now)) (c.in_err-held.ensures a r))

pub through-returns-in_err-held : goal.through-returns-in_err-held
through-returns-in_err-held t c =
    let step = subst (λ i. steps_from (left_of c.loop-item.item-iterator) (Some i) (left_of c.next.new.self)) c.in-Ok.is c.in-Some.ensures.steps in
    λ a r ms is back low. left_by _ _ _ c.from_residual.result c.from_residual.ensures.1 (any_refused (Through c.args.opens (Answers a) c.args.key.now (AtMember c.args.opens (Answers a) (path_of c.args.rest.now)) (AtPlace c.args.opens (Answers a) (path_of c.args.rest.now))) ms (left_of c.loop-item.item-iterator) (left_of c.next.new.self) c.in-Ok.element step (c.loop-item.invariant.0 a r ms is back low) (HasPattern (form_of c.args.question.now)) (c.in_err-held.ensures a r))

pub at_end-returns-in_err-held : goal.at_end-returns-in_err-held
at_end-returns-in_err-held t c = λ a r v f. left_by _ _ _ c.from_residual.result c.from_residual.ensures.1 (c.in_err-held.ensures a r (Some v) (v, refl, f))

pub at_end-returns-then-not-opens : goal.at_end-returns-then-not-opens
at_end-returns-then-not-opens t c = λ a r v f. told _ _ _ c.fits.result (λ b h. end_whole c.args.opens b (Answers a) v c.if-not-opens.true h) (c.fits.ensures a r (Some v) (v, refl, f))

pub fits_all-returns-in_err-held : goal.fits_all-returns-in_err-held
fits_all-returns-in_err-held t c =
    λ ts r o s. left_by _ _ _ c.from_residual.result c.from_residual.ensures.1
    (one_has c.args.list.now c.loop-question.question-index c.question-item.result c.question-item.is c.loop-question-test.true
    (all_refused ts o c.args.list.now c.loop-question.question-index c.question-item.result c.question-item.is c.loop-question-test.true (c.loop-question.invariant ts r o s) (HasPattern (form_of c.question-item.result)) (λ a x. c.in_err-held.ensures a x o s)))

pub fits_any-returns-in_err-held : goal.fits_any-returns-in_err-held
fits_any-returns-in_err-held t c =
    λ ts r o s. left_by _ _ _ c.from_residual.result c.from_residual.ensures.1
    (one_has c.args.list.now c.loop-question.question-index c.question-item.result c.question-item.is c.loop-question-test.true
    (some_refused ts o c.args.list.now c.loop-question.question-index c.question-item.result c.question-item.is c.loop-question-test.true (c.loop-question.invariant ts r o s) (HasPattern (form_of c.question-item.result)) (λ a x. c.in_err-held.ensures a x o s)))

pub fits_not-returns : goal.fits_not-returns
fits_not-returns t c = λ a r o s. not_told c.in_ok-held.held _ (Answers a o) refl (c.in_ok-held.ensures a r o s)

pub fits_not-returns-in_err-held : goal.fits_not-returns-in_err-held
fits_not-returns-in_err-held t c = λ a r o s. left_by _ _ _ c.from_residual.result c.from_residual.ensures.1 (c.in_err-held.ensures a r o s)

pub goes_through-returns-then-eq : goal.goes_through-returns-then-eq
goes_through-returns-then-eq t c =
    λ a r v written back low.
    let there = c.in-Some.ensures v written back in
    let same : v ≡ there.0 = cc in
    let found : Found c.in-Some.found v = record { encodes = subst (λ (x : Value). Encodes c.in-Some.found x) (sym same) there.2; back = back; low = low } in
    let named : bytes_eq (parts_of c.args.element.now).key c.args.key.now ≡ true = ap (λ (n : List ℕ). bytes_eq n c.args.key.now) (sym c.key.ensures) ∙ sym c.eq.ensures ∙ c.if-eq.true in
    told _ _ _ c.at_place.result
    (λ b. through_here c.args.opens (Answers a) c.args.key.now (AtMember c.args.opens (Answers a) (path_of c.args.rest.now)) (AtPlace c.args.opens (Answers a) (path_of c.args.rest.now)) (parts_of c.args.element.now).key v c.in_ok-held.held b (c.in_ok-held.ensures a r v found) c.if-held.false named)
    (c.at_place.ensures a r v found)

pub into_items-returns-in_err-held : goal.into_items-returns-in_err-held
into_items-returns-in_err-held t c =
    λ a r ms is back low.
    let there = c.in-Some.ensures ms is back in
    left_by _ _ _ c.from_residual.result c.from_residual.ensures.1 (c.in_err-held.ensures a r there.0 there.2 (found_back c.args.key.now ms there.0 back there.1) (let fits = found_levels c.args.key.now ms there.0 there.1 in omega arith))

pub into_items-returns-then-held : goal.into_items-returns-then-held
into_items-returns-then-held t c =
    λ a r ms is back low.
    let there = c.in-Some.ensures ms is back in
    let here = c.in_ok-held.ensures a r there.0 there.2 (found_back c.args.key.now ms there.0 back there.1) (let fits = found_levels c.args.key.now ms there.0 there.1 in omega arith) in
    by_place c.args.opens (Answers a) c.args.key.now (AtMember c.args.opens (Answers a) (path_of c.args.rest.now)) (AtPlace c.args.opens (Answers a) (path_of c.args.rest.now)) ms there.0 there.1 (here.0 c.if-held.true)

pub into_items-returns-in_err-absent : goal.into_items-returns-in_err-absent
into_items-returns-in_err-absent t c = λ a r ms is back low. left_by _ _ _ c.from_residual-in_err-absent.result c.from_residual-in_err-absent.ensures.1 (c.in_err-absent.ensures a r None refl)

pub into_items-returns-then-not-absent : goal.into_items-returns-then-not-absent
into_items-returns-then-not-absent t c =
    λ a r ms is back low.
    let there = c.in-Some.ensures ms is back in
    let here = c.in_ok-held.ensures a r there.0 there.2 (found_back c.args.key.now ms there.0 back there.1) (let fits = found_levels c.args.key.now ms there.0 there.1 in omega arith) in
    let silent : Answers a None → ⊥ = λ n. let yes = (c.in_ok-absent.ensures a r None refl).1 n in absurd cc in
    by_none c.args.opens (Answers a) silent c.args.key.now (AtMember c.args.opens (Answers a) (path_of c.args.rest.now)) (AtPlace c.args.opens (Answers a) (path_of c.args.rest.now)) (bytes_of c.args.items) ms there.0 is (subst (λ (l : List ℕ). NamedOnce (c.args.key.now ++ 0 ∷ []) (drop 4 l)) c.as_bytes.ensures (c.stands_once.ensures c.if-stands_once.true)) there.1
    (λ h. let yes = here.1 h in absurd cc)

pub under_place-returns-then-lacks_inside : goal.under_place-returns-then-lacks_inside
under_place-returns-then-lacks_inside t c = λ a r v f. (λ u. absurd cc, λ u. absurd (c.lacks_inside.ensures a r c.args.opens (c.args.key.now ∷ path_of c.args.rest.now) v f c.if-lacks_inside.true u))
