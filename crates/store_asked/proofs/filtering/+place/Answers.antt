use Rattle.std.proofs.Common.{◌≡◌, map, sym, subst}
use Rattle.bson_base.specs.Value.{Value}
use Rattle.bson_raw.specs.Convert.{SpellsRawValue}
use Rattle.bson_raw.specs.Raw.{RawValue, ref_value}
use Rattle.store_question.specs.Filters.{filter_of, path_of}
use Rattle.store_question.specs.declared.filter.Filter.{Filter, And, Or}
use Rattle.store_model.specs.Filter.{exists, is_of}
use Rattle.store_question.specs.Asked.{Asked, lies}
use Rattle.store_question.specs.Reads.{Reads, form_of}
use Rattle.store_asked.specs.Front.{Meets}
use Rattle.store_asked.proofs.AnswerFrontLemmas.{all_meet, all_meets, any_meets, begun, compare_meets, done, exists_meets, gone_on, kind_meets, weaker}
use Rattle.store_asked.proofs.FilterLemmas.{and_is, or_is}
use Rattle.store_asked.proofs.filtering.+place.Goals as goal

pub at_place-returns-in-Compare : goal.at_place-returns-in-Compare
at_place-returns-in-Compare t c =
    let path = path_of c.args.path.now in
    let comparison = c.in-Compare.comparison in
    let value = c.in-Compare.value in
    weaker (λ (f : Filter). (w : Value) → SpellsRawValue (ref_value c.as_raw_bson_ref.result) w → Meets path (lies comparison w) (filter_of f)) (λ (f : Filter). (t : Asked) → Reads (form_of c.args.question.now) t → Meets path t (filter_of f)) c.compared.result
    (λ f h. compare_meets c.args.question.now comparison value path (filter_of f) c.in-Compare.is (λ w s. h w (subst (λ (x : RawValue). SpellsRawValue x w) (sym c.as_raw_bson_ref.ensures) s))) c.compared.ensures

pub at_place-returns-in-Kind : goal.at_place-returns-in-Kind
at_place-returns-in-Kind t c =
    weaker (λ (f : Filter). filter_of f ≡ is_of (path_of c.args.path.now) c.in-Kind.kind) (λ (f : Filter). (t : Asked) → Reads (form_of c.args.question.now) t → Meets (path_of c.args.path.now) t (filter_of f)) c.of_kind.result
    (λ f h. kind_meets c.args.question.now c.in-Kind.kind (path_of c.args.path.now) (filter_of f) c.in-Kind.is h) c.of_kind.ensures

pub at_place-returns-in-Exists : goal.at_place-returns-in-Exists
at_place-returns-in-Exists t c =
    weaker (λ (f : Filter). filter_of f ≡ exists (path_of c.args.path.now)) (λ (f : Filter). (t : Asked) → Reads (form_of c.args.question.now) t → Meets (path_of c.args.path.now) t (filter_of f)) c.there.result
    (λ f h. exists_meets c.args.question.now (path_of c.args.path.now) (filter_of f) c.in-Exists.is h) c.there.ensures

pub at_place-returns-in_ok-filters-in-All : goal.at_place-returns-in_ok-filters-in-All
at_place-returns-in_ok-filters-in-All t c =
    all_meets c.args.question.now c.in-All.list c.as_slice.result.now (map filter_of c.in_ok-filters-in-All.filters.items) (filter_of (And c.in_ok-filters-in-All.filters)) c.as_slice.ensures.value (path_of c.args.path.now) c.in-All.is (and_is c.in_ok-filters-in-All.filters) c.in_ok-filters-in-All.ensures

pub at_place-returns-in_ok-filters-in-Any : goal.at_place-returns-in_ok-filters-in-Any
at_place-returns-in_ok-filters-in-Any t c =
    any_meets c.args.question.now c.in-Any.list c.as_slice-in-Any.result.now (map filter_of c.in_ok-filters-in-Any.filters.items) (filter_of (Or c.in_ok-filters-in-Any.filters)) c.as_slice-in-Any.ensures.value (path_of c.args.path.now) c.in-Any.is (or_is c.in_ok-filters-in-Any.filters) c.in_ok-filters-in-Any.ensures

pub at_place-returns-in_default : goal.at_place-returns-in_default
at_place-returns-in_default t c = λ t r. all_meet (path_of c.args.path.now) t (filter_of c.everything.result) c.everything.ensures

pub each_at-loop-question-init : goal.each_at-loop-question-init
each_at-loop-question-init t c = begun (Meets (path_of c.args.path.now)) c.args.list.now c.new-filters.result.items c.new-filters.ensures.items

pub each_at-loop-question-preserved : goal.each_at-loop-question-preserved
each_at-loop-question-preserved t c =
    gone_on (Meets (path_of c.args.path.now)) c.args.list.now c.loop-question.filters.items c.push.new.self.items c.in_ok-filter.filter c.loop-question.question-index c.question-item.result c.question-item.is c.loop-question-test.true c.in_ok-push.ensures.items c.loop-question.invariant c.in_ok-filter.ensures

pub each_at-returns : goal.each_at-returns
each_at-returns t c = done (Meets (path_of c.args.path.now)) c.args.list.now c.loop-question.filters.items c.loop-question.question-index c.loop-question-test.false c.loop-question.invariant
