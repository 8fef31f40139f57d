use Rattle.std.proofs.Common.{map}
use Rattle.store_question.specs.Filters.{filter_of, path_of}
use Rattle.store_question.specs.declared.filter.Filter.{Filter, And, Or}
use Rattle.store_question.specs.Asked.{Asked, at, whole}
use Rattle.store_question.specs.Reads.{Reads, form_of}
use Rattle.store_asked.specs.Front.{Passes}
use Rattle.store_asked.proofs.AnswerFrontLemmas.{all_front, all_pass, any_front, at_front, begun, done, gone_on, weaker, whole_front}
use Rattle.store_asked.proofs.FilterLemmas.{and_is, or_is}
use Rattle.store_asked.proofs.filtering.+front.Goals as goal

pub prefilter-returns-in-At : goal.prefilter-returns-in-At
prefilter-returns-in-At t c =
    weaker (λ (f : Filter). (t : Asked) → Reads (form_of c.deref.result.now) t → Passes (at (path_of c.as_slice.result.now) t) (filter_of f)) (λ (f : Filter). (t : Asked) → Reads (form_of c.args.question.now) t → Passes t (filter_of f)) c.along.result
    (λ f h. at_front c.args.question.now c.in-At.path c.in-At.inner c.as_slice.result.now c.deref.result.now (filter_of f) c.in-At.is c.as_slice.ensures.value c.deref.ensures h) c.along.ensures.opened

pub prefilter-returns-in-Whole : goal.prefilter-returns-in-Whole
prefilter-returns-in-Whole t c =
    weaker (λ (f : Filter). (t : Asked) → Reads (form_of c.deref-in-Whole.result.now) t → Passes (whole (path_of c.as_slice-in-Whole.result.now) t) (filter_of f)) (λ (f : Filter). (t : Asked) → Reads (form_of c.args.question.now) t → Passes t (filter_of f)) c.along-in-Whole.result
    (λ f h. whole_front c.args.question.now c.in-Whole.path c.in-Whole.inner c.as_slice-in-Whole.result.now c.deref-in-Whole.result.now (filter_of f) c.in-Whole.is c.as_slice-in-Whole.ensures.value c.deref-in-Whole.ensures h) c.along-in-Whole.ensures.taken_whole

pub prefilter-returns-in_ok-filters-in-All : goal.prefilter-returns-in_ok-filters-in-All
prefilter-returns-in_ok-filters-in-All t c =
    all_front c.args.question.now c.in-All.list c.as_slice-in-All.result.now (map filter_of c.in_ok-filters-in-All.filters.items) (filter_of (And c.in_ok-filters-in-All.filters)) c.as_slice-in-All.ensures.value c.in-All.is (and_is c.in_ok-filters-in-All.filters) c.in_ok-filters-in-All.ensures

pub prefilter-returns-in_ok-filters-in-Any : goal.prefilter-returns-in_ok-filters-in-Any
prefilter-returns-in_ok-filters-in-Any t c =
    any_front c.args.question.now c.in-Any.list c.as_slice-in-Any.result.now (map filter_of c.in_ok-filters-in-Any.filters.items) (filter_of (Or c.in_ok-filters-in-Any.filters)) c.as_slice-in-Any.ensures.value c.in-Any.is (or_is c.in_ok-filters-in-Any.filters) c.in_ok-filters-in-Any.ensures

pub prefilter-returns-in_default : goal.prefilter-returns-in_default
prefilter-returns-in_default t c = λ t r. all_pass t (filter_of c.everything.result) c.everything.ensures

pub each-loop-question-init : goal.each-loop-question-init
each-loop-question-init t c = begun Passes c.args.list.now c.new-filters.result.items c.new-filters.ensures.items

pub each-loop-question-preserved : goal.each-loop-question-preserved
each-loop-question-preserved t c =
    gone_on Passes c.args.list.now c.loop-question.filters.items c.push.new.self.items c.in_ok-filter.filter c.loop-question.question-index c.question-item.result c.question-item.is c.loop-question-test.true c.in_ok-push.ensures.items c.loop-question.invariant c.in_ok-filter.ensures

pub each-returns : goal.each-returns
each-returns t c = done Passes c.args.list.now c.loop-question.filters.items c.loop-question.question-index c.loop-question-test.false c.loop-question.invariant
