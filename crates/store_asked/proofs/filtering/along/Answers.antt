use Rattle.std.proofs.Common.{◌≡◌, ap, ◌∙◌}
use Rattle.store_question.specs.Filters.{filter_of, path_of}
use Rattle.store_question.specs.declared.filter.Filter.{Filter, Or}
use Rattle.store_model.specs.Filter.{any_of}
use Rattle.store_question.specs.Asked.{Asked, at, whole}
use Rattle.store_question.specs.Reads.{Reads, form_of}
use Rattle.store_asked.specs.Front.{Passes, either}
use Rattle.store_asked.proofs.AnswerFrontLemmas.{opened_passes, weaker, whole_passes}
use Rattle.store_asked.proofs.FilterLemmas.{or_is}
use Rattle.store_asked.proofs.filtering.along.Goals as goal

pub returns-clause-opened : goal.returns-clause-opened
returns-clause-opened c =
    let path = path_of c.args.path.now in
    let here = c.in_ok-here.here in
    let arrays = c.in_ok-arrays.arrays in
    weaker (λ (f : Filter). filter_of f ≡ either (filter_of here) (filter_of (Or arrays))) (λ (f : Filter). (t : Asked) → Reads (form_of c.args.inner.now) t → Passes (at path t) (filter_of f)) c.either.result
    (λ f e t r. opened_passes path t (filter_of here) (filter_of (Or arrays)) (filter_of f) (c.in_ok-here.ensures t r) (or_is arrays ∙ ap any_of c.in_ok-arrays.ensures) e) c.either.ensures

pub returns-clause-taken_whole : goal.returns-clause-taken_whole
returns-clause-taken_whole c =
    let path = path_of c.args.path.now in
    let here = c.in_ok-here.here in
    let arrays = c.in_ok-arrays.arrays in
    weaker (λ (f : Filter). filter_of f ≡ either (filter_of here) (filter_of (Or arrays))) (λ (f : Filter). (t : Asked) → Reads (form_of c.args.inner.now) t → Passes (whole path t) (filter_of f)) c.either.result
    (λ f e t r. whole_passes path t (filter_of here) (filter_of (Or arrays)) (filter_of f) (c.in_ok-here.ensures t r) (or_is arrays ∙ ap any_of c.in_ok-arrays.ensures) e) c.either.ensures
