use Rattle.std.proofs.Common.{◌≡◌, ◌∙◌, ◌∷◌, [], List, ap, length, nat_lt, sym, subst, true}
use Rattle.std.specs.Prelude.{slice_index_or}
use Rattle.std.proofs.lemmas.Bool.{true≢false}
use Rattle.store_pipeline.specs.declared.sorted.keys.SortKey.{SortKey}
use Rattle.bson_base.specs.Value.{Members}
use Rattle.bson_store.specs.Fronts.{LiesIn, LiesInAll}
use Rattle.store_question.specs.Filters.{path_of}
use Rattle.store_question.specs.Reads.{form_of}
use Rattle.store_asked.proofs.NearLemmas.{ends_of}
use Rattle.store_asked.proofs.nearing.near_end.Goals as goal

pub returns-clause-ends : goal.returns-clause-ends
returns-clause-ends g c =
    let r = c.in_ok-range.range.now in
    let k = c.in_ok-key.key.now in
    let among : (d : Members) → LiesInAll c.ranges_in_front-ranges.result.items d → LiesIn r d = λ d all. c.in_ok-range.ensures.among d (subst (λ rs. LiesInAll rs d) (sym c.as_slice.ensures.value) all) in
    let here : path_of r.path.items ≡ path_of k.path.items = c.in_ok-range.ensures.path ∙ ap path_of c.as_slice-2.ensures.value in
    ends_of (form_of c.args.question.now) c.ranges_in_front-ranges.result.items r c.in-Ok.range k _ c.ranges_in_front-ranges.ensures among here c.in-Ok.ensures.path c.in-Ok.ensures.rank c.in-Ok.ensures.low c.in-Ok.ensures.high

first_key : (l : List SortKey) (k : SortKey) → true ≡ nat_lt 0 (length l) → k ≡ slice_index_or l 0 k → (more : List SortKey) × (l ≡ k ∷ more)
first_key [] k some is = absurd (true≢false some)
first_key (x ∷ more) k some is = (more, ap (λ y. y ∷ more) (sym is))

pub returns-clause-key : goal.returns-clause-key
returns-clause-key g c = subst (λ l. (more : List SortKey) × (l ≡ c.in_ok-key.key.now ∷ more)) c.deref.ensures.value (first_key c.deref.result.now c.in_ok-key.key.now c.in_ok-key.ensures.item.0 c.in_ok-key.ensures.item.1)
