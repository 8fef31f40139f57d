use Rattle.std.proofs.Common.{◌≡◌, ◌∙◌, ◌++◌, List, ℕ, length, refl, ap, arith}
use Rattle.bson_base.specs.Value.{document}
use Rattle.bson_bytes.specs.Encode.{encode, members_bytes}
use Rattle.bson_raw.specs.View.{bytes_of}
use Rattle.store_pipeline.proofs.InsideLemmas.{between}
use Rattle.store_pipeline.proofs.TreeLemmas.{left_body}
use Rattle.store_pipeline.proofs.sorted.projection.project.Goals as goal
use Rattle.store_pipeline.specs.Fields.{fields}
use Rattle.store_pipeline.specs.Views.{paths_lent, paths_of}
use Rattle.store_question.proofs.MemberLemmas.{pairs_back}
use Rattle.store_question.proofs.ProjectionLemmas.{body_inside}
use Rattle.store_model.specs.Filter.{Path}

pub returns-clause-few : goal.returns-clause-few
returns-clause-few c =
    let grown = c.in_ok-copy_framed.ensures.few in
    let more = grown.more in
    let few = grown.few in
    let long = ap length (grown.is ∙ ap (λ (x : List ℕ). x ++ more) c.new-out.ensures.items) in
    let some = c.args.document.envelope.some in
    let same = ap length c.as_bytes-bytes.ensures in
    omega (arith, long, few, same, between c.as_bytes-bytes.result.now (omega (arith, some, same)))

pub returns-clause-left : goal.returns-clause-left
returns-clause-left c = λ d body.
    let kept = c.args.fields.now.kept in
    let lent = paths_lent c.deref.result.now in
    let paths = paths_of c.args.fields.now.paths.items in
    let same : lent ≡ paths = ap paths_lent c.deref.ensures.value ∙ c.in_ok-paths.ensures ∙ ap paths_of c.as_slice.ensures.value in
    let inside = body_inside c.as_bytes-bytes.result.now (members_bytes d) (c.as_bytes-bytes.ensures ∙ body.written) in
    let low = body.low in
    let copied = c.in_ok-copy_framed.ensures.told (document d) (record { kind = refl; written = inside; back = pairs_back (document d) body.back; low = omega (arith, low) }) in
    let begun = c.new-out.ensures.items in
    let out = c.copy_framed.new.out.items in
    let is : out ≡ encode (fields kept paths d) = copied ∙ ap (λ (x : List ℕ). x ++ encode (fields kept lent d)) begun ∙ ap (λ (ps : List Path). encode (fields kept ps d)) same in
    left_body kept paths d (bytes_of c.args.document) out body is (returns-clause-few c)
