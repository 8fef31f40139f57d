use Rattle.std.proofs.Common.{◌≡◌, ℕ, ◌∷◌, [], ◌++◌, List, refl, ap, ◌∙◌}
use Rattle.bson_base.specs.Value.{document}
use Rattle.bson_bytes.specs.Encode.{members_bytes}
use Rattle.bson_raw.specs.View.{bytes_of}
use Rattle.store_question.specs.Filters.{path_of}
use Rattle.store_question.proofs.ProjectionLemmas.{body_inside, framed_now}
use Rattle.store_question.proofs.MemberLemmas.{document_back, pairs_back}
use Rattle.store_question.proofs.projection.project.Goals as goal
use Rattle.store_model.specs.State.{only}

pub returns : goal.returns
returns c = λ d clean sound is.
    let back = pairs_back (document d) (document_back d (bytes_of c.args.document) c.args.document.envelope clean sound is) in
    let inside = body_inside c.as_bytes-bytes.result.now (members_bytes d) (c.as_bytes-bytes.ensures ∙ is) in
    let body = members_bytes (only (path_of c.args.keys.now) d) in
    let copied = c.in_ok-copy_listed.ensures.listed d inside back in
    let begun = c.in_ok-out.ensures.items in
    let pushed = c.in_ok-push.ensures.items in
    let whole : c.push.new.self.items ≡ [] ++ ((0 ∷ 0 ∷ 0 ∷ 0 ∷ []) ++ (body ++ 0 ∷ [])) = pushed ∙ ap (λ (x : List ℕ). x ++ 0 ∷ []) (copied ∙ ap (λ (x : List ℕ). x ++ body) begun) in
    framed_now body c.put_length.new.out.items (c.in-Ok.ensures.ok [] (0 ∷ 0 ∷ 0 ∷ 0 ∷ []) (body ++ 0 ∷ []) whole refl refl)
