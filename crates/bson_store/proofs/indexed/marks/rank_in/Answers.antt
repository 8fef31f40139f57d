use Rattle.std.proofs.Common.{◌∙◌, Option, w64, subst, rules}
use Rattle.std.proofs.lemmas.Int.{to_z-of_z}
use Rattle.bson_base.specs.Value.{document}
use Rattle.bson_raw.specs.View.{bytes_of}
use Rattle.bson_raw.specs.declared.bson_ref.RawBsonRef.{RawBsonRef}
use Rattle.store_question.specs.Filters.{path_of}
use Rattle.store_question.specs.Views.{Finds}
use Rattle.store_model.specs.Filter.{at}
use Rattle.bson_store.proofs.MarkLemmas.{none_ranked, ranked_found}
use Rattle.bson_store.proofs.indexed.marks.rank_in.Goals as goal

pub returns-in-Some : goal.returns-in-Some
returns-in-Some c d clean sound is =
    let path = path_of c.args.path.now in
    let found = subst (λ (o : Option RawBsonRef). Finds o (at (document d) path)) c.in-Some.is (c.look_up.ensures.found d clean sound is) in
    ranked_found c.in-Some.found d (bytes_of c.args.document) path c.rank_of.result _ clean sound is c.args.document.envelope found c.rank_of.ensures (λ v spells. to_z-of_z w64 c.part_of.result (search rules) ∙ c.part_of.ensures v spells)

pub returns-in-None : goal.returns-in-None
returns-in-None c d clean sound is =
    let path = path_of c.args.path.now in
    none_ranked d path (subst (λ (o : Option RawBsonRef). Finds o (at (document d) path)) c.in-None.is (c.look_up.ensures.found d clean sound is))
