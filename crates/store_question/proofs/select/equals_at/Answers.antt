use Rattle.std.proofs.Common.{Option, subst}
use Rattle.bson_base.specs.Value.{document}
use Rattle.bson_model.specs.View.{view}
use Rattle.bson_raw.specs.declared.bson_ref.RawBsonRef.{RawBsonRef}
use Rattle.bson_raw.specs.View.{bytes_of}
use Rattle.store_question.specs.Filters.{path_of}
use Rattle.store_question.specs.Views.{Finds}
use Rattle.store_question.proofs.MemberLemmas.{document_back}
use Rattle.store_question.proofs.SelectLemmas.{means_same}
use Rattle.store_question.proofs.select.equals_at.Goals as goal
use Rattle.store_model.specs.Filter.{at}

pub returns-in-Some : goal.returns-in-Some
returns-in-Some c = λ d clean sound is.
    let path = path_of c.args.path.now in
    let found = subst (λ (o : Option RawBsonRef). Finds o (at (document d) path)) c.in-Some.is (c.look_up.ensures.found d clean sound is) in
    means_same c.same_as_raw.result c.in-Some.found (document d) (view c.args.value.now) path (document_back d (bytes_of c.args.document) c.args.document.envelope clean sound is) found c.same_as_raw.ensures
