use Rattle.std.proofs.Common.{Option, subst}
use Rattle.bson_base.specs.Value.{document}
use Rattle.bson_raw.specs.declared.bson_ref.RawBsonRef.{RawBsonRef}
use Rattle.store_question.specs.Filters.{path_of}
use Rattle.store_question.specs.Views.{Finds}
use Rattle.store_model.specs.Filter.{at}
use Rattle.bson_store.proofs.MarkLemmas.{wide_found}
use Rattle.bson_store.proofs.indexed.marks.leads_to_wide.Goals as goal

pub returns-in-Some : goal.returns-in-Some
returns-in-Some c = λ d clean sound is.
    let path = path_of c.args.path.now in
    let found = subst (λ (o : Option RawBsonRef). Finds o (at (document d) path)) c.in-Some.is (c.look_up.ensures.found d clean sound is) in
    wide_found c.is_wide_kind.result c.in-Some.found d path c.element_type.result found c.element_type.ensures c.is_wide_kind.ensures
