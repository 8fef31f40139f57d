use Rattle.std.proofs.Common.{None, refl, true}
use Rattle.bson_base.specs.Value.{document}
use Rattle.store_question.specs.Filters.{path_of}
use Rattle.store_pipeline.proofs.BodyLemmas.{document_found}
use Rattle.store_pipeline.proofs.SortedLedLemmas.{null_shown, value_shown}
use Rattle.store_pipeline.proofs.sorted.values.sort_value.Goals as goal
use Rattle.store_pipeline.specs.Order.{best, led_to}

pub returns-in-Some : goal.returns-in-Some
returns-in-Some c = λ d is. value_shown c.in-Some.value (best c.args.descending None (led_to true (path_of c.args.path.now) (document d))) (c.in-Some.ensures (document d) (document_found c.args.document d is) None refl)

pub returns-in-None : goal.returns-in-None
returns-in-None c = λ d is. null_shown (best c.args.descending None (led_to true (path_of c.args.path.now) (document d))) (c.in-None.ensures (document d) (document_found c.args.document d is) None refl)
