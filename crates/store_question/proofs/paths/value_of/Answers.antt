use Rattle.std.proofs.Common.{refl}
use Rattle.bson_raw.specs.View.{parts_of}
use Rattle.store_question.proofs.ViewLemmas.{encoded, faultless}
use Rattle.store_question.proofs.paths.value_of.Goals as goal

pub returns-in-Ok-clause-written : goal.returns-in-Ok-clause-written
returns-in-Ok-clause-written c = λ v w b. (v, refl, encoded (parts_of c.args.element.now) c.in-Ok.value v c.payload_of_an_element.ensures c.in-Ok.ensures w b)

pub returns-in-Err-clause-written : goal.returns-in-Err-clause-written
returns-in-Err-clause-written c = λ v w b. absurd (faultless (parts_of c.args.element.now) v c.in-Err.field-0 w b c.in-Err.ensures)
