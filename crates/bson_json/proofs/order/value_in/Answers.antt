use Rattle.bson_meaning.proofs.ViewLemmas.{no_payload_fault, payload_shown}
use Rattle.bson_raw.proofs.ConversionLemmas.{spelled}
use Rattle.bson_raw.specs.Raw.{ref_value}
use Rattle.bson_raw.specs.View.{parts_of}
use Rattle.bson_json.proofs.order.value_in.Goals as goal

pub returns-in-Ok-clause-shown : goal.returns-in-Ok-clause-shown
returns-in-Ok-clause-shown c = λ v kind spelled.
    payload_shown (parts_of c.args.element.now).payload (parts_of c.args.element.now).tag c.in-Ok.value v c.payload_of_an_element.ensures c.in-Ok.ensures kind spelled

pub returns-in-Err-clause-fault : goal.returns-in-Err-clause-fault
returns-in-Err-clause-fault c = λ v kind spelled. no_payload_fault (parts_of c.args.element.now) v c.in-Err.field-0 kind spelled c.in-Err.ensures

pub returns-in-Ok-clause-spelled : goal.returns-in-Ok-clause-spelled
returns-in-Ok-clause-spelled c = λ v shown.
    let e = parts_of c.args.element.now in
    let is = c.in-Ok.ensures in
    spelled e.tag e.payload (ref_value c.in-Ok.value) v is.kind is.holds is.faultless shown
