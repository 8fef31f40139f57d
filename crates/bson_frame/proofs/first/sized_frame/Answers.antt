use Rattle.bson_frame.specs.View.{element_of}
use Rattle.bson_frame.proofs.first.sized_frame.Goals as goal

pub returns-in-Ok : goal.returns-in-Ok
returns-in-Ok c = (c.in-Ok.ensures, c.payload_by_itself.ensures c.args.bytes.now (element_of c.in-Ok.frame) c.in-Ok.frame.rest.now c.in-Ok.ensures)
