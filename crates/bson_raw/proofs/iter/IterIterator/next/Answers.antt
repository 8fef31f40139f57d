use Rattle.std.proofs.Common.{Some, Ok, Err}
use Rattle.bson_raw.specs.View.{left_of}
use Rattle.bson_raw.proofs.RunLemmas.{element_read}
use Rattle.bson_raw.proofs.iter.IterIterator.next.Goals as goal

pub returns-in-Ok-value-clause-steps : goal.returns-in-Ok-value-clause-steps
returns-in-Ok-value-clause-steps c =
    let step = rw c.in-Ok.is at c.in_ok-element.ensures.steps in
    (Some (Ok c.in-Ok.element), step, (c.key.ensures, element_read (left_of c.args.self.now.raw) (left_of c.next.new.self) c.in-Ok.element (Ok c.in-Ok-value.value) step c.in-Ok-value.ensures))

pub returns-in-Err-value-clause-steps : goal.returns-in-Err-value-clause-steps
returns-in-Err-value-clause-steps c =
    let step = rw c.in-Ok.is at c.in_ok-element.ensures.steps in
    (Some (Ok c.in-Ok.element), step, element_read (left_of c.args.self.now.raw) (left_of c.next.new.self) c.in-Ok.element (Err c.in-Err-value.e) step c.in-Err-value.ensures)
