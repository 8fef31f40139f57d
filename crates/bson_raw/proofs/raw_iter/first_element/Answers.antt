use Rattle.bson_frame.specs.View.{element_of}
use Rattle.bson_raw.proofs.raw_iter.first_element.Goals as goal

pub invariant_of-result : goal.invariant_of-result
invariant_of-result c = record { sized = ∣ c.payload_by_itself.ensures _ (element_of c.in-Ok.frame) _ c.in-Ok.ensures ∣₁ }
