use Rattle.bson_frame.specs.Frame.{Element}
use Rattle.bson_bytes.specs.Written.{IsFirstUnder}
use Rattle.bson_bytes.proofs.elements.first_under.Given as goal

abbrev pub invariant-loop : goal.invariant-loop
invariant-loop l = (e : Element) → IsFirstUnder l.key l.rest e → IsFirstUnder l.key l.elements e
