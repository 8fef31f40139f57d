use Rattle.std.proofs.Common.{refl, subst, sym}
use Rattle.fallowtime_front.specs.Ending.{TellsEnd, request_text}
use Rattle.fallowtime_front.proofs.EndingLemmas.{told}
use Rattle.fallowtime_front.proofs.ending.tell.Goals as goal

pub returns-in-Line : goal.returns-in-Line
returns-in-Line g c =
    let tally = g.F.Sink.tally in
    subst (λ e. TellsEnd e (tally c.args.faults.now) (tally c.tell_line-in-Line.new.faults) 2) (sym c.in-Line.is)
    (refl, told c.line_of_place.result (request_text c.in-Line.number c.in-Line.place) (tally c.args.faults.now) (tally c.tell_line-in-Line.new.faults) c.line_of_place.ensures c.tell_line-in-Line.ensures.line c.tell_line-in-Line.ensures.memory)
