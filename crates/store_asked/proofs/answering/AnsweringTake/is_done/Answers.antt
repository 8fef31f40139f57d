use Rattle.std.proofs.Common.{◌++◌}
use Rattle.store_asked.proofs.AnswerLemmas.{keeping, keeps_both}
use Rattle.store_asked.proofs.answering.AnsweringTake.is_done.Goals as goal

pub returns : goal.returns
returns g c done first out more kept h = (
  h.0,
  λ q reads.
      let k = h.1 q reads in
      let s = keeping q more kept in
      (k.0 ++ s.out, keeps_both q out more k.0 s.out k.1 s.keeps, c.is_done.ensures done first.taker k.0 s.out s.kept k.2),
)
