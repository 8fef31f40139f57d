use Rattle.std.proofs.Common.{inl, inr, refl}
use Rattle.sqlite_wal.proofs.StateLemmas.{StaysOrFails-trans}
use Rattle.fallowtime_front.proofs.WriteLemmas.{committed, not_placed}
use Rattle.fallowtime_front.proofs.writes.add.Goals as goal

pub returns-in-Ok-clause-commits : goal.returns-in-Ok-clause-commits
returns-in-Ok-clause-commits g c clean first docs serves none =
    let made = c.in-Ok.ensures.done (c.settle.ensures.stays.clean clean) first docs serves none in
    committed first c.args.writer.now c.append.new.self c.settle.new.writer c.settle.result docs _ c.append.ensures.keeps (c.settle.ensures.done clean first _ made) (λ all. c.settle.ensures.crash first docs _ all made) c.settle.ensures.faults

pub returns-in-Ok-clause-room : goal.returns-in-Ok-clause-room
returns-in-Ok-clause-room g c clean first docs serves = inl (c.in-Ok.ensures.room (c.settle.ensures.stays.clean clean) first docs serves, c.settle.ensures.faults)

pub returns-in-Ok-clause-stays : goal.returns-in-Ok-clause-stays
returns-in-Ok-clause-stays g c = StaysOrFails-trans _ _ _ c.append.ensures.keeps.stays c.settle.ensures.stays

pub returns-in-Err-Places-clause-commits : goal.returns-in-Err-Places-clause-commits
returns-in-Err-Places-clause-commits g c clean first docs serves none = not_placed first c.args.writer.now c.append.new.self docs _ c.append.ensures.keeps

pub returns-in-Err-Places-clause-room : goal.returns-in-Err-Places-clause-room
returns-in-Err-Places-clause-room g c clean first docs serves = inr (refl, λ room. c.in-Err-Places.ensures.full clean first docs serves c.in-Err-Places.field-0-is room)
