use Rattle.std.proofs.Common.{Ok, subst}
use Rattle.bson_base.specs.Device.{Feed}
use Rattle.cli_convert.specs.LineReader.{ReadsNext}
use Rattle.cli_convert.specs.declared.line_reader.Next.{Next}
use Rattle.cli_convert.proofs.TakeLemmas.{whole_taken}
use Rattle.cli_convert.proofs.taking.turn.Goals as goal

pub returns-in_ok-take_line-in-Ok-Whole-clause-taken : goal.returns-in_ok-take_line-in-Ok-Whole-clause-taken
returns-in_ok-take_line-in-Ok-Whole-clause-taken g c =
    let old : Feed = g.I.Source.feed c.args.input.now in
    let new : Feed = g.I.Source.feed c.read.new.source in
    let read = subst (λ (x : Next). ReadsNext (Ok x) c.args.room.now.lines c.read.new.self old new c.read.new.line) c.in-Ok-Whole.field-0-is c.in-Ok-Whole.ensures in
    whole_taken g.W.Take.takes c.args.room.now.lines c.read.new.self old new c.read.new.line c.args.index c.args.target.now c.take_line.new.target read c.in_ok-take_line-in-Ok-Whole.ensures.taken
