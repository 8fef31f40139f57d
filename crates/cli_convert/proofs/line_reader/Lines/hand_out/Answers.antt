use Rattle.std.proofs.Common.{◌-◌, take, drop}
use Rattle.cli_convert.proofs.CutLemmas.{before_unbroken, all_unbroken, all_between, cut_between}
use Rattle.cli_convert.proofs.line_reader.Lines.hand_out.Goals as goal

pub returns-in-Some-clause-piece : goal.returns-in-Some-clause-piece
returns-in-Some-clause-piece c =
    let self = c.args.self.now in
    let n = c.in-Some.length in
    let shown = c.deref.result.now in
    let rest = take (self.until - self.at) (drop self.at shown) in
    (take n rest, before_unbroken rest n c.in-Some.ensures, cut_between shown self.chunk.items self.at self.until n c.deref.ensures.value c.in-Some.ensures, c.take.ensures)

pub returns-in-None-clause-piece : goal.returns-in-None-clause-piece
returns-in-None-clause-piece c =
    let self = c.args.self.now in
    let shown = c.deref.result.now in
    let rest = take (self.until - self.at) (drop self.at shown) in
    (rest, all_unbroken rest c.in-None.ensures, all_between shown self.chunk.items self.at self.until c.deref.ensures.value, c.take-in-None.ensures)
