use Rattle.std.proofs.lemmas.Result.{err_from_is_err_and}
use Rattle.cli_convert.specs.declared.id_lines.Taking.{Taking}
use Rattle.cli_convert.proofs.AddLemmas.{read_so, stopped_so}
use Rattle.cli_convert.proofs.id_lines.read_lines.Goals as goal

pub returns-in_err-take_lines : goal.returns-in_err-take_lines
returns-in_err-take_lines g c =
    let first : Taking = record { taken = record { stream = c.new.result; lines = c.new-2.result }; maker = c.copy.result } in
    let p = err_from_is_err_and c.from_residual.result c.from_residual.ensures.1 in
    rw (p.1, p.2)
    (stopped_so c.args.maker.now (g.I.Source.feed c.args.input.now) (g.I.Source.feed c.take_lines.new.input) first c.take_lines.new.target (c.new.ensures.items, c.new-2.ensures.items, c.copy.ensures) c.in_err-take_lines.field-0.0 c.in_err-take_lines.ensures)

pub returns : goal.returns
returns g c =
    let first : Taking = record { taken = record { stream = c.new.result; lines = c.new-2.result }; maker = c.copy.result } in
    read_so c.args.maker.now (g.I.Source.feed c.args.input.now) (g.I.Source.feed c.take_lines.new.input) first c.take_lines.new.target (c.new.ensures.items, c.new-2.ensures.items, c.copy.ensures) c.in_ok-take_lines.ensures
