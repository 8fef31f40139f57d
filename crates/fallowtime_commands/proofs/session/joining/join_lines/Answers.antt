use Rattle.std.proofs.Common.{rules, ◌≡◌, []}
use Rattle.std.proofs.lemmas.Result.{err_from_is_err_and}
use Rattle.fallowtime_commands.proofs.JoinLemmas.{one_more, stopped}
use Rattle.fallowtime_commands.proofs.session.joining.join_lines.Goals as goal

pub returns-in_err-take_line : goal.returns-in_err-take_line
returns-in_err-take_line c =
    let l = c.loop-before in
    let p = err_from_is_err_and c.from_residual-in_err-take_line.result c.from_residual-in_err-take_line.ensures.1 in
    rw (p.1, p.2) (
    stopped c.args.input.now l.rest.now c.first_line.result.0.now c.first_line.result.1.now l.joined c.take_line.new.joined l.before c.in_err-take_line.field-0.0 l.invariant c.first_line.ensures c.in_err-take_line.ensures
    )

pub loop-before-preserved : goal.loop-before-preserved
loop-before-preserved c =
    let l = c.loop-before in
    let some : l.rest.now ≡ [] → ⊥ = search rules in
    one_more c.args.input.now l.rest.now c.first_line.result.0.now c.first_line.result.1.now l.joined c.take_line.new.joined l.before l.invariant some c.first_line.ensures c.in_ok-take_line.ensures
