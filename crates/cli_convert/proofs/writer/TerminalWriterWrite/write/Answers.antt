use Rattle.std.proofs.Common.{◌++◌, ◌∙◌, ap, sym, arith}
use Rattle.std.proofs.lemmas.Result.{err_from_is_err_and}
use Rattle.cli_convert.specs.Terminal.{at_terminal}
use Rattle.cli_convert.specs.Writing.{begun}
use Rattle.cli_convert.proofs.WritingLemmas.{first_taken, front_taken, more_kept, next_kept, part_kept, plain_taken}
use Rattle.cli_convert.proofs.writer.TerminalWriterWrite.write.Goals as goal
use Rattle.cli_convert.proofs.writer.TerminalWriterWrite.write.Goals.{then-self, else-self}

pub returns-in_err-write_to-clause-err : goal.returns-in_err-write_to-clause-err
returns-in_err-write_to-clause-err g c =
    let p = err_from_is_err_and c.from_residual.result c.from_residual.ensures.1 in
    rw p.1 (λ rest. more_kept _ _ _ _ _ c.write_to.ensures.bytes)

pub returns-then-plain-gt0-clause-ok : goal.returns-then-plain-gt0-clause-ok
returns-then-plain-gt0-clause-ok g c =
    elim c.if-self.branch [
      | then-self w ↦ absurd (omega (arith, w.plain-is, c.if-plain-gt0.true))
      | else-self w ↦ front_taken _ _ c.write_some.result c.args.buf.now c.if-self.plain _ c.write_some.ensures.bound c.write_some.ensures.bytes
          (λ n below fits given rest. part_kept _ _ _ _ _ _ _ _ c.write_to.ensures.bytes c.in_ok-write_to.ensures.all given
          (plain_taken c.args.self.now.is_begun n w.plain_len-plain.result c.args.buf.now rest w.if-self.false w.plain_len-plain.ensures.plain
          (omega (arith, below, w.plain-is)) fits))
    ]

pub returns-in-Some-clause-ok : goal.returns-in-Some-clause-ok
returns-in-Some-clause-ok g c = λ rest.
    next_kept _ _ _ _ _ _ c.write_to.ensures.bytes c.in_ok-write_to.ensures.all
    (c.of-self.ensures rest ∙ sym (ap (λ t. at_terminal (begun c.args.self.now.is_begun ++ (t ++ rest))) (first_taken c.args.buf.now c.in-Some.byte.now c.in-Some.ensures.value)))
