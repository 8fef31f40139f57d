use Rattle.std.proofs.Common.{◌∙◌, sym, ap, ◌++◌, ◌==◌}
use Rattle.cli_convert.specs.Terminal.{at_terminal}
use Rattle.cli_convert.specs.Writing.{begun}
use Rattle.cli_convert.proofs.WritingLemmas.{after_control, after_delete, after_first, after_other}
use Rattle.cli_convert.proofs.waiting.Waiting.of.Goals as goal

pub returns-then-ends_control : goal.returns-then-ends_control
returns-then-ends_control c = λ rest.
    ap (λ t. t ++ at_terminal (begun (c.args.byte == 194) ++ rest)) c.control.ensures
    ∙ after_control c.args.is_begun c.args.byte rest (sym c.ends_control.ensures ∙ c.if-ends_control.true)

pub returns-then-byte-eq-DELETE : goal.returns-then-byte-eq-DELETE
returns-then-byte-eq-DELETE c = λ rest.
    ap (λ t. t ++ at_terminal (begun (c.args.byte == 194) ++ rest)) c.control-then-byte-eq-DELETE.ensures
    ∙ after_delete c.args.is_begun c.args.byte rest c.if-byte-eq-DELETE.true

pub returns-then-byte-eq-FIRST : goal.returns-then-byte-eq-FIRST
returns-then-byte-eq-FIRST c = λ rest.
    ap (λ t. t ++ at_terminal (begun (c.args.byte == 194) ++ rest)) c.begun.ensures
    ∙ after_first c.args.is_begun c.args.byte rest c.if-byte-eq-FIRST.true

pub returns-else-byte-eq-FIRST : goal.returns-else-byte-eq-FIRST
returns-else-byte-eq-FIRST c = λ rest.
    ap (λ t. t ++ at_terminal (begun (c.args.byte == 194) ++ rest)) c.plain.ensures
    ∙ after_other c.args.is_begun c.args.byte rest (sym c.ends_control.ensures ∙ c.if-ends_control.false) c.if-byte-eq-DELETE.false c.if-byte-eq-FIRST.false
