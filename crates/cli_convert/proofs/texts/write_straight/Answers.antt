use Rattle.std.proofs.Common.{string_bytes}
use Rattle.cli_convert.proofs.ToLinesLemmas.{straight}
use Rattle.cli_convert.proofs.texts.write_straight.Goals as goal

pub returns-in-Ok-true : goal.returns-in-Ok-true
returns-in-Ok-true c = λ is.
    straight c.args.mode c.args.bytes.now (string_bytes c.write_settled.new.text) (c.is_envelope.ensures.0 c.if-not-is_envelope.false) (c.in-Ok-true.ensures.settled c.in-Ok-true.field-0-test) c.in-Ok-true.ensures.text

pub returns-in-Ok-false : goal.returns-in-Ok-false
returns-in-Ok-false c = λ is.
    let s = c.is_written_form.ensures.spelled is in
    straight c.args.mode c.args.bytes.now (string_bytes c.write_settled.new.text) (c.is_envelope.ensures.0 c.if-not-is_envelope.false) (s.0, s.1, c.is_written_form.ensures.settled is s.0 s.1) c.in-Ok-false.ensures.text
