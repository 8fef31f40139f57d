use Rattle.std.proofs.Common.{Bool, List, ℕ, Ok, Err, string_bytes, subst}
use Rattle.std.proofs.lemmas.Result.{err_from_is_err_and}
use Rattle.bson_base.specs.Device.{Feed, Tally}
use Rattle.cli_convert.specs.Reports.{SendsWhole}
use Rattle.cli_convert.specs.ToLines.{IsFreeLine, TakesBytes}
use Rattle.cli_convert.proofs.ToLinesLemmas.{line_sent, line_unsent}
use Rattle.cli_convert.proofs.documents.turn.Goals as goal

pub returns-in_err-send : goal.returns-in_err-send
returns-in_err-send g c =
    let old : Feed = g.I.Source.feed c.args.input.now in
    let new : Feed = g.I.Source.feed c.next_bytes.new.input in
    let before : Tally = g.O.Sink.tally c.args.output.now in
    let after : Tally = g.O.Sink.tally c.send.new.output in
    let bytes = c.next_bytes.new.room.items in
    let line = string_bytes c.write_line.new.text in
    let taken = subst (λ (b : Bool). TakesBytes c.args.index old new bytes (Ok b)) c.if-not-branch.false c.in_ok-next_bytes.ensures in
    let free = subst (λ (bs : List ℕ). IsFreeLine c.args.mode bs line) c.as_slice.ensures.value c.in_ok-write_line.ensures in
    let sends = subst (λ (t : List ℕ). SendsWhole t before after (Err c.in_err-send.field-0.0)) c.as_bytes.ensures.value c.in_err-send.ensures in
    let p = err_from_is_err_and c.from_residual-in_err-send.result c.from_residual-in_err-send.ensures.1 in
    rw (p.1, p.2) (line_unsent c.args.mode c.args.index old new before bytes taken.0 taken.1 line after c.in_err-send.field-0.0 free sends)

pub returns : goal.returns
returns g c =
    let old : Feed = g.I.Source.feed c.args.input.now in
    let new : Feed = g.I.Source.feed c.next_bytes.new.input in
    let before : Tally = g.O.Sink.tally c.args.output.now in
    let after : Tally = g.O.Sink.tally c.send.new.output in
    let bytes = c.next_bytes.new.room.items in
    let line = string_bytes c.write_line.new.text in
    let taken = subst (λ (b : Bool). TakesBytes c.args.index old new bytes (Ok b)) c.if-not-branch.false c.in_ok-next_bytes.ensures in
    let free = subst (λ (bs : List ℕ). IsFreeLine c.args.mode bs line) c.as_slice.ensures.value c.in_ok-write_line.ensures in
    let sent = subst (λ (t : List ℕ). SendsWhole t before after (Ok tt)) c.as_bytes.ensures.value c.in_ok-send.ensures in
    line_sent c.args.mode c.args.index old new before bytes taken.0 taken.1 line after free sent
