use Rattle.std.proofs.Common.{string_bytes}
use Rattle.bson_meaning.specs.JsonReserved.{has_reserved}
use Rattle.cli_convert.proofs.ReadLemmas.{spelled}
use Rattle.bson_json.proofs.TextLemmas.{at_unseen}
use Rattle.cli_convert.proofs.StraightLemmas.{left, straight_at_top, whole}
use Rattle.cli_convert.proofs.printed.text_of_body.Goals as goal

pub returns-in-Ok : goal.returns-in-Ok
returns-in-Ok c = λ d kept is. c.in-Ok.ensures.text d (spelled d c.args.body.now kept is)

pub returns-in-Err-Unseen : goal.returns-in-Err-Unseen
returns-in-Err-Unseen c = λ d kept is.
    left (has_reserved d) (λ reserved. c.fault_of.ensures d kept is reserved c.args.mode (string_bytes c.write_raw.new.text))
    (λ free. at_unseen c.in-Err-Unseen.field-0 c.in-Err-Unseen.field-0-is c.in-Err-Unseen.ensures.seen (whole d c.args.body.now kept is) d (spelled d c.args.body.now kept is) (straight_at_top d c.args.body.now kept is c.args.mode free))
