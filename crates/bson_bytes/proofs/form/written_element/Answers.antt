use Rattle.std.proofs.Common.{drop, subst}
use Rattle.bson_frame.specs.View.{element_of}
use Rattle.bson_bytes.specs.Written.{IsFirstUnder}
use Rattle.bson_bytes.proofs.TurnLemmas.{under}
use Rattle.bson_bytes.proofs.ValueLemmas.{all_behind}
use Rattle.bson_bytes.proofs.form.written_element.Goals as goal

pub returns-then-is_written_alone : goal.returns-then-is_written_alone
returns-then-is_written_alone c ms h =
    let k = c.args.key.now in
    let bytes = c.args.bytes.now in
    let e = element_of c.in_ok-frame.frame in
    under k (drop 4 bytes) e (subst (λ b. IsFirstUnder k b e) (all_behind bytes) c.in_ok-frame.ensures.0) (c.is_written_alone.ensures c.if-is_written_alone.true) ms h
