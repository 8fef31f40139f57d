use Rattle.std.proofs.Common.{length, arith}
use Rattle.bson_frame.proofs.NameLemmas.{no_pattern, no_options}
use Rattle.bson_raw.proofs.decode.regex.Goals as goal

pub returns-in-Err : goal.returns-in-Err
returns-in-Err c = λ size. (no_pattern c.args.payload.now c.in-Err.kind c.in-Err.ensures).0 (length c.args.payload.now) size (omega arith)

pub returns-in-Err-name_at : goal.returns-in-Err-name_at
returns-in-Err-name_at c =
    let named = c.in-Ok.ensures in
    λ size. (no_options c.args.payload.now c.in-Ok.parts.0.now c.in-Ok.parts.1.now c.in-Err-name_at.kind named.0 named.1 c.in-Err-name_at.ensures).0 (length c.args.payload.now) size (omega arith)
