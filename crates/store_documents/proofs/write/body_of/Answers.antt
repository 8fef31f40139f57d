use Rattle.std.proofs.Common.{inl, inr, refl, ap, arith, length}
use Rattle.bson_model.specs.View.{pairs_of, members_of}
use Rattle.bson_bytes.proofs.LengthLemmas.{encode_length}
use Rattle.store_documents.proofs.write.body_of.Goals as goal

pub returns-then-len-gt-SIZE_LIMIT : goal.returns-then-len-gt-SIZE_LIMIT
returns-then-len-gt-SIZE_LIMIT c =
    let plain = c.is_plain_document.ensures.0 c.if-not-is_plain_document.false in
    inr (inl (refl, plain, omega (arith, c.if-len-gt-SIZE_LIMIT.true, c.len.ensures, ap length c.in_ok-bytes.ensures, encode_length (members_of (pairs_of c.args.document.now)))))

pub returns : goal.returns
returns c =
    let plain = c.is_plain_document.ensures.0 c.if-not-is_plain_document.false in
    (c.in_ok-bytes.ensures, plain, omega (arith, c.if-len-gt-SIZE_LIMIT.false, c.len.ensures, ap length c.in_ok-bytes.ensures, encode_length (members_of (pairs_of c.args.document.now))))
