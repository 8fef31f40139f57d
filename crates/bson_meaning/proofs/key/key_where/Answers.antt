use Rattle.bson_model.specs.View.{pairs_of, members_of}
use Rattle.bson_meaning.proofs.KeyResultLemmas.{with_zero, too_long, written}
use Rattle.bson_raw.proofs.ProgressLemmas.{untrue}
use Rattle.bson_meaning.proofs.key.key_where.Goals as goal

pub returns-then-not-has_plain_members : goal.returns-then-not-has_plain_members
returns-then-not-has_plain_members c =
    with_zero c.args.zeros (members_of (pairs_of c.args.document.now)) (λ p. untrue c.has_plain_members.result c.if-not-has_plain_members.true (c.has_plain_members.ensures.1 p))

pub returns-then-is_too_long : goal.returns-then-is_too_long
returns-then-is_too_long c =
    let d = members_of (pairs_of c.args.document.now) in
    let plain = c.has_plain_members.ensures.0 c.if-not-has_plain_members.false in
    too_long c.args.zeros d plain c.is_too_long.ensures.sound ((c.is_too_long.ensures.long c.args.zeros).0 c.if-is_too_long.true)

pub returns : goal.returns
returns c =
    let d = members_of (pairs_of c.args.document.now) in
    let plain = c.has_plain_members.ensures.0 c.if-not-has_plain_members.false in
    let w = c.written.ensures in
    written c.args.zeros d c.written.result plain c.is_too_long.ensures.sound (λ h. untrue c.is_too_long.result c.if-is_too_long.false ((c.is_too_long.ensures.long c.args.zeros).1 h)) w.bytes w.fits w.never_not_plain w.too_long
