use Rattle.std.proofs.Common.{◌≡◌, arith, rules}
use Rattle.bson_bytes.specs.Encode.{members_bytes, encode}
use Rattle.bson_bytes.proofs.LengthLemmas.{members_length}
use Rattle.bson_bytes.proofs.WrittenLemmas.{written_envelope}
use Rattle.bson_model.specs.View.{pairs_of, members_of}
use Rattle.bson_bytes.proofs.write.encode_document.Goals as goal

pub returns-clause-envelope : goal.returns-clause-envelope
returns-clause-envelope c =
    let tree = members_of (pairs_of c.args.document.now) in
    let is : c.write_document.new.out.items ≡ encode tree = search (rules, c.in_ok-write_document.ensures.ok) in
    written_envelope c.write_document.new.out.items (members_bytes tree) is (omega (arith, members_length tree, c.in_ok-write_document.ensures.fits.1))
