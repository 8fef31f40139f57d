use Rattle.std.proofs.Common.{◌≡◌, map, arith, rules}
use Rattle.bson_bytes.specs.Encode.{items_bytes, frame_of}
use Rattle.bson_bytes.proofs.LengthLemmas.{items_length}
use Rattle.bson_bytes.proofs.WrittenLemmas.{written_envelope}
use Rattle.bson_model.specs.View.{view, items_of}
use Rattle.bson_bytes.proofs.write.encode_items.Goals as goal

pub returns-clause-envelope : goal.returns-clause-envelope
returns-clause-envelope c =
    let tree = items_of (map view c.args.items.now) in
    let is : c.write_items.new.out.items ≡ frame_of (items_bytes 0 tree) = search (rules, c.in_ok-write_items.ensures.ok) in
    written_envelope c.write_items.new.out.items (items_bytes 0 tree) is (omega (arith, items_length 0 tree, c.in_ok-write_items.ensures.fits.1))
