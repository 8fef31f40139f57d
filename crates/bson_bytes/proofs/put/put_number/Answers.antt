use Rattle.bson_bytes.specs.Encode.{le32}
use Rattle.bson_bytes.proofs.PlaceLemmas.{four_set}
use Rattle.bson_bytes.proofs.put.put_number.Goals as goal

pub returns : goal.returns
unfolding le32
returns c = λ before middle after e len four. rw (c.to_le_bytes.ensures, e) (four_set before middle after c.args.at _ _ _ _ len four)
