use Rattle.bson_bytes.proofs.ApartLemmas.{bytes_tell}
use Rattle.bson_bytes.proofs.laws.bytes_tell.Goals as goal

pub returns : goal.returns
returns c = bytes_tell
