use Rattle.bson_bytes.proofs.ApartLemmas.{written_frame}
use Rattle.bson_bytes.proofs.laws.written_frames.Goals as goal

pub returns : goal.returns
returns c = written_frame
