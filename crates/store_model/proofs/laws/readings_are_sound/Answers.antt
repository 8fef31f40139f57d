use Rattle.store_model.proofs.ReadingLemmas.{bytes_read, tree_read, value_read, stream_read, trees_read}
use Rattle.store_model.proofs.laws.readings_are_sound.Goals as goal

pub returns : goal.returns
returns c = record { bytes = bytes_read; tree = tree_read; value = value_read; stream = stream_read; trees = trees_read }
