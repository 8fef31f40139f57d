use Rattle.bson_bytes.proofs.MeaningLemmas.{meaning_is_clean, meaning_is_sound}
use Rattle.bson_bytes.proofs.laws.meanings.Goals as goal

pub returns : goal.returns
returns c = record { clean = meaning_is_clean; sound = meaning_is_sound }
