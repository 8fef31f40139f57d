use Rattle.bson_meaning.proofs.JsonSoundLemmas.{value_sound, document_sound, kept_clean, kept_sound}
use Rattle.bson_meaning.proofs.json_laws.readings_are_sound.Goals as goal

pub returns : goal.returns
returns c = record {
  value = value_sound;
  top = document_sound;
  kept = λ js d h r p. let s = document_sound js d h r in (kept_clean d p s, kept_sound d s);
}
