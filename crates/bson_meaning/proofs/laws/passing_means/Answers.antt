use Rattle.std.proofs.Common.{refl}
use Rattle.bson_bytes.specs.Spells.{settle}
use Rattle.bson_meaning.proofs.RefusalLemmas.{passing_low}
use Rattle.bson_meaning.proofs.laws.passing_means.Goals as goal

pub returns : goal.returns
returns c = record { some = λ bytes h. (settle h.2.0, (h.2.0, h.1, h.2.1, refl)); low = passing_low }
