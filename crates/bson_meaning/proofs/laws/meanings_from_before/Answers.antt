use Rattle.bson_meaning.proofs.BeforeLemmas.{same_now, key_now}
use Rattle.bson_meaning.proofs.laws.meanings_from_before.Goals as goal

pub returns : goal.returns
returns c = record { same = same_now; keys = key_now }
