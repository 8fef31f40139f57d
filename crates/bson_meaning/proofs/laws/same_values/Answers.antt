use Rattle.bson_meaning.proofs.PlainLemmas.{plain_on, one_member_same}
use Rattle.bson_meaning.proofs.laws.same_values.Goals as goal

pub returns : goal.returns
returns c = record { plain = plain_on; under = one_member_same }
