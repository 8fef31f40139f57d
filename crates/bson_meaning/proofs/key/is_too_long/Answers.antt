use Rattle.bson_model.specs.View.{pairs_of, members_of}
use Rattle.bson_meaning.specs.declared.scalars.Zeros.TheVariants.{Joined}
use Rattle.bson_meaning.proofs.NormalLemmas.{long_alike}
use Rattle.bson_meaning.proofs.key.is_too_long.Goals as goal

pub returns-clause-long : goal.returns-clause-long
returns-clause-long c = λ zeros. long_alike Joined zeros (members_of (pairs_of c.args.document.now)) c.normal_length.result c.normal_length.ensures.length
