use Rattle.bson_base.specs.Value.{member, no_members}
use Rattle.bson_model.specs.View.{view}
use Rattle.bson_meaning.specs.declared.scalars.Zeros.TheVariants.{Joined}
use Rattle.bson_meaning.proofs.NormalLemmas.{long_alike}
use Rattle.bson_meaning.proofs.key.is_element_too_long.Goals as goal

pub returns-clause-long : goal.returns-clause-long
returns-clause-long c = λ zeros. long_alike Joined zeros (member c.args.name.now (view c.args.value.now) no_members) c.normal_length_of_element.result c.normal_length_of_element.ensures.length
