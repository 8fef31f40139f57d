use Rattle.bson_model.proofs.JsonGrammarLemmas.{grammar, members_grammar}
use Rattle.bson_model.proofs.laws.grammar.reading_is_the_grammar.Goals as goal

pub returns : goal.returns
returns c = record { values = grammar; members = members_grammar }
