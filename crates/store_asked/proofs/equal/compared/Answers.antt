use Rattle.store_question.specs.Filters.{filter_of, path_of}
use Rattle.store_question.specs.Asked.{lies}
use Rattle.store_asked.proofs.AnswerFrontLemmas.{all_meet}
use Rattle.store_asked.proofs.equal.compared.Goals as goal

pub returns-in-Equal : goal.returns-in-Equal
returns-in-Equal c = rw c.in-Equal.is c.equal.ensures

pub returns-in_default : goal.returns-in_default
returns-in_default c = λ w s. all_meet (path_of c.args.path.now) (lies c.args.comparison w) (filter_of c.everything.result) c.everything.ensures
