use Rattle.std.proofs.Common.{ap, ◌∙◌}
use Rattle.std.proofs.lemmas.Result.{on_ok_weaker, on_err_weaker}
use Rattle.bson_pairs.proofs.KeyedLemmas.{over}
use Rattle.bson_model.specs.View.{view}
use Rattle.bson_model.proofs.ExtendLemmas.{put_all-over, puts_some, puts_up_to_new}
use Rattle.bson_model.proofs.document.Document.extend.Goals as goal

pub returns-clause-ok : goal.returns-clause-ok
returns-clause-ok c = on_ok_weaker c.extend.result (λ e. ap (over view) e ∙ put_all-over c.args.pairs.items c.args.self.now.pairs) c.extend.ensures.ok

pub returns-clause-err : goal.returns-clause-err
returns-clause-err c = on_err_weaker c.extend.result (puts_some c.args.pairs.items c.args.self.now.pairs c.extend.new.self) c.extend.ensures.err

pub returns-clause-absent : goal.returns-clause-absent
returns-clause-absent c = on_err_weaker c.extend.result (puts_up_to_new c.args.pairs.items c.args.self.now.pairs c.extend.new.self) c.extend.ensures.err
