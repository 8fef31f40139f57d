use Rattle.std.specs.Option.{option_map}
use Rattle.std.proofs.Common.{string_bytes, sym, ap, ◌∙◌}
use Rattle.std.proofs.lemmas.Result.{IfOk-weaker, on_ok_weaker, on_err_weaker}
use Rattle.bson_model.specs.View.{view}
use Rattle.bson_pairs.proofs.KeyedLemmas.{over, get-over, put-over}
use Rattle.bson_model.proofs.document.Document.insert.Goals as goal

pub returns-clause-before : goal.returns-clause-before
returns-clause-before c = IfOk-weaker c.insert.result _ _ (λ b e. ap (option_map view) e ∙ sym (get-over view (string_bytes c.args.key) c.args.self.now.pairs)) c.insert.ensures.before

pub returns-clause-ok : goal.returns-clause-ok
returns-clause-ok c = on_ok_weaker c.insert.result (λ e. ap (over view) e ∙ sym (put-over view (string_bytes c.args.key) c.args.value c.args.self.now.pairs)) c.insert.ensures.ok

pub returns-clause-absent : goal.returns-clause-absent
returns-clause-absent c = on_err_weaker c.insert.result (λ e. get-over view (string_bytes c.args.key) c.args.self.now.pairs ∙ ap (option_map view) e) c.insert.ensures.absent
