use Rattle.std.proofs.Common.{sym, ap, ◌∙◌}
use Rattle.bson_model.specs.View.{view, content, pairs_of}
use Rattle.bson_model.proofs.EqualLemmas.{look_up-members_of}
use Rattle.bson_base.specs.Answer.{result_map}
use Rattle.store_update.specs.Answer.{lent}
use Rattle.store_update.proofs.UpdateLemmas.{found_deeper}
use Rattle.store_update.proofs.update.+found.Goals as goal

pub returns-in-Some-as_document : goal.returns-in-Some-as_document
returns-in-Some-as_document n c =
    let d = c.in-Some-as_document.document.now in
    let k = c.as_str.result.now in
    found_deeper c.args.path.now c.in-Some.rest.now c.in-Some.key.now k c.in-Some.ensures.cases.0 c.as_str.ensures.value (lent c.args.value) (lent c.get.result) (view c.in-Some-value.value.now) (content d) (result_map lent c.found.result)
    (ap lent c.in-Some-value.is) c.in-Some-as_document.ensures (c.get.ensures ∙ sym (look_up-members_of k (pairs_of d))) c.found.ensures
