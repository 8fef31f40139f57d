use Rattle.std.proofs.Common.{◌≡◌, true, Err, subst, sym}
use Rattle.bson_meaning.specs.JsonReserved.{has_reserved}
use Rattle.bson_model.specs.View.{content}
use Rattle.cli_convert.specs.Printed.{PrintsDocument}
use Rattle.cli_convert.proofs.ReadLemmas.{no_memory, same_read}
use Rattle.cli_convert.proofs.printed.fault_of.Goals as goal

pub returns-in-Ok : goal.returns-in-Ok
returns-in-Ok c = λ d kept is reserved m text.
    let same = same_read d c.args.body.now kept is (content c.in-Ok.document) c.in-Ok.ensures in
    subst (λ ms. PrintsDocument m ms text (Err c.fault_of_document.result)) same
    (c.fault_of_document.ensures m text (subst (λ ms. has_reserved ms ≡ true) (sym same) reserved))

pub returns-in-Err : goal.returns-in-Err
returns-in-Err c = λ d kept is reserved m text.
    subst (λ e. PrintsDocument m d text (Err e)) (sym (no_memory d c.args.body.now kept is c.in-Err.fault c.in-Err.ensures)) tt
