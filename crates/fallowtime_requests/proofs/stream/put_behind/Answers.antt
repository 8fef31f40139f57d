use Rattle.std.proofs.lemmas.Result.{err_from_is_err_and}
use Rattle.json.specs.Value.{value_view}
use Rattle.fallowtime_requests.proofs.StreamLemmas.{unread}
use Rattle.fallowtime_requests.proofs.stream.put_behind.Goals as goal

pub returns-in_err-document : goal.returns-in_err-document
returns-in_err-document c =
    let p = err_from_is_err_and c.from_residual.result c.from_residual.ensures.1 in
    rw (p.1, p.2) (unread c.args.maker.now c.args.maker.now c.args.index (value_view c.args.tree.now) c.args.stream.now.items c.args.stream.now.items c.in_err-document.field-0.0 c.in_err-document.ensures)
