use Rattle.std.proofs.Common.{List, ℕ, Option, Ok, subst}
use Rattle.std.proofs.lemmas.Result.{err_from_is_err_and}
use Rattle.bson_base.specs.Device.{Feed}
use Rattle.bson_message.specs.Taking.{ReadsHead}
use Rattle.bson_message.proofs.TakingLemmas.{rest_taken, rest_refused}
use Rattle.bson_message.proofs.reading.next_message.Goals as goal

pub returns-in_err-read_rest-in-Some : goal.returns-in_err-read_rest-in-Some
returns-in_err-read_rest-in-Some g c =
    let old : Feed = g.R.Source.feed c.args.source.now in
    let mid : Feed = g.R.Source.feed c.read_head.new.source in
    let new : Feed = g.R.Source.feed c.read_rest.new.source in
    let head = subst (λ (o : Option (List ℕ)). ReadsHead old mid (Ok o)) c.in-Some.is c.in_ok-head.ensures in
    let p = err_from_is_err_and c.from_residual-in_err-read_rest-in-Some.result c.from_residual-in_err-read_rest-in-Some.ensures.1 in
    rw (p.1, p.2) (rest_refused old mid new c.in-Some.head c.in_ok-declared-in-Some.declared c.read_rest.new.room.items c.in_err-read_rest-in-Some.field-0.0 head.1 head.0 c.in_ok-declared-in-Some.ensures.0 c.in_ok-declared-in-Some.ensures.1 c.in_err-read_rest-in-Some.ensures)

pub returns-in_ok-read_rest-in-Some : goal.returns-in_ok-read_rest-in-Some
returns-in_ok-read_rest-in-Some g c =
    let old : Feed = g.R.Source.feed c.args.source.now in
    let mid : Feed = g.R.Source.feed c.read_head.new.source in
    let new : Feed = g.R.Source.feed c.read_rest.new.source in
    let head = subst (λ (o : Option (List ℕ)). ReadsHead old mid (Ok o)) c.in-Some.is c.in_ok-head.ensures in
    rest_taken old mid new c.in-Some.head c.in_ok-declared-in-Some.declared c.read_rest.new.room.items head.1 head.0 c.in_ok-declared-in-Some.ensures.0 c.in_ok-declared-in-Some.ensures.1 c.in_ok-read_rest-in-Some.ensures
