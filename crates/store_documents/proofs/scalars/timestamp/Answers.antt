use Rattle.std.proofs.Common.{◌≡◌, rules}
use Rattle.json.specs.Json as json
use Rattle.json.specs.Json.{Json}
use Rattle.json.specs.Value.{members_view, value_view}
use Rattle.json.specs.declared.value.Value.{the_lemmas}
use Rattle.store_documents.proofs.AlikeLemmas.{timestamp_read}
use Rattle.store_documents.proofs.scalars.timestamp.Goals as goal

pub returns : goal.returns
returns c =
    let js = members_view c.as_slice.result.now in
    let p : Json × Json = (value_view c.in_ok-increment.increment.now, value_view c.in_ok-increment.time.now) in
    let is : value_view c.args.value.now ≡ json.object js = rw (c.in-Object.is, c.as_slice.ensures.value) (search (rules, the_lemmas)) in
    timestamp_read (value_view c.args.value.now) js p c.in_ok-increment-2.increment c.in_ok-time.time is c.in_ok-increment.ensures c.in_ok-increment-2.ensures c.in_ok-time.ensures
