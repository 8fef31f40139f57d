use Rattle.std.proofs.Common.{◌≡◌, None, rules, string_bytes}
use Rattle.bson_pairs.specs.Keyed.{get}
use Rattle.bson_model.specs.View.{pairs_of, view}
use Rattle.store_documents.proofs.MemberLemmas.{appended}
use Rattle.store_documents.proofs.reading.add.Goals as goal

pub returns-in-None : goal.returns-in-None
returns-in-None c =
    let key = string_bytes c.in_ok-key.key in
    let old = pairs_of c.args.document.now in
    let absent : get key old ≡ None = search rules in
    appended c.args.key.now key (view c.args.value) old (pairs_of c.insert.new.self) c.in_ok-key.ensures.ok absent c.in_ok-before.ensures.ok
