use Rattle.std.proofs.Common.{◌≡◌, w64, to_z, of_z, rules}
use Rattle.store_table.specs.Rows.{with_body_at}
use Rattle.bson_store.specs.Drafted.{DraftsMore, IsOver, drafted}
use Rattle.bson_store.proofs.OverLemmas.{both_ok, drafts_more, over_rewritten, rewrite_touches, then_ok}
use Rattle.bson_store.proofs.draft.Draft.rewrite.Goals as goal

pub returns-clause-more : goal.returns-clause-more
returns-clause-more c = then_ok c.note.result (DraftsMore c.args.self.now c.note.new.self (with_body_at c.args.found.place c.args.body.now)) (λ is. drafts_more c.args.self.now c.note.new.self _ (with_body_at c.args.found.place c.args.body.now) is (λ docs. search rules)) c.note.ensures.more

pub returns-clause-over : goal.returns-clause-over
returns-clause-over c docs o found =
    let same : to_z w64 (of_z w64 c.args.found.place) ≡ c.args.found.place = search rules in
    both_ok c.note.result (IsOver c.note.new.self docs) (λ more follows. over_rewritten c.args.self.now c.note.new.self docs o follows c.args.found.place c.args.body.now (more docs) c.note.ensures.last)
    (returns-clause-more c) (c.note.ensures.follows docs o.follows (rewrite_touches c.args.coll.now c.args.idkey.now c.args.found.place _ c.args.found.body c.in_ok-body.body c.args.found.body.items (drafted c.args.self.now docs) same o.rising found))
