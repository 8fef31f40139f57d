use Rattle.std.proofs.Common.{◌≡◌, w64, to_z, of_z, rules}
use Rattle.store_table.specs.Rows.{without_place}
use Rattle.bson_store.specs.Drafted.{DraftsMore, IsOver, drafted}
use Rattle.bson_store.proofs.OverLemmas.{both_ok, drafts_more, over_without, remove_touches, then_ok}
use Rattle.bson_store.proofs.draft.Draft.remove.Goals as goal

pub returns-clause-more : goal.returns-clause-more
returns-clause-more c = then_ok c.note.result (DraftsMore c.args.self.now c.note.new.self (without_place c.args.found.place)) (λ is. drafts_more c.args.self.now c.note.new.self _ (without_place c.args.found.place) is (λ docs. search rules)) c.note.ensures.more

pub returns-clause-over : goal.returns-clause-over
returns-clause-over c docs o found =
    let same : to_z w64 (of_z w64 c.args.found.place) ≡ c.args.found.place = search rules in
    both_ok c.note.result (IsOver c.note.new.self docs) (λ more follows. over_without c.args.self.now c.note.new.self docs o follows c.args.found.place (more docs) c.note.ensures.last)
    (returns-clause-more c) (c.note.ensures.follows docs o.follows (remove_touches c.args.coll.now c.args.idkey.now c.args.found.place _ c.args.found.body c.args.found.body.items (drafted c.args.self.now docs) same o.rising o.apart found))
