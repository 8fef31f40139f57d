use Rattle.std.proofs.Common.{◌+ℤ◌, ◌++◌, ◌∷◌, [], pos, refl, rules}
use Rattle.bson_store.specs.Drafted.{drafted, last_of}
use Rattle.bson_store.proofs.OverLemmas.{add_touches, drafts_more, over_added}
use Rattle.bson_store.proofs.draft.Draft.add.Goals as goal

pub returns-clause-more : goal.returns-clause-more
returns-clause-more c =
    drafts_more c.args.self.now c.note.new.self _ (λ docs. docs ++ record { place = last_of c.args.self.now +ℤ pos 1; coll = c.args.coll.now; idkey = c.args.idkey.now; body = c.args.body.now } ∷ []) c.in_ok-note.ensures.more (λ docs. search rules)

pub returns-clause-over : goal.returns-clause-over
returns-clause-over c docs o none =
    over_added c.args.self.now _ docs o
    (c.in_ok-note.ensures.follows docs o.follows (add_touches c.args.coll.now c.args.idkey.now _ c.in_ok-name.name c.in_ok-key.key c.in_ok-body.body (drafted c.args.self.now docs) c.in_ok-name.ensures.ok c.in_ok-key.ensures.items none))
    (record { place = last_of c.args.self.now +ℤ pos 1; coll = c.args.coll.now; idkey = c.args.idkey.now; body = c.args.body.now }) (returns-clause-more c docs) refl (search rules) none
