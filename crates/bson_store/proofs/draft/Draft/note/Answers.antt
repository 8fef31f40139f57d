use Rattle.std.proofs.Common.{◌∙◌}
use Rattle.bson_store.proofs.OverLemmas.{follows_more}
use Rattle.bson_store.proofs.draft.Draft.note.Goals as goal

pub returns-clause-follows : goal.returns-clause-follows
returns-clause-follows c docs h touches =
    follows_more c.args.self.now (record { changes = c.push.new.self; touched = c.insert.new.self; last = c.args.self.now.last; alloc = c.args.self.now.alloc }) c.in_ok-key.key c.args.coll.now c.args.idkey.now c.args.change _ docs c.in_ok-key.ensures.0 c.in_ok-key.ensures.1 c.in_ok-push.ensures.items (c.len-at.ensures ∙ c.args.self.now.changes.ok.0) (λ q. c.in_ok-insert.ensures.updates.0 q) h touches
