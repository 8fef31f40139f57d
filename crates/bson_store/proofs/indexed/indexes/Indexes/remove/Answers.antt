use Rattle.std.proofs.Common.{rules}
use Rattle.store_question.specs.Filters.{path_of}
use Rattle.bson_store.proofs.RemoveLemmas.{retained}
use Rattle.bson_store.proofs.indexed.indexes.Indexes.remove.Goals as goal

pub returns : goal.returns
returns c =
    let without = retained _ c.args.coll.now (path_of c.args.path.now) _ (λ x b f' k. search rules) c.args.self.now.list.items c.retain.new.self.items c.retain.ensures.filtered in
    record { gone = without.gone; others = without.others; kept = without.kept; missed = without.missed; none = without.none }
