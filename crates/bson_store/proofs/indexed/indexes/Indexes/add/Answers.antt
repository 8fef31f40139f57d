use Rattle.std.proofs.Common.{List, refl, subst, sym, string_bytes}
use Rattle.store_question.specs.Filters.{path_of}
use Rattle.bson_store.specs.Find.{HasOn, MissEach, MissesIn}
use Rattle.bson_store.specs.declared.indexed.index.Index.{Index}
use Rattle.bson_store.proofs.IndexFindLemmas.{all_more, has_last, has_only, has_still}
use Rattle.bson_store.proofs.indexed.indexes.Indexes.add.Goals as goal

pub returns-clause-there : goal.returns-clause-there
returns-clause-there c =
    let ix = c.args.index in
    let coll = string_bytes ix.coll in
    let path = path_of ix.path.items in
    subst (λ (xs : List Index). HasOn xs coll path) (sym c.in_ok-push.ensures.items) (has_last coll path c.args.self.now.list.items ix (refl, refl))

pub returns-clause-others : goal.returns-clause-others
returns-clause-others c k p h = subst (λ (xs : List Index). HasOn xs k p) (sym c.in_ok-push.ensures.items) (has_still k p c.args.self.now.list.items c.args.index h)

pub returns-clause-only : goal.returns-clause-only
returns-clause-only c k p h = has_only k p c.args.self.now.list.items c.args.index (subst (λ (xs : List Index). HasOn xs k p) c.in_ok-push.ensures.items h)

pub returns-clause-missed : goal.returns-clause-missed
returns-clause-missed c p b h one = subst (λ (xs : List Index). MissEach xs p b) (sym c.in_ok-push.ensures.items) (all_more (λ (ix : Index). MissesIn ix p b) c.args.self.now.list.items c.args.index h one)
