use Rattle.std.proofs.Common.{◌≡◌, Vec, Global, sym, subst, ◌∙◌, w64, to_z, of_z}
use Rattle.std.proofs.lemmas.Int.{to_z-of_z}
use Rattle.bson_store.specs.Find.{FindEach, MissEach}
use Rattle.bson_store.specs.declared.indexed.index.Index.{Index}
use Rattle.bson_store.proofs.indexed.indexes.Indexes.forget.Goals as goal

pub returns-clause-kept : goal.returns-clause-kept
returns-clause-kept c k p b other h =
    let same : to_z w64 (of_z w64 c.args.place) ≡ c.args.place = to_z-of_z w64 c.args.place c.ranges.place in
    c.in_ok-self.ensures.kept k p b (λ e. other (e ∙ same)) (subst (λ (v : Vec Index Global). FindEach v.items k p b) (sym c.take-list.ensures.taken) h)

pub returns-clause-missed : goal.returns-clause-missed
returns-clause-missed c p b h = c.in_ok-self.ensures.missed p b (subst (λ (v : Vec Index Global). MissEach v.items p b) (sym c.take-list.ensures.taken) h)
