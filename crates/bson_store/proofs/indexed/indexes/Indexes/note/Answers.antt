use Rattle.std.proofs.Common.{Vec, Global, sym, subst, ◌∙◌, w64}
use Rattle.std.proofs.lemmas.Int.{to_z-of_z}
use Rattle.bson_store.specs.Find.{FindEach, MissEach}
use Rattle.bson_store.specs.declared.indexed.index.Index.{Index}
use Rattle.bson_store.proofs.indexed.indexes.Indexes.note.Goals as goal

pub returns-clause-kept : goal.returns-clause-kept
returns-clause-kept c k p b h = c.in_ok-self.ensures.kept k p b (subst (λ (v : Vec Index Global). FindEach v.items k p b) (sym c.take-list.ensures.taken) h)

pub returns-clause-renewed : goal.returns-clause-renewed
returns-clause-renewed c p b h = c.in_ok-self.ensures.renewed p b (subst (λ (v : Vec Index Global). MissEach v.items p b) (sym c.take-list.ensures.taken) h)

pub returns-clause-others : goal.returns-clause-others
returns-clause-others c p b n h = c.in_ok-self.ensures.others p b (λ e. n (e ∙ to_z-of_z w64 c.args.place c.ranges.place)) (subst (λ (v : Vec Index Global). MissEach v.items p b) (sym c.take-list.ensures.taken) h)
