use Rattle.std.proofs.Common.{◌≡◌, ℤ, w64, to_z, of_z, subst, ◌∙◌}
use Rattle.std.proofs.lemmas.Int.{to_z-of_z}
use Rattle.bson_store.specs.Find.{HasUnder}
use Rattle.bson_store.specs.Marks.{IsOneOf, Mark}
use Rattle.bson_store.specs.declared.indexed.index.Index.{Index}
use Rattle.bson_store.proofs.MarkLemmas.{each_gone, each_same}
use Rattle.bson_store.proofs.indexed.index.Index.take.Goals as goal

pub returns-clause-gone : goal.returns-clause-gone
returns-clause-gone c =
    let same : to_z w64 (of_z w64 c.args.place) ≡ c.args.place = to_z-of_z w64 c.args.place c.ranges.place in
    let new : Index = record c.args.self.now { places = c.take_key.new.places; ranks = c.take_rank.new.ranks; wide = c.take_wide.new.list } in
    subst (λ (p : ℤ). (m : Mark) → IsOneOf c.args.marks m → HasUnder new m p → ⊥) same (each_gone new c.args.marks _ (λ k one. c.in_ok-take_key.ensures.gone k one) (λ r q one. c.take_rank.ensures.gone r q one) (λ one. c.take_wide.ensures.gone one))

pub returns-clause-kept : goal.returns-clause-kept
returns-clause-kept c m p n =
    let same : to_z w64 (of_z w64 c.args.place) ≡ c.args.place = to_z-of_z w64 c.args.place c.ranges.place in
    let new : Index = record c.args.self.now { places = c.take_key.new.places; ranks = c.take_rank.new.ranks; wide = c.take_wide.new.list } in
    each_same c.args.self.now new p (λ k h. c.in_ok-take_key.ensures.kept k p (λ e. n (e ∙ same)) h) (λ r q h. c.take_rank.ensures.kept r q p (λ e. n (e ∙ same)) h) (λ h. c.take_wide.ensures.kept p (λ e. n (e ∙ same)) h) m

pub returns-clause-only : goal.returns-clause-only
returns-clause-only c m p =
    let new : Index = record c.args.self.now { places = c.take_key.new.places; ranks = c.take_rank.new.ranks; wide = c.take_wide.new.list } in
    each_same new c.args.self.now p (λ k h. c.in_ok-take_key.ensures.only k p h) (λ r q h. c.take_rank.ensures.only r q p h) (λ h. c.take_wide.ensures.only p h) m
