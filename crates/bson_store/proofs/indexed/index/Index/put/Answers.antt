use Rattle.std.proofs.Common.{◌≡◌, ℤ, w64, to_z, of_z, subst, ◌∙◌}
use Rattle.std.proofs.lemmas.Int.{to_z-of_z}
use Rattle.bson_store.specs.Find.{HasUnder}
use Rattle.bson_store.specs.Marks.{IsOneOf, Mark}
use Rattle.bson_store.specs.declared.indexed.index.Index.{Index}
use Rattle.bson_store.proofs.MarkLemmas.{each_other, each_same, each_there}
use Rattle.bson_store.proofs.indexed.index.Index.put.Goals as goal

pub returns-clause-there : goal.returns-clause-there
returns-clause-there c =
    let same : to_z w64 (of_z w64 c.args.place) ≡ c.args.place = to_z-of_z w64 c.args.place c.ranges.place in
    let new : Index = record c.args.self.now { places = c.put_key.new.places; ranks = c.put_rank.new.ranks; wide = c.put_wide.new.list } in
    subst (λ (p : ℤ). (m : Mark) → IsOneOf c.args.marks m → HasUnder new m p) same (each_there new c.args.marks _ (λ k one. c.in_ok-put_key.ensures.there k one) (λ r q one. c.in_ok-put_rank.ensures.there r q one) (λ one. c.in_ok-put_wide.ensures.there one))

pub returns-clause-kept : goal.returns-clause-kept
returns-clause-kept c m p =
    let new : Index = record c.args.self.now { places = c.put_key.new.places; ranks = c.put_rank.new.ranks; wide = c.put_wide.new.list } in
    each_same c.args.self.now new p (λ k h. c.in_ok-put_key.ensures.kept k p h) (λ r q h. c.in_ok-put_rank.ensures.kept r q p h) (λ h. c.in_ok-put_wide.ensures.kept p h) m

pub returns-clause-others : goal.returns-clause-others
returns-clause-others c m p =
    let new : Index = record c.args.self.now { places = c.put_key.new.places; ranks = c.put_rank.new.ranks; wide = c.put_wide.new.list } in
    each_other new c.args.self.now c.args.marks p (λ k none h. c.in_ok-put_key.ensures.others k p none h) (λ r q none h. c.in_ok-put_rank.ensures.others r q p none h) (λ none h. c.in_ok-put_wide.ensures.others none p h) m

pub returns-clause-only : goal.returns-clause-only
returns-clause-only c m p n =
    let same : to_z w64 (of_z w64 c.args.place) ≡ c.args.place = to_z-of_z w64 c.args.place c.ranges.place in
    let new : Index = record c.args.self.now { places = c.put_key.new.places; ranks = c.put_rank.new.ranks; wide = c.put_wide.new.list } in
    each_same new c.args.self.now p (λ k h. c.in_ok-put_key.ensures.only k p (λ e. n (e ∙ same)) h) (λ r q h. c.in_ok-put_rank.ensures.only r q p (λ e. n (e ∙ same)) h) (λ h. c.in_ok-put_wide.ensures.only p (λ e. n (e ∙ same)) h) m
