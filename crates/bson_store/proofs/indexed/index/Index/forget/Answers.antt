use Rattle.std.proofs.Common.{◌≡◌, ℤ, w64, to_z, of_z, subst, ◌∙◌}
use Rattle.std.proofs.lemmas.Int.{to_z-of_z}
use Rattle.bson_store.specs.Find.{MissesIn}
use Rattle.bson_store.proofs.MarkLemmas.{finds_of_still, misses_now, misses_still}
use Rattle.bson_store.proofs.indexed.index.Index.forget.Goals as goal

pub returns-clause-gone : goal.returns-clause-gone
returns-clause-gone c =
    let same : to_z w64 (of_z w64 c.args.place) ≡ c.args.place = to_z-of_z w64 c.args.place c.ranges.place in
    let body = c.args.body.now in
    subst (λ (p : ℤ). MissesIn c.take.new.self p body) same (misses_now c.args.self.now c.take.new.self c.take.ensures.same body c.in_ok-marks.marks (rw c.as_slice.ensures.value at c.in_ok-marks.ensures) _ c.in_ok-take.ensures.gone)

pub returns-clause-kept : goal.returns-clause-kept
returns-clause-kept c k p b n h =
    let same : to_z w64 (of_z w64 c.args.place) ≡ c.args.place = to_z-of_z w64 c.args.place c.ranges.place in
    finds_of_still c.args.self.now c.take.new.self c.take.ensures.same k p b (λ m there. c.in_ok-take.ensures.kept m p (λ e. n (e ∙ same)) there) h

pub returns-clause-missed : goal.returns-clause-missed
returns-clause-missed c p b h = misses_still c.args.self.now c.take.new.self c.take.ensures.same p b (λ m there. c.in_ok-take.ensures.only m p there) h
