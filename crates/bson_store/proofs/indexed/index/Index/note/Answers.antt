use Rattle.std.proofs.Common.{◌≡◌, ℤ, w64, to_z, of_z, subst, ◌∙◌}
use Rattle.std.proofs.lemmas.Int.{to_z-of_z}
use Rattle.bson_store.specs.Find.{FindsIn}
use Rattle.bson_store.proofs.MarkLemmas.{finds_now, finds_still, misses_still, renews_now}
use Rattle.bson_store.proofs.indexed.index.Index.note.Goals as goal

pub returns-clause-noted : goal.returns-clause-noted
returns-clause-noted c =
    let same : to_z w64 (of_z w64 c.args.place) ≡ c.args.place = to_z-of_z w64 c.args.place c.ranges.place in
    let body = c.args.body.now in
    subst (λ (p : ℤ). FindsIn c.put.new.self p body) same (finds_now c.args.self.now c.put.new.self c.put.ensures.same body c.in_ok-marks.marks (rw c.as_slice.ensures.value at c.in_ok-marks.ensures) _ c.in_ok-put.ensures.there)

pub returns-clause-kept : goal.returns-clause-kept
returns-clause-kept c p b h = finds_still c.args.self.now c.put.new.self c.put.ensures.same p b (λ m there. c.in_ok-put.ensures.kept m p there) h

pub returns-clause-renewed : goal.returns-clause-renewed
returns-clause-renewed c p b h = renews_now c.args.self.now c.put.new.self c.put.ensures.same c.args.body.now c.in_ok-marks.marks (rw c.as_slice.ensures.value at c.in_ok-marks.ensures) p b (λ m none there. c.in_ok-put.ensures.others m p none there) h

pub returns-clause-others : goal.returns-clause-others
returns-clause-others c p b n h =
    let same : to_z w64 (of_z w64 c.args.place) ≡ c.args.place = to_z-of_z w64 c.args.place c.ranges.place in
    misses_still c.args.self.now c.put.new.self c.put.ensures.same p b (λ m there. c.in_ok-put.ensures.only m p (λ e. n (e ∙ same)) there) h
