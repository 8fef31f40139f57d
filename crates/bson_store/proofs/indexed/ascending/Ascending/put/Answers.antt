use Rattle.std.proofs.Common.{◌≡◌, ℤ, sym, ap, ◌∙◌, w64, to_z, of_z}
use Rattle.std.proofs.lemmas.Int.{to_z-of_z}
use Rattle.std.specs.List.{insert}
use Rattle.bson_store.specs.Lists.{is_among}
use Rattle.bson_store.proofs.AmongLemmas.{found_among, put_there, put_kept, put_or_not_only}
use Rattle.bson_store.proofs.AscendLemmas.{between, put_or_not}
use Rattle.bson_store.proofs.indexed.ascending.Ascending.put.Goals as goal

pub invariant_of-self : goal.invariant_of-self
invariant_of-self c =
    let p = c.args.place in
    let xs = c.args.self.now.places.items in
    let same : to_z w64 (of_z w64 p) ≡ p = to_z-of_z w64 p c.ranges.place in
    record { ascends = put_or_not p xs c.insert.new.self.items c.in-Err.at _ c.args.self.now.ascends (between p xs c.in-Err.at c.args.self.now.ascends (rw (c.deref.ensures.value, same) at c.in-Err.ensures.position)) (rw same at c.insert.ensures.items) }

pub returns-in-Ok-clause-there : goal.returns-in-Ok-clause-there
returns-in-Ok-clause-there c =
    let p = c.args.place in
    let same : to_z w64 (of_z w64 p) ≡ p = to_z-of_z w64 p c.ranges.place in
    ap (is_among p) (sym c.deref.ensures.value) ∙ found_among p c.deref.result.now c.in-Ok.field-0 c.in-Ok.ensures.bound (rw same at c.in-Ok.ensures.ok)

pub returns-in_ok-insert-in-Err-clause-there : goal.returns-in_ok-insert-in-Err-clause-there
returns-in_ok-insert-in-Err-clause-there c =
    let p = c.args.place in
    let same : to_z w64 (of_z w64 p) ≡ p = to_z-of_z w64 p c.ranges.place in
    let is = c.in_ok-insert-in-Err.ensures.items ∙ ap (λ (q : ℤ). insert c.args.self.now.places.items c.in-Err.at q) same in
    ap (is_among p) is ∙ put_there p c.args.self.now.places.items c.in-Err.at

pub returns-in_ok-insert-in-Err-clause-kept : goal.returns-in_ok-insert-in-Err-clause-kept
returns-in_ok-insert-in-Err-clause-kept c p h = ap (is_among p) c.in_ok-insert-in-Err.ensures.items ∙ put_kept _ p c.args.self.now.places.items c.in-Err.at h

pub returns-in_ok-insert-in-Err-clause-only : goal.returns-in_ok-insert-in-Err-clause-only
returns-in_ok-insert-in-Err-clause-only c q n h = put_or_not_only _ q c.args.self.now.places.items c.insert.new.self.items c.in-Err.at _ c.insert.ensures.items (λ e. n (e ∙ to_z-of_z w64 c.args.place c.ranges.place)) h
