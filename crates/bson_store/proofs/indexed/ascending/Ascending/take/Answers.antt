use Rattle.std.proofs.Common.{◌≡◌, subst, ap, sym, ◌∙◌, w64, to_z, of_z}
use Rattle.std.proofs.lemmas.Int.{to_z-of_z}
use Rattle.bson_store.specs.Lists.{is_among, Ascends}
use Rattle.bson_store.proofs.AmongLemmas.{taken_kept, taken_only}
use Rattle.bson_store.proofs.AscendLemmas.{between, not_there, taken_ascends, taken_gone}
use Rattle.bson_store.proofs.indexed.ascending.Ascending.take.Goals as goal

pub invariant_of-self : goal.invariant_of-self
invariant_of-self c = record { ascends = subst Ascends (sym c.remove.ensures.items) (taken_ascends c.args.self.now.places.items c.in-Ok.at c.args.self.now.ascends) }

pub returns-in-Ok-clause-gone : goal.returns-in-Ok-clause-gone
returns-in-Ok-clause-gone c h =
    let place = c.args.place in
    let same : to_z w64 (of_z w64 place) ≡ place = to_z-of_z w64 place c.ranges.place in
    let is = c.deref.ensures.value in
    taken_gone place c.args.self.now.places.items c.in-Ok.at c.args.self.now.ascends (rw is at c.in-Ok.ensures.bound) (rw (is, same) at c.in-Ok.ensures.ok) (sym (ap (is_among place) c.remove.ensures.items) ∙ h)

pub returns-in-Ok-clause-kept : goal.returns-in-Ok-clause-kept
returns-in-Ok-clause-kept c p n h =
    let place = c.args.place in
    let same : to_z w64 (of_z w64 place) ≡ place = to_z-of_z w64 place c.ranges.place in
    let is = c.deref.ensures.value in
    ap (is_among p) c.remove.ensures.items ∙ taken_kept place p c.args.self.now.places.items c.in-Ok.at (rw is at c.in-Ok.ensures.bound) (rw (is, same) at c.in-Ok.ensures.ok) n h

pub returns-in_default-clause-gone : goal.returns-in_default-clause-gone
returns-in_default-clause-gone c h =
    let place = c.args.place in
    let xs = c.args.self.now.places.items in
    let same : to_z w64 (of_z w64 place) ≡ place = to_z-of_z w64 place c.ranges.place in
    not_there place xs c.in_default.field-0 (between place xs c.in_default.field-0 c.args.self.now.ascends (rw (c.deref.ensures.value, same) at c.in_default.ensures.position)) h

pub returns-in-Ok-clause-only : goal.returns-in-Ok-clause-only
returns-in-Ok-clause-only c p h = taken_only p p c.args.self.now.places.items c.in-Ok.at (rw c.deref.ensures.value at c.in-Ok.ensures.bound) (sym (ap (is_among p) c.remove.ensures.items) ∙ h)
