use Rattle.std.proofs.Common.{◌≡◌, ℤ, Some, None, sym, ap, ◌∙◌, refl, w64, to_z, of_z, rules}
use Rattle.store_table.specs.Cells.{doc_of}
use Rattle.store_table.specs.Renewal.{IsOwn}
use Rattle.store_table.proofs.RenewalLemmas.{some_there, none_there, twin_stays, apart_yet, twin_met, own_taken, new_taken, keyed}
use Rattle.store_table.proofs.renewal.Renewals.take.Goals as goal

pub returns-then-is_some : goal.returns-then-is_some
returns-then-is_some g c docs good h =
    let accepts = IsOwn (g.C.RowCheck.renews c.args.check.now) in
    let renews = g.C.RowCheck.renews c.args.check.now in
    let p = some_there c.args.self.now.twin (sym c.is_some.ensures ∙ c.if-is_some.true) in
    twin_stays accepts renews docs (doc_of c.args.row.now) c.args.self.now _ p.0 p.1 refl good h

pub returns-in-Some-2 : goal.returns-in-Some-2
returns-in-Some-2 g c docs good h =
    let accepts = IsOwn (g.C.RowCheck.renews c.args.check.now) in
    let renews = g.C.RowCheck.renews c.args.check.now in
    let d = doc_of c.args.row.now in
    let yet = apart_yet accepts renews docs c.args.self.now h (none_there c.args.self.now.twin (sym c.is_some.ensures ∙ c.if-is_some.false)) in
    let told = rw (c.in-Some.is, c.bytes_at-coll.ensures, c.bytes_at-idkey.ensures, c.bytes_at.ensures) at c.in_ok-now.ensures in
    let met = rw (c.in-Some-2.is, c.bytes_at-coll.ensures, c.as_slice.ensures.value) at (c.in_ok-first.ensures.met h.after yet.places) in
    let place : to_z w64 (of_z w64 c.place_in-place.result) ≡ d.place = search rules in
    twin_met accepts renews docs d c.args.self.now _ h yet good c.in-Some.now.items told.0 told.1 _ (ap (λ (z : ℤ). Some (to_z w64 (of_z w64 c.in-Some-2.first), z)) place) (sym met ∙ ap Some (sym (search rules)))

pub returns-in_ok-push : goal.returns-in_ok-push
returns-in_ok-push g c docs good h =
    let accepts = IsOwn (g.C.RowCheck.renews c.args.check.now) in
    let renews = g.C.RowCheck.renews c.args.check.now in
    let d = doc_of c.args.row.now in
    let none = none_there c.args.self.now.twin (sym c.is_some.ensures ∙ c.if-is_some.false) in
    let yet = apart_yet accepts renews docs c.args.self.now h none in
    let told = rw (c.in-Some.is, c.bytes_at-coll.ensures, c.bytes_at-idkey.ensures, c.bytes_at.ensures) at c.in_ok-now.ensures in
    let met = rw (c.bytes_at-coll.ensures, c.as_slice.ensures.value) at (c.in_ok-first.ensures.met h.after yet.places) in
    let place : to_z w64 (of_z w64 c.place_in-place.result) ≡ d.place = search rules in
    let new : c.in_ok-first.field-0 ≡ None = search rules in
    new_taken accepts renews docs d c.args.self.now _ h yet good c.in-Some.now.items told.0 told.1 _ place refl none (sym met ∙ new)
    (c.in_ok-first.ensures.added h.after (keyed c.in-Some.now.items d) yet.places (sym c.bytes_at-coll.ensures) (sym c.as_slice.ensures.value) (sym place) new) c.in_ok-push.ensures.items

pub returns-else-ne : goal.returns-else-ne
returns-else-ne g c docs good h =
    let accepts = IsOwn (g.C.RowCheck.renews c.args.check.now) in
    let renews = g.C.RowCheck.renews c.args.check.now in
    let d = doc_of c.args.row.now in
    let none = none_there c.args.self.now.twin (sym c.is_some.ensures ∙ c.if-is_some.false) in
    let yet = apart_yet accepts renews docs c.args.self.now h none in
    let told = rw (c.in-Some.is, c.bytes_at-coll.ensures, c.bytes_at-idkey.ensures, c.bytes_at.ensures) at c.in_ok-now.ensures in
    let met = rw (c.bytes_at-coll.ensures, c.as_slice.ensures.value) at (c.in_ok-first.ensures.met h.after yet.places) in
    let place : to_z w64 (of_z w64 c.place_in-place.result) ≡ d.place = search rules in
    let new : c.in_ok-first.field-0 ≡ None = search rules in
    let same : c.in-Some.now.items ≡ d.idkey = search rules in
    own_taken accepts renews docs d c.args.self.now _ h yet good c.in-Some.now.items told.0 told.1 none (sym met ∙ new)
    (c.in_ok-first.ensures.added h.after (keyed c.in-Some.now.items d) yet.places (sym c.bytes_at-coll.ensures) (sym c.as_slice.ensures.value) (sym place) new) refl same
