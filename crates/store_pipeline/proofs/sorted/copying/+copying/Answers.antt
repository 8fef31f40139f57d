use Rattle.std.proofs.Common.{◌≡◌, ◌∙◌, ◌+◌, ◌≤◌, ◌++◌, [], ◌∷◌, List, ℕ, length, refl, sym, subst, arith, rules}
use Rattle.bson_bytes.proofs.WrittenLemmas.{room}
use Rattle.bson_frame.specs.View.{element_of}
use Rattle.store_pipeline.proofs.CopyLemmas.{few_more, field_more, fields_end, item_more, items_end, placed, shorter}
use Rattle.store_pipeline.proofs.InsideLemmas.{framed_grown, framed_key, framed_whole, in_room, inside_written}
use Rattle.store_pipeline.proofs.sorted.copying.+copying.Goals as goal
use Rattle.store_pipeline.specs.Views.{elements_left, paths_lent}

pub copy_framed-returns-clause-told : goal.copy_framed-returns-clause-told
copy_framed-returns-clause-told t c = λ v h.
    let old = c.args.out.now.items in
    let body = elements_left c.args.kept (paths_lent c.args.paths.now) v in
    let whole = in_room old c.extend_from_slice.new.self.items c.copy_elements.new.out.items c.push.new.self.items body c.in_ok-extend_from_slice.ensures.items (c.in_ok-copy_elements.ensures.told v h) c.in_ok-push.ensures.items in
    let start : c.len-start.result ≡ length old = search rules in
    framed_whole old body c.put_length.new.out.items (c.in-Ok.ensures.ok old room (body ++ 0 ∷ []) whole (sym start) refl)

pub copy_framed-returns-clause-few : goal.copy_framed-returns-clause-few
copy_framed-returns-clause-few t c =
    let old = c.args.out.now.items in
    let grown = c.in_ok-copy_elements.ensures.few in
    let whole = in_room old c.extend_from_slice.new.self.items c.copy_elements.new.out.items c.push.new.self.items grown.more c.in_ok-extend_from_slice.ensures.items grown.is c.in_ok-push.ensures.items in
    let start : c.len-start.result ≡ length old = search rules in
    framed_grown old grown.more c.put_length.new.out.items (length c.args.elements.now) (c.in-Ok.ensures.ok old room (grown.more ++ 0 ∷ []) whole (sym start) refl) grown.few

pub copy_fields-loop-first-preserved : goal.copy_fields-loop-first-preserved
copy_fields-loop-first-preserved t c =
    let old = c.args.out.now.items in
    let e = element_of c.in-Ok.first in
    let rest = c.in-Ok.first.rest.now in (
      λ ms is back low. field_more c.args.kept (paths_lent c.args.paths.now) c.args.levels ms old c.loop-first.out.items c.loop-first.left.now e rest c.copy_field.new.out.items c.in_ok-copy_field.field-0 c.in-Ok.ensures (c.loop-first.invariant.0 ms is back low) c.in_ok-copy_field.ensures.told,
      few_more old c.loop-first.out.items c.loop-first.left.now (length c.args.elements.now) e rest c.copy_field.new.out.items _ c.in-Ok.ensures c.loop-first.invariant.1 (omega arith) c.in_ok-copy_field.ensures.few,
    )

pub copy_fields-returns-clause-told : goal.copy_fields-returns-clause-told
copy_fields-returns-clause-told t c = λ ms is back low.
    fields_end c.args.kept (paths_lent c.args.paths.now) c.args.levels ms c.args.out.now.items c.loop-first.out.items c.loop-first.left.now c.in_default.ensures.no_frame (c.loop-first.invariant.0 ms is back low)

pub copy_items-loop-first-preserved : goal.copy_items-loop-first-preserved
copy_items-loop-first-preserved t c =
    let old = c.args.out.now.items in
    let new = c.loop-first.out.items in
    let now = c.copy_inside.new.out.items in
    let left = c.loop-first.left.now in
    let e = element_of c.in-Ok.first in
    let rest = c.in-Ok.first.rest.now in
    let key = c.not_longer-key.result.now in
    let place = c.loop-first.place in
    let text = c.format.ensures.text in (
      λ vs is back low. item_more c.args.kept (paths_lent c.args.paths.now) c.args.levels vs old new left place e rest now key c.in_ok-stays.stays c.place_after-place.result c.in-Ok.ensures (c.loop-first.invariant.0 vs is back low)
          (λ short. c.not_longer-key.ensures.same (subst (λ (x : List ℕ). length x ≤ length e.key) (sym text) short) ∙ text) c.place_after-place.ensures c.in_ok-stays.ensures.told,
      few_more old new left (length c.args.elements.now) e rest now (length key + length e.payload + 2) c.in-Ok.ensures c.loop-first.invariant.1 (omega (arith, c.not_longer-key.ensures.few)) c.in_ok-stays.ensures.few,
      placed place (length left) (length rest) (length c.args.elements.now) c.in_ok-stays.stays c.place_after-place.result c.place_after-place.ensures (shorter left e rest c.in-Ok.ensures) c.loop-first.invariant.2,
    )

pub copy_items-returns-clause-told : goal.copy_items-returns-clause-told
copy_items-returns-clause-told t c = λ vs is back low.
    items_end c.args.kept (paths_lent c.args.paths.now) c.args.levels vs c.args.out.now.items c.loop-first.out.items c.loop-first.left.now c.loop-first.place c.in_default.ensures.no_frame (c.loop-first.invariant.0 vs is back low)

pub copy_inside-returns-clause-told : goal.copy_inside-returns-clause-told
copy_inside-returns-clause-told t c = λ v w b low.
    inside_written c.args.kept (paths_lent c.args.paths.now) c.args.levels c.in-Some.elements (element_of c.args.value) c.args.key.now c.args.out.now.items c.copy_front.new.out.items c.copy_framed.new.out.items c.in_ok-copy_front.ensures v (c.in-Some.ensures.told v w b) w b low (c.in_ok-copy_framed.ensures.told v)

pub copy_inside-returns-clause-few : goal.copy_inside-returns-clause-few
copy_inside-returns-clause-few t c =
    framed_key c.args.out.now.items c.copy_front.new.out.items c.copy_framed.new.out.items c.args.value.tag c.args.key.now c.in-Some.elements.now c.args.value.payload.now c.in_ok-copy_front.ensures c.in_ok-copy_framed.ensures.few c.in-Some.ensures.few.0
