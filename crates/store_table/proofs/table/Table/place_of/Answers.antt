use Rattle.std.proofs.Common.{◌≡◌, Some, None, option_map, slice_get, find, refl, sym, ap, ◌∙◌, arith, rules, w64, to_z, of_z}
use Rattle.sqlite.specs.Held.{state}
use Rattle.sqlite.specs.Order.{column}
use Rattle.store_table.specs.Cells.{int_in}
use Rattle.store_table.specs.Rows.{is_row_named}
use Rattle.store_table.proofs.ReadLemmas.{found_place, first_found}
use Rattle.store_table.proofs.OthersLemmas.{still_others}
use Rattle.store_table.proofs.TableLemmas.{stands_still, place_is, place_none}
use Rattle.store_table.proofs.table.Table.place_of.Goals as goal

pub returns-in-Some-clause-moves : goal.returns-in-Some-clause-moves
returns-in-Some-clause-moves g c clean =
    let old = state g.S.Store c.args.self.now.conn in
    let new = state g.S.Store c.places.new.conn in
    let u = (c.in_ok-rows.ensures.read clean).unchanged in
    let row = c.in-Some.row.now in (
      omega (arith, clean, c.places.ensures.crash.clean),
      λ docs stands.
          let test = is_row_named c.args.coll.now c.args.idkey.now in
          let items = c.deref.ensures.value ∙ c.in_ok-rows.ensures.rows clean docs (stands u.0.was_open) in
          let first : slice_get c.deref.result.now 0 ≡ Some row = (let v = c.in-Some.ensures.value in search rules) in
          let is : option_map found_place (find test docs) ≡ Some row = sym (first_found found_place test docs) ∙ ap (λ rows. slice_get rows 0) (sym items) ∙ first in
          let read = c.place_in.ensures in
          let place : to_z w64 (of_z w64 c.place_in.result) ≡ int_in (column row 0) = search rules in
          (docs, stands_still old new docs u stands, record { same = refl; found = ap Some place ∙ place_is (find test docs) row is; faults = tt }, still_others old new u),
    )

pub returns-clause-moves : goal.returns-clause-moves
returns-clause-moves g c clean =
    let old = state g.S.Store c.args.self.now.conn in
    let new = state g.S.Store c.places.new.conn in
    let u = (c.in_ok-rows.ensures.read clean).unchanged in (
      omega (arith, clean, c.places.ensures.crash.clean),
      λ docs stands.
          let test = is_row_named c.args.coll.now c.args.idkey.now in
          let items = c.deref.ensures.value ∙ c.in_ok-rows.ensures.rows clean docs (stands u.0.was_open) in
          let first : slice_get c.deref.result.now 0 ≡ None = sym c.in-None.ensures.value in
          let is : option_map found_place (find test docs) ≡ None = sym (first_found found_place test docs) ∙ ap (λ rows. slice_get rows 0) (sym items) ∙ first in
          (docs, stands_still old new docs u stands, record { same = refl; found = place_none (find test docs) is; faults = tt }, still_others old new u),
    )
