use Rattle.std.proofs.Common.{◌≡◌, Some, None, option_map, slice_get, find, refl, sym, ap, ◌∙◌, arith, rules}
use Rattle.sqlite.specs.Held.{state}
use Rattle.store_table.specs.Rows.{is_row_named}
use Rattle.store_table.proofs.ReadLemmas.{found_row, first_found}
use Rattle.store_table.proofs.OthersLemmas.{still_others}
use Rattle.store_table.proofs.TableLemmas.{stands_still, found_is, found_none}
use Rattle.store_table.proofs.table.Table.named.Goals as goal

pub returns-in-Some-clause-moves : goal.returns-in-Some-clause-moves
returns-in-Some-clause-moves g c clean =
    let old = state g.S.Store c.args.self.now.conn in
    let new = state g.S.Store c.named.new.conn in
    let u = (c.in_ok-rows.ensures.read clean).unchanged in
    let row = c.in-Some.row.now in (
      omega (arith, clean, c.named.ensures.crash.clean),
      λ docs stands.
          let test = is_row_named c.args.coll.now c.args.idkey.now in
          let items = c.deref.ensures.value ∙ c.in_ok-rows.ensures.rows clean docs (stands u.0.was_open) in
          let first : slice_get c.deref.result.now 0 ≡ Some row = (let v = c.in-Some.ensures.value in search rules) in
          let is : option_map found_row (find test docs) ≡ Some row = sym (first_found found_row test docs) ∙ ap (λ rows. slice_get rows 0) (sym items) ∙ first in
          (docs, stands_still old new docs u stands, record { same = refl; found = found_is (find test docs) row c.in_ok-found_in-in-Some.field-0 is c.in_ok-found_in-in-Some.ensures.0 c.in_ok-found_in-in-Some.ensures.1; faults = tt }, still_others old new u),
    )

pub returns-clause-moves : goal.returns-clause-moves
returns-clause-moves g c clean =
    let old = state g.S.Store c.args.self.now.conn in
    let new = state g.S.Store c.named.new.conn in
    let u = (c.in_ok-rows.ensures.read clean).unchanged in (
      omega (arith, clean, c.named.ensures.crash.clean),
      λ docs stands.
          let test = is_row_named c.args.coll.now c.args.idkey.now in
          let items = c.deref.ensures.value ∙ c.in_ok-rows.ensures.rows clean docs (stands u.0.was_open) in
          let first : slice_get c.deref.result.now 0 ≡ None = sym c.in-None.ensures.value in
          let is : option_map found_row (find test docs) ≡ None = sym (first_found found_row test docs) ∙ ap (λ rows. slice_get rows 0) (sym items) ∙ first in
          (docs, stands_still old new docs u stands, record { same = refl; found = found_none (find test docs) is; faults = tt }, still_others old new u),
    )
