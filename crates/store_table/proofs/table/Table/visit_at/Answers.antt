use Rattle.std.proofs.Common.{◌≡◌, ◌++◌, List, ℕ, Some, None, option_map, slice_get, find, append-nil, refl, sym, ap, subst, ◌∙◌, arith, rules, w64, to_z, of_z}
use Rattle.std.proofs.lemmas.Int.{to_z-of_z}
use Rattle.sqlite.specs.Held.{state}
use Rattle.store_table.specs.Rows.{is_at}
use Rattle.store_table.proofs.ReadLemmas.{at_row, first_found}
use Rattle.store_table.proofs.OthersLemmas.{still_others}
use Rattle.store_table.proofs.TableLemmas.{stands_still, body_is, body_none}
use Rattle.store_table.proofs.table.Table.visit_at.Goals as goal

pub returns-in-Some-clause-moves : goal.returns-in-Some-clause-moves
returns-in-Some-clause-moves g c clean =
    let old = state g.S.Store c.args.self.now.conn in
    let new = state g.S.Store c.at_place.new.conn in
    let u = (c.in_ok-rows.ensures.read clean).unchanged in
    let row = c.in-Some.row.now in
    let took = g.V.Visit.took in (
      omega (arith, clean, c.at_place.ensures.crash.clean),
      λ docs stands.
          let same : to_z w64 (of_z w64 c.args.place) ≡ c.args.place = to_z-of_z w64 c.args.place c.ranges.place in
          let test = is_at c.args.place in
          let items = c.deref.ensures.value ∙ (rw same at (c.in_ok-rows.ensures.rows clean docs (stands u.0.was_open))) in
          let first : slice_get c.deref.result.now 0 ≡ Some row = (let v = c.in-Some.ensures.value in search rules) in
          let is : option_map at_row (find test docs) ≡ Some row = sym (first_found at_row test docs) ∙ ap (λ rows. slice_get rows 0) (sym items) ∙ first in (
            docs,
            stands_still old new docs u stands,
            record {
              same = refl;
              on = λ first_one bodies t. subst (λ (bs : List (List ℕ)). took first_one c.visit_row.new.visitor (bodies ++ bs)) (body_is c.args.coll.now (find test docs) row is) (c.visit_row.ensures.on first_one bodies t);
              faults = tt;
            },
            still_others old new u,
          ),
    )

pub returns-clause-moves : goal.returns-clause-moves
returns-clause-moves g c clean =
    let old = state g.S.Store c.args.self.now.conn in
    let new = state g.S.Store c.at_place.new.conn in
    let u = (c.in_ok-rows.ensures.read clean).unchanged in
    let took = g.V.Visit.took in (
      omega (arith, clean, c.at_place.ensures.crash.clean),
      λ docs stands.
          let same : to_z w64 (of_z w64 c.args.place) ≡ c.args.place = to_z-of_z w64 c.args.place c.ranges.place in
          let test = is_at c.args.place in
          let items = c.deref.ensures.value ∙ (rw same at (c.in_ok-rows.ensures.rows clean docs (stands u.0.was_open))) in
          let first : slice_get c.deref.result.now 0 ≡ None = sym c.in-None.ensures.value in
          let is : option_map at_row (find test docs) ≡ None = sym (first_found at_row test docs) ∙ ap (λ rows. slice_get rows 0) (sym items) ∙ first in (
            docs,
            stands_still old new docs u stands,
            record {
              same = refl;
              on = λ first_one bodies t. subst (λ (bs : List (List ℕ)). took first_one c.args.visitor.now bs) (sym (append-nil bodies) ∙ ap (λ (bs : List (List ℕ)). bodies ++ bs) (sym (body_none c.args.coll.now (find test docs) is))) t;
              faults = tt;
            },
            still_others old new u,
          ),
    )
