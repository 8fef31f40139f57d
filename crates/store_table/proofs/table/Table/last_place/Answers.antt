use Rattle.std.proofs.Common.{◌≡◌, ◌∙◌, refl, w64, to_z, of_z, arith}
use Rattle.std.proofs.lemmas.Int.{ints}
use Rattle.sqlite.specs.Held.{state}
use Rattle.store_table.proofs.OthersLemmas.{still_others}
use Rattle.store_table.proofs.StatementLemmas.{seen}
use Rattle.store_table.proofs.TableLemmas.{stands_still}
use Rattle.store_table.proofs.table.Table.last_place.Goals as goal

pub returns-clause-moves : goal.returns-clause-moves
returns-clause-moves g c clean =
    let old = state g.S.Store c.args.self.now.conn in
    let new = state g.S.Store c.greatest.new.conn in
    let u = (c.in_ok-place.ensures.read clean).unchanged in (
      omega (arith, clean, c.greatest.ensures.crash.clean),
      λ docs stands.
          let h = stands u.0.was_open in
          let same : to_z w64 (of_z w64 c.in_ok-place.place) ≡ c.in_ok-place.place = omega (arith, ints) in
          (docs, stands_still old new docs u stands, record { same = refl; place = same ∙ c.in_ok-place.ensures.place clean docs h; rising = (seen h.table).rising; faults = tt }, still_others old new u),
    )
