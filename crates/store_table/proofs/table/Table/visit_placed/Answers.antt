use Rattle.std.proofs.Common.{refl, arith}
use Rattle.sqlite.specs.Held.{state}
use Rattle.store_table.proofs.ScanLemmas.{placed_asks, whole_placed, some_placed}
use Rattle.store_table.proofs.OthersLemmas.{still_others}
use Rattle.store_table.proofs.TableLemmas.{stands_still, placed_refused}
use Rattle.store_table.proofs.table.Table.visit_placed.Goals as goal

pub visit_rows-requires : goal.visit_rows-requires
visit_rows-requires g c = placed_asks

pub returns-clause-moves : goal.returns-clause-moves
returns-clause-moves g c clean =
    let old = state g.S.Store c.args.self.now.conn in
    let new = state g.S.Store c.visit_rows.new.conn in
    let u = (c.in_ok-all.ensures.read clean).unchanged in
    let v = c.visit_rows.new.visitor in (
      omega (arith, clean, c.visit_rows.ensures.crash.clean),
      λ docs stands.
          let h = stands u.0.was_open in (
            docs,
            stands_still old new docs u stands,
            record {
              same = refl;
              whole = λ none all. whole_placed (g.V.VisitPlaced.took c.args.visitor.now) v c.args.coll.now old docs h new (rw c.as_bytes.ensures.value at (c.in_ok-all.ensures.whole clean none all));
              some = λ none. some_placed (g.V.VisitPlaced.took c.args.visitor.now) v c.args.coll.now old docs h (rw c.as_bytes.ensures.value at (c.visit_rows.ensures.some clean none));
              faults = tt;
            },
            still_others old new u,
          ),
    )

pub returns-in_err-all-clause-moves : goal.returns-in_err-all-clause-moves
returns-in_err-all-clause-moves g c clean =
    let old = state g.S.Store c.args.self.now.conn in
    let new = state g.S.Store c.visit_rows.new.conn in (
      omega (arith, clean, c.visit_rows.ensures.crash.clean),
      λ docs stands. (
        docs,
        (λ still. let it = (c.in_err-all.ensures.read clean).refused still in it.1 docs (stands it.0)),
        placed_refused (g.V.VisitPlaced.took c.args.visitor.now) c.args.visitor.now c.visit_rows.new.visitor c.args.coll.now old docs stands c.from_residual.result c.in_err-all.field-0.0 c.from_residual.ensures.1
            (λ none. rw c.as_bytes.ensures.value at (c.visit_rows.ensures.some clean none)),
        (c.in_err-all.ensures.read clean).others docs stands,
      ),
    )
