use Rattle.std.proofs.Common.{IsTrue, refl, ◌∙◌, arith, rules}
use Rattle.sqlite.specs.Held.{state}
use Rattle.store_table.proofs.NameLemmas.{names_asks, names_of}
use Rattle.store_table.proofs.OthersLemmas.{still_others}
use Rattle.store_table.proofs.TableLemmas.{stands_still}
use Rattle.store_table.proofs.table.Table.collections.Goals as goal

pub visit_rows-requires : goal.visit_rows-requires
visit_rows-requires g c = names_asks

pub returns-clause-moves : goal.returns-clause-moves
returns-clause-moves g c clean =
    let old = state g.S.Store c.args.self.now.conn in
    let new = state g.S.Store c.visit_rows.new.conn in
    let u = (c.in_ok-ended.ensures.read clean).unchanged in
    let all : IsTrue c.in_ok-ended.ended = c.if-not-ended.false in
    let t = c.in_ok-ended.ensures.whole clean (search rules) all in (
      omega (arith, clean, c.visit_rows.ensures.crash.clean),
      λ docs stands.
          (docs, stands_still old new docs u stands, record { same = refl; names = λ name. t.2 c.if-failed.false name ∙ names_of old new docs t.0 name (stands u.0.was_open) t.1; faults = tt }, still_others old new u),
    )
