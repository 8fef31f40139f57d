use Rattle.std.proofs.Common.{rules, ◌≡◌, false, sym, ◌∙◌}
use Rattle.sqlite.specs.Held.{state}
use Rattle.store_table.proofs.SurveyLemmas.{opened_if, says_if, renews_if, made_if, told_if, makes_if}
use Rattle.store_table.proofs.opening.prepare.Goals as goal

pub returns-then-has_table-clause-opened : goal.returns-then-has_table-clause-opened
returns-then-has_table-clause-opened g c clean =
    let old = state g.S.Store c.args.conn.now in
    let new = state g.S.Store c.settle_keys.new.conn in
    let auto : old.in_transaction ≡ false = search rules in
    let live = c.has_table.ensures.live in
    opened_if (g.C.RowCheck.renews c.args.check.now) old new live auto (c.is_autocommit.ensures.settled (search rules)) (sym c.has_table.ensures.there ∙ c.if-has_table.true) c.settle_keys.result (c.settle_keys.ensures.settled clean live) (c.settle_keys.ensures.read clean)

pub returns-then-has_table-clause-refused : goal.returns-then-has_table-clause-refused
returns-then-has_table-clause-refused g c clean =
    says_if (g.C.RowCheck.renews c.args.check.now) (state g.S.Store c.args.conn.now) (state g.S.Store c.settle_keys.new.conn) (sym c.has_table.ensures.there ∙ c.if-has_table.true) c.settle_keys.result (c.settle_keys.ensures.refused clean)

pub returns-then-has_table-clause-crash : goal.returns-then-has_table-clause-crash
returns-then-has_table-clause-crash g c =
    renews_if (g.C.RowCheck.renews c.args.check.now) (state g.S.Store c.args.conn.now) (state g.S.Store c.settle_keys.new.conn) (sym c.has_table.ensures.there ∙ c.if-has_table.true) c.settle_keys.ensures.crash

pub returns-clause-crash : goal.returns-clause-crash
returns-clause-crash g c =
    makes_if (g.C.RowCheck.renews c.args.check.now) (state g.S.Store c.args.conn.now) (state g.S.Store c.make_table.new.conn) (sym c.has_table.ensures.there ∙ c.if-has_table.false) c.make_table.ensures.crash

pub returns-clause-opened : goal.returns-clause-opened
returns-clause-opened g c clean =
    let old = state g.S.Store c.args.conn.now in
    let auto : old.in_transaction ≡ false = search rules in
    made_if (g.C.RowCheck.renews c.args.check.now) old (state g.S.Store c.make_table.new.conn) (sym c.has_table.ensures.there ∙ c.if-has_table.false) c.make_table.result (c.make_table.ensures.made clean) (c.make_table.ensures.beside clean auto)

pub returns-clause-refused : goal.returns-clause-refused
returns-clause-refused g c clean =
    told_if (g.C.RowCheck.renews c.args.check.now) (state g.S.Store c.args.conn.now) (state g.S.Store c.make_table.new.conn) c.make_table.result c.make_table.ensures.told
