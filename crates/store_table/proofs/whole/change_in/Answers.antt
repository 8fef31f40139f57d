use Rattle.std.proofs.Common.{◌≡◌, ◌<ℤ◌, ◌+ℤ◌, ℤ, pos, List, w64, to_z, of_z, refl, sym, subst, arith}
use Rattle.std.proofs.lemmas.Int.{ints}
use Rattle.sqlite.specs.Held.{state}
use Rattle.store_table.specs.Rows.{TableRow, AreBelow, Inside}
use Rattle.store_table.proofs.WholeLemmas.{add_is, rewrite_is, remove_is, below_place, below_added, below_rewritten, below_without}
use Rattle.store_table.proofs.whole.change_in.Goals as goal

pub returns-in_ok-put-in-Add-clause-done : goal.returns-in_ok-put-in-Add-clause-done
returns-in_ok-put-in-Add-clause-done g c clean first docs inside below =
    let same : to_z w64 (of_z w64 c.in-Add.place) ≡ c.in-Add.place = omega (arith, ints) in
    let low : c.args.last <ℤ to_z w64 (of_z w64 c.in-Add.place) = omega (arith, ints, c.if-place-last.false) in
    subst (λ (ds : List TableRow). Inside (state g.S.Store c.put.new.tx.conn.now) first ds)
    (add_is c.args.change.now c.in-Add.place (to_z w64 (of_z w64 c.in-Add.place)) c.in-Add.coll c.in-Add.idkey c.in-Add.body _ _ _ docs c.in-Add.is same c.as_str.ensures.value c.as_slice.ensures.value c.as_slice-in-Add.ensures.value)
    (c.in_ok-put-in-Add.ensures.added clean first docs inside (below_place c.args.last (to_z w64 (of_z w64 c.in-Add.place)) docs low below))

pub returns-in_ok-put-in-Add-clause-below : goal.returns-in_ok-put-in-Add-clause-below
returns-in_ok-put-in-Add-clause-below g c docs below =
    let same : to_z w64 (of_z w64 c.in-Add.place) ≡ c.in-Add.place = omega (arith, ints) in
    let low : c.args.last <ℤ to_z w64 (of_z w64 c.in-Add.place) = omega (arith, ints, c.if-place-last.false) in
    subst (λ (ds : List TableRow). AreBelow (to_z w64 (of_z w64 c.in-Add.place) +ℤ pos 1) ds)
    (add_is c.args.change.now c.in-Add.place (to_z w64 (of_z w64 c.in-Add.place)) c.in-Add.coll c.in-Add.idkey c.in-Add.body _ _ _ docs c.in-Add.is same c.as_str.ensures.value c.as_slice.ensures.value c.as_slice-in-Add.ensures.value)
    (below_added c.args.last (to_z w64 (of_z w64 c.in-Add.place)) _ _ _ docs low below)

pub returns-in_ok-put-in-Add-clause-spared : goal.returns-in_ok-put-in-Add-clause-spared
returns-in_ok-put-in-Add-clause-spared g c clean first docs inside below =
    let low : c.args.last <ℤ to_z w64 (of_z w64 c.in-Add.place) = omega (arith, ints, c.if-place-last.false) in
    c.in_ok-put-in-Add.ensures.spared clean first docs inside (below_place c.args.last (to_z w64 (of_z w64 c.in-Add.place)) docs low below)

pub returns-in_ok-rewrite_in-in-Rewrite-clause-done : goal.returns-in_ok-rewrite_in-in-Rewrite-clause-done
returns-in_ok-rewrite_in-in-Rewrite-clause-done g c clean first docs inside below =
    let same : to_z w64 (of_z w64 c.in-Rewrite.place) ≡ c.in-Rewrite.place = omega (arith, ints) in
    subst (λ (ds : List TableRow). Inside (state g.S.Store c.rewrite_in.new.tx.conn.now) first ds)
    (rewrite_is c.args.change.now c.in-Rewrite.place (to_z w64 (of_z w64 c.in-Rewrite.place)) _ c.in-Rewrite.body _ docs c.in-Rewrite.is same c.as_slice-in-Rewrite.ensures.value)
    (c.in_ok-rewrite_in-in-Rewrite.ensures.done clean first docs inside)

pub returns-in_ok-rewrite_in-in-Rewrite-clause-below : goal.returns-in_ok-rewrite_in-in-Rewrite-clause-below
returns-in_ok-rewrite_in-in-Rewrite-clause-below g c docs below =
    let same : to_z w64 (of_z w64 c.args.last) ≡ c.args.last = omega (arith, ints) in
    subst (λ (ds : List TableRow). AreBelow (to_z w64 (of_z w64 c.args.last) +ℤ pos 1) ds)
    (rewrite_is c.args.change.now c.in-Rewrite.place c.in-Rewrite.place _ c.in-Rewrite.body c.in-Rewrite.body.items docs c.in-Rewrite.is refl refl)
    (below_rewritten _ c.in-Rewrite.place c.in-Rewrite.body.items docs (subst (λ (q : ℤ). AreBelow (q +ℤ pos 1) docs) (sym same) below))

pub returns-in_ok-remove_in-in-Remove-clause-done : goal.returns-in_ok-remove_in-in-Remove-clause-done
returns-in_ok-remove_in-in-Remove-clause-done g c clean first docs inside below =
    let same : to_z w64 (of_z w64 c.in-Remove.place) ≡ c.in-Remove.place = omega (arith, ints) in
    subst (λ (ds : List TableRow). Inside (state g.S.Store c.remove_in.new.tx.conn.now) first ds)
    (remove_is c.args.change.now c.in-Remove.place (to_z w64 (of_z w64 c.in-Remove.place)) _ docs c.in-Remove.is same)
    (c.in_ok-remove_in-in-Remove.ensures.done clean first docs inside)

pub returns-in_ok-remove_in-in-Remove-clause-below : goal.returns-in_ok-remove_in-in-Remove-clause-below
returns-in_ok-remove_in-in-Remove-clause-below g c docs below =
    let same : to_z w64 (of_z w64 c.args.last) ≡ c.args.last = omega (arith, ints) in
    subst (λ (ds : List TableRow). AreBelow (to_z w64 (of_z w64 c.args.last) +ℤ pos 1) ds)
    (remove_is c.args.change.now c.in-Remove.place c.in-Remove.place _ docs c.in-Remove.is refl)
    (below_without _ c.in-Remove.place docs (subst (λ (q : ℤ). AreBelow (q +ℤ pos 1) docs) (sym same) below))
