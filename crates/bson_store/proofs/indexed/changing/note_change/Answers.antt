use Rattle.std.proofs.Common.{◌≡◌, ◌∙◌, sym, subst, w64, to_z, of_z, arith}
use Rattle.std.proofs.lemmas.Int.{ints}
use Rattle.store_table.specs.declared.change.Change.{Change}
use Rattle.bson_store.specs.Changing.{Forgets, GivesBody}
use Rattle.bson_store.proofs.IndexWholeLemmas.{change_added, change_rewritten, change_removed}
use Rattle.bson_store.proofs.indexed.changing.note_change.Goals as goal

pub returns-in-Add-clause-noted : goal.returns-in-Add-clause-noted
returns-in-Add-clause-noted c docs h =
    let same : to_z w64 (of_z w64 c.in-Add.place) ≡ c.in-Add.place = omega (arith, ints) in
    change_added c.args.indexes.now c.note.new.self c.args.change.now c.in-Add.place (to_z w64 (of_z w64 c.in-Add.place)) c.in-Add.coll _ c.in-Add.body _ _ docs c.in-Add.is same c.as_bytes.ensures.value c.as_slice.ensures.value c.note.ensures.kept c.note.ensures.noted h

pub returns-in-Rewrite-clause-noted : goal.returns-in-Rewrite-clause-noted
returns-in-Rewrite-clause-noted c docs h =
    let same : to_z w64 (of_z w64 c.in-Rewrite.place) ≡ c.in-Rewrite.place = omega (arith, ints) in
    change_rewritten c.args.indexes.now c.renew_all.new.self c.args.change.now c.in-Rewrite.place (to_z w64 (of_z w64 c.in-Rewrite.place)) c.in-Rewrite.old c.in-Rewrite.body _ docs c.in-Rewrite.is same c.as_slice-in-Rewrite-2.ensures.value c.renew_all.ensures.kept c.renew_all.ensures.noted h

pub returns-in-Remove-clause-noted : goal.returns-in-Remove-clause-noted
returns-in-Remove-clause-noted c docs h =
    let same : to_z w64 (of_z w64 c.in-Remove.place) ≡ c.in-Remove.place = omega (arith, ints) in
    change_removed c.args.indexes.now c.forget.new.self c.args.change.now c.in-Remove.place (to_z w64 (of_z w64 c.in-Remove.place)) c.in-Remove.old docs c.in-Remove.is same c.forget.ensures.kept h

pub returns-in-Add-clause-gone : goal.returns-in-Add-clause-gone
returns-in-Add-clause-gone c = subst (λ (x : Change). Forgets x c.note.new.self) (sym c.in-Add.is) tt

pub returns-in-Add-clause-others : goal.returns-in-Add-clause-others
returns-in-Add-clause-others c p b far h =
    let same : to_z w64 (of_z w64 c.in-Add.place) ≡ c.in-Add.place = omega (arith, ints) in
    c.note.ensures.others p b (λ e. far (subst (GivesBody p) (sym c.in-Add.is) (sym (e ∙ same)))) h

pub returns-in-Rewrite-clause-gone : goal.returns-in-Rewrite-clause-gone
returns-in-Rewrite-clause-gone c = subst (λ (x : Change). Forgets x c.renew_all.new.self) (sym c.in-Rewrite.is) tt

pub returns-in-Rewrite-clause-others : goal.returns-in-Rewrite-clause-others
returns-in-Rewrite-clause-others c p b far h =
    let same : to_z w64 (of_z w64 c.in-Rewrite.place) ≡ c.in-Rewrite.place = omega (arith, ints) in
    c.renew_all.ensures.others p b (λ e. far (subst (GivesBody p) (sym c.in-Rewrite.is) (sym (e ∙ same)))) h

pub returns-in-Remove-clause-gone : goal.returns-in-Remove-clause-gone
returns-in-Remove-clause-gone c =
    let same : to_z w64 (of_z w64 c.in-Remove.place) ≡ c.in-Remove.place = omega (arith, ints) in
    subst (λ (x : Change). Forgets x c.forget.new.self) (sym c.in-Remove.is) (rw (same, c.as_slice-in-Remove.ensures.value) at c.forget.ensures.gone)

pub returns-in-Remove-clause-others : goal.returns-in-Remove-clause-others
returns-in-Remove-clause-others c p b far h = c.forget.ensures.missed p b h
