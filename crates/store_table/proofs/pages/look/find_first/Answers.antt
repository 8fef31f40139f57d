use Rattle.std.proofs.Common.{ℕ, sym, subst, arith}
use Rattle.sqlite_value.specs.Keys.{plain}
use Rattle.sqlite_pages.specs.Calls.{IsClean}
use Rattle.sqlite_btree.specs.Stored.{IsLaidIn}
use Rattle.sqlite_btree.specs.Batch.{IsBatchOf}
use Rattle.sqlite_store.specs.Db.{record_order}
use Rattle.sqlite_store.proofs.OrderLemmas.{strict}
use Rattle.store_table.proofs.DocumentLemmas.{first_of}
use Rattle.store_table.proofs.pages.look.find_first.Goals as goal

pub returns-clause-done : goal.returns-clause-done
returns-clause-done g c clean layout records probe laid index =
    let before : IsClean g.P.Pages c.fill.new.store = omega (arith, clean, c.next.ensures.kept.clean) in
    let filled = c.in_ok-fill.ensures.done before (record_order plain) layout records (strict plain) probe laid index in
    let valid = subst (λ (n : ℕ). IsBatchOf layout n c.fill.new.batch) (sym c.fill.ensures.kept.same_size) filled.valid in
    let took = c.in_ok-some.ensures.done clean layout (subst (IsLaidIn layout) (sym c.fill.ensures.pages) laid) valid in
    first_of c.in_ok-some.some _ layout _ _ _ _ c.fill.new.batch c.next.new.self c.fill.ensures.pages filled took
