use Rattle.std.proofs.Common.{◌≡◌, ◌++◌, ◌∷◌, [], ℤ, w64, to_z, of_z, subst, arith, rules}
use Rattle.sqlite_pages.specs.Outcome.{doubt}
use Rattle.sqlite_pool.specs.Pool.{state, usable}
use Rattle.sqlite_pool.specs.StoredLaws.{Keeps-trans}
use Rattle.store_table.specs.Rows.{AreBelow}
use Rattle.store_table.proofs.CleanLemmas.{clean_zero, zero_clean}
use Rattle.store_table.specs.Store.{HasStore, row_at}
use Rattle.store_table.proofs.WriterLemmas.{appended}
use Rattle.store_table.proofs.pages.writer.Writer.append.Goals as goal

pub returns-in-Ok-add-clause-done : goal.returns-in-Ok-add-clause-done
returns-in-Ok-add-clause-done g c clean first docs serves none =
    let it = c.next_place.new.self in
    let mid = state it.pool in
    let late = state c.add.new.pages in
    let zero = clean_zero late.is_clean clean in
    let before : doubt mid.is_clean ≡ 0 = omega (arith, zero, c.add.ensures.kept.clean) in
    let sure = zero_clean mid.is_clean before in
    let coll = c.args.coll.now in
    let idkey = c.args.idkey.now in
    let body = c.args.body.now in
    let place : to_z w64 (of_z w64 c.in-Ok.place) ≡ c.in-Ok.place = search rules in
    appended first mid late (usable it.pool) (usable c.add.new.pages) it.roots.table it.roots.index docs c.in-Ok.place coll idkey body c.add.ensures.kept.in_order.keeps (c.in-Ok.ensures.found sure first docs serves).0
    (λ version s. subst (λ (p : ℤ). AreBelow p docs → HasStore first mid.page_size (usable c.add.new.pages) version it.roots.table it.roots.index (docs ++ row_at p coll idkey body ∷ [])) place (λ below. c.in-Ok-add.ensures.done zero first version docs s below none))
    (c.next_place.ensures.same sure first docs serves)

pub returns-in-Ok-add-clause-room : goal.returns-in-Ok-add-clause-room
returns-in-Ok-add-clause-room g c clean first docs serves =
    let mid = state c.next_place.new.self.pool in
    let late = state c.add.new.pages in
    let before : doubt mid.is_clean ≡ 0 = omega (arith, clean_zero late.is_clean clean, c.add.ensures.kept.clean) in
    (c.in-Ok.ensures.found (zero_clean mid.is_clean before) first docs serves).1

pub returns-in-Ok-add-clause-keeps : goal.returns-in-Ok-add-clause-keeps
returns-in-Ok-add-clause-keeps g c = Keeps-trans _ _ _ c.next_place.ensures.keeps c.add.ensures.kept.in_order.keeps

pub returns-in-Err-add-clause-keeps : goal.returns-in-Err-add-clause-keeps
returns-in-Err-add-clause-keeps g c = Keeps-trans _ _ _ c.next_place.ensures.keeps c.add.ensures.kept.in_order.keeps
