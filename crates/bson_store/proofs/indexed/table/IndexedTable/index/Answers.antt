use Rattle.std.proofs.Common.{◌≡◌, ◌⊎◌, true, subst, sym, rules}
use Rattle.std.proofs.Math.Logic.{∥∥₁_map}
use Rattle.store_question.specs.Filters.{path_of}
use Rattle.bson_store.specs.Find.{Has, Misses}
use Rattle.bson_store.specs.declared.indexed.indexes.Indexes.{Indexes}
use Rattle.store_table.specs.Table.{table_state}
use Rattle.bson_store.proofs.KeepLemmas.{read_keeps}
use Rattle.bson_store.proofs.AddLemmas.{adds_index, after_add, made_on, only_rows}
use Rattle.bson_store.proofs.indexed.table.IndexedTable.index.Goals as goal

pub invariant_of-self : goal.invariant_of-self
invariant_of-self g c = record { kept = ∥∥₁_map c.shows_rows.new.self.kept (read_keeps (table_state g.S.Store c.shows_rows.new.self.table) (table_state g.S.Store c.gather.new.table) c.shows_rows.new.self.indexes _ c.gather.ensures.moves (λ docs after p. p.same)) }

pub invariant_of-self-2 : goal.invariant_of-self-2
invariant_of-self-2 g c =
    let shows : c.in_ok-shows_rows.field-0 ≡ true = (let f = c.if-not-branch.false in search rules) in
    let ixs = c.shows_rows.new.self.indexes in
    record {
      kept = ∥∥₁_map c.shows_rows.new.self.kept
          (after_add (table_state g.S.Store c.shows_rows.new.self.table) (table_state g.S.Store c.gather.new.table) ixs c.add.new.self c.in_ok-index.index c.args.coll.now (path_of c.args.path.items) c.add.result (c.in_ok-shows_rows.ensures.shown shows) c.in_ok-index.ensures.moves c.add.ensures.added c.add.ensures.refused);
    }

pub returns-clause-forgotten : goal.returns-clause-forgotten
returns-clause-forgotten g c clean docs stands p b far h =
    let mid = c.shows_rows.new.self in
    let missed : Misses mid.indexes p b = subst (λ (ixs : Indexes). Misses ixs p b) (sym c.shows_rows.ensures.indexes) h in
    c.add.ensures.missed p b missed
    (only_rows (table_state g.S.Store c.args.self.now.table) (table_state g.S.Store mid.table) (table_state g.S.Store c.gather.new.table) c.in_ok-shows_rows.field-0 c.args.coll.now (path_of c.args.path.items) c.in_ok-index.index c.in_ok-shows_rows.ensures.moves c.in_ok-index.ensures.moves clean docs stands p b far)

pub returns-clause-only : goal.returns-clause-only
returns-clause-only g c clean docs stands k p h =
    let mid = c.shows_rows.new.self in
    let coll = c.args.coll.now in
    let path = path_of c.args.path.items in
    let ix = c.in_ok-index.index in
    let on = made_on (table_state g.S.Store c.args.self.now.table) (table_state g.S.Store mid.table) (table_state g.S.Store c.gather.new.table) c.in_ok-shows_rows.field-0 coll path ix c.in_ok-shows_rows.ensures.moves c.in_ok-index.ensures.moves clean docs stands in
    subst (λ (ixs : Indexes). Has ixs k p ⊎ ((k ≡ coll) × (p ≡ path))) c.shows_rows.ensures.indexes (adds_index mid.indexes c.add.new.self ix coll path on c.add.ensures.only k p h)
