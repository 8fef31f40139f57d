use Rattle.std.proofs.Common.{◌≡◌, ◌∙◌, rules, w64, to_z, of_z}
use Rattle.std.proofs.Math.Logic.{∥∥₁_map}
use Rattle.bson_store.specs.Find.{Finds}
use Rattle.store_table.specs.Table.{table_state}
use Rattle.bson_store.proofs.KeepLemmas.{emptied}
use Rattle.bson_store.proofs.IndexRewriteLemmas.{rewrite_kept, rewrite_refused}
use Rattle.bson_store.proofs.indexed.table.IndexedTable.rewrite_at.Goals as goal

pub invariant_of-self-in-Break-1 : goal.invariant_of-self-in-Break-1
invariant_of-self-in-Break-1 g c = record { kept = ∥∥₁_map c.args.self.now.kept (rewrite_refused (table_state g.S.Store c.args.self.now.table) (table_state g.S.Store c.rewrite_placed.new.table) c.args.self.now.indexes c.args.found.now.place c.args.body.now c.in_err-coll.field-0.0 c.in_err-coll.ensures.moves) }

pub invariant_of-self-in-Some : goal.invariant_of-self-in-Some
invariant_of-self-in-Some g c =
    let place = c.args.found.now.place in
    let same : to_z w64 (of_z w64 place) ≡ place = search rules in
    let coll = c.in-Some.coll in
    let noted : Finds c.renew.new.self coll.items place c.args.body.now = rw (c.as_slice.ensures.value, same) at c.renew.ensures.noted in
    record {
      kept = ∥∥₁_map c.args.self.now.kept
          (rewrite_kept (table_state g.S.Store c.args.self.now.table) (table_state g.S.Store c.rewrite_placed.new.table) c.args.self.now.indexes c.renew.new.self place c.args.body.now coll (rw c.in-Some.is at c.in_ok-coll.ensures.moves) c.in_ok-coll.ensures.open c.renew.ensures.none
          (λ k p b other h. c.renew.ensures.kept k p b (λ e. other (e ∙ same)) h) noted);
    }

pub invariant_of-self : goal.invariant_of-self
invariant_of-self g c = record { kept = ∥∥₁_map c.args.self.now.kept (emptied (table_state g.S.Store c.args.self.now.table) (table_state g.S.Store c.rewrite_at.new.self) c.args.self.now.indexes c.args.self.now.indexes _ c.rewrite_at.ensures.moves (search rules)) }

pub invariant_of-self-in-None : goal.invariant_of-self-in-None
invariant_of-self-in-None g c = record { kept = ∥∥₁_map c.args.self.now.kept (emptied (table_state g.S.Store c.args.self.now.table) (table_state g.S.Store c.rewrite_placed.new.table) c.args.self.now.indexes c.clear.new.self _ c.in_ok-coll.ensures.moves (search rules)) }

pub returns-in-Some-clause-forgotten : goal.returns-in-Some-clause-forgotten
returns-in-Some-clause-forgotten g c p b other h =
    let same : to_z w64 (of_z w64 c.args.found.now.place) ≡ c.args.found.now.place = search rules in
    c.renew.ensures.others p b (λ e. other (e ∙ same)) h
