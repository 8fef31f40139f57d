use Rattle.std.proofs.Common.{◌≡◌, ◌∙◌, rules, w64, to_z, of_z}
use Rattle.std.proofs.Math.Logic.{∥∥₁_map}
use Rattle.bson_store.specs.Find.{Finds}
use Rattle.bson_store.proofs.IndexFindLemmas.{renewed_too}
use Rattle.store_table.specs.Moves.{with_row}
use Rattle.store_table.specs.Table.{table_state}
use Rattle.bson_store.proofs.KeepLemmas.{keeps, adds_refused, appended}
use Rattle.bson_store.proofs.indexed.table.IndexedTable.append.Goals as goal

pub invariant_of-self : goal.invariant_of-self
invariant_of-self g c = record { kept = ∥∥₁_map c.args.self.now.kept (adds_refused (table_state g.S.Store c.args.self.now.table) (table_state g.S.Store c.append.new.self) c.args.self.now.indexes 1 (with_row c.args.coll.now c.args.idkey.now c.args.body.now) c.in_err-place.field-0.0 c.in_err-place.ensures.moves) }

pub invariant_of-self-2 : goal.invariant_of-self-2
invariant_of-self-2 g c =
    let place = c.in_ok-place.place in
    let same : to_z w64 (of_z w64 place) ≡ place = search rules in
    let noted : Finds c.note.new.self c.args.coll.now place c.args.body.now = rw (c.as_bytes.ensures.value, same) at c.note.ensures.noted in
    record {
      kept = ∥∥₁_map c.args.self.now.kept
          (keeps (table_state g.S.Store c.args.self.now.table) (table_state g.S.Store c.append.new.self) c.args.self.now.indexes c.note.new.self _ c.in_ok-place.ensures.moves c.note.ensures.none
          (λ clean docs after stands p f. appended c.args.self.now.indexes c.note.new.self c.args.coll.now c.args.idkey.now c.args.body.now place docs after (c.in_ok-place.ensures.place clean docs stands) p.done c.note.ensures.kept noted f));
    }

pub returns-clause-forgotten : goal.returns-clause-forgotten
returns-clause-forgotten g c clean docs stands p b other h =
    let place = c.in_ok-place.place in
    let same : to_z w64 (of_z w64 place) ≡ place = search rules in
    c.note.ensures.others p b (λ e. other (e ∙ same ∙ c.in_ok-place.ensures.place clean docs stands)) h

pub returns-in_err-place-clause-renewed : goal.returns-in_err-place-clause-renewed
returns-in_err-place-clause-renewed g c p b h = renewed_too p b c.args.body.now c.args.self.now.indexes.list.items h
