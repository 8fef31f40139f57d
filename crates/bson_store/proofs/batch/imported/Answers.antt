use Rattle.std.proofs.Common.{Some, drop, take, ap, refl, subst, sym, ◌∙◌}
use Rattle.store_model.specs.Reading.{ReadsStream}
use Rattle.bson_base.specs.Device.{Feed}
use Rattle.store_model.specs.State.{import, on}
use Rattle.bson_store.specs.Left.{Leaves}
use Rattle.bson_store.specs.Calls.{store_state}
use Rattle.bson_store.specs.Many.{DoesMany, Imports}
use Rattle.bson_store.specs.Runs.{Imported}
use Rattle.bson_store.proofs.ImportLemmas.{from_memory, whole_slice}
use Rattle.bson_store.proofs.CrashLemmas.{memory_leaves}
use Rattle.bson_store.proofs.MoveLemmas.{moved}
use Rattle.bson_store.proofs.batch.imported.Goals as goal
use Rattle.bson_store.specs.Refusals.{as_number}
use Rattle.bson_store.proofs.RunLemmas.{reply_open}

pub returns-clause-moves : goal.returns-clause-moves
returns-clause-moves g c =
    let n = c.args.name.now in
    let bytes = c.args.bytes.now in
    let s = c.new-source.result in
    let t = c.import.new.reader in
    let old : Feed = record { failures = 0; supply = record { given = Some (take s.at s.bytes.now); left = Some (drop s.at s.bytes.now) } } in
    let new : Feed = record { failures = 0; supply = record { given = Some (take t.at t.bytes.now); left = Some (drop t.at t.bytes.now) } } in
    let all = ap (λ at. drop at s.bytes.now) c.new-source.ensures.at ∙ c.new-source.ensures.bytes in
    moved (store_state g.S.Store c.args.store.now) (store_state g.S.Store c.import.new.self) (Imports n old new c.import.result) (Imported n bytes c.counted.result) c.import.ensures.moves
    (λ docs after h. subst (λ q. DoesMany n (ReadsStream bytes) q docs after) (sym c.counted.ensures)
    (from_memory docs after n bytes old new c.import.result refl refl (λ bs all_read. whole_slice (drop s.at s.bytes.now) new.supply.left bs all_read.0.1.1 all_read.1 ∙ all) h))

pub returns-clause-crash : goal.returns-clause-crash
returns-clause-crash g c ds stop told =
    let n = c.args.name.now in
    let bytes = c.args.bytes.now in
    let s = c.new-source.result in
    let t = c.import.new.reader in
    let old : Feed = record { failures = 0; supply = record { given = Some (take s.at s.bytes.now); left = Some (drop s.at s.bytes.now) } } in
    let new : Feed = record { failures = 0; supply = record { given = Some (take t.at t.bytes.now); left = Some (drop t.at t.bytes.now) } } in
    let all = ap (λ at. drop at s.bytes.now) c.new-source.ensures.at ∙ c.new-source.ensures.bytes in
    subst (λ q. Leaves (store_state g.S.Store c.args.store.now) (store_state g.S.Store c.import.new.self) (on n (import ds stop)) q) (sym c.counted.ensures)
    (memory_leaves (store_state g.S.Store c.args.store.now) (store_state g.S.Store c.import.new.self) n bytes old new c.import.result (λ bs took. whole_slice (drop s.at s.bytes.now) new.supply.left bs took.0.1.1 took.1 ∙ all) c.import.ensures.crash ds stop told)

pub returns-clause-open : goal.returns-clause-open
returns-clause-open g c = reply_open (store_state g.S.Store c.args.store.now) (store_state g.S.Store c.import.new.self) as_number c.import.result c.counted.result c.counted.ensures c.import.ensures.open
