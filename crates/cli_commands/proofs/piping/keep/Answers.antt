use Rattle.std.proofs.Common.{ℕ, List, subst}
use Rattle.sqlite.specs.Steps.{over_memory}
use Rattle.sqlite.proofs.Callers.{memory_is_clean}
use Rattle.store_table.specs.Moves.{Moves}
use Rattle.store_model.specs.State.{in_bytes, insert, done, refused}
use Rattle.bson_base.specs.Device.{Feed}
use Rattle.bson_store.specs.Calls.{store_connection, store_state, DoesBytes}
use Rattle.cli_commands.proofs.KeepLemmas.{name, input_kept, input_not_kept}
use Rattle.cli_commands.proofs.piping.keep.Goals as goal

pub returns-in-Ok-insert_raw-clause-ok : goal.returns-in-Ok-insert_raw-clause-ok
returns-in-Ok-insert_raw-clause-ok g c =
    let old : Feed = g.I.Source.feed c.args.input.now in
    let new : Feed = g.I.Source.feed c.read_all.new.source in
    let s = store_state over_memory c.in_ok-store.store in
    let t = store_state over_memory c.insert_raw.new.self in
    let moves = subst (λ (bytes : List ℕ). Moves s t (DoesBytes name (insert in_bytes) bytes done)) c.deref.ensures.value c.in-Ok-insert_raw.ensures.moves in
    input_kept s t old new c.in-Ok.bytes.items (memory_is_clean (store_connection c.insert_raw.new.self)) c.in_ok-store.ensures.empty c.in-Ok.ensures.ok moves

pub returns-in-Err-insert_raw-clause-err : goal.returns-in-Err-insert_raw-clause-err
returns-in-Err-insert_raw-clause-err g c =
    let old : Feed = g.I.Source.feed c.args.input.now in
    let new : Feed = g.I.Source.feed c.read_all.new.source in
    let s = store_state over_memory c.in_ok-store.store in
    let t = store_state over_memory c.insert_raw.new.self in
    let e = c.in-Err-insert_raw.error in
    let moves = subst (λ (bytes : List ℕ). Moves s t (DoesBytes name (insert in_bytes) bytes (refused e.kind e.document))) c.deref.ensures.value c.in-Err-insert_raw.ensures.moves in
    input_not_kept s t old new c.in-Ok.bytes.items e.kind e.document (memory_is_clean (store_connection c.insert_raw.new.self)) c.in_ok-store.ensures.empty c.in-Ok.ensures.ok moves
