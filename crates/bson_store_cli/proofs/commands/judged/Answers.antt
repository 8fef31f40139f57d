use Rattle.std.proofs.Common.{inl, refl, subst, sym}
use Rattle.sqlite.specs.State.{State}
use Rattle.sqlite.specs.Files.{file_state}
use Rattle.sqlite_trees.specs.View.{doubt}
use Rattle.sqlite_pool.specs.Pool.{state}
use Rattle.store_table.proofs.OthersLemmas.{spared_all}
use Rattle.store_table.proofs.TableLemmas.{left_rows}
use Rattle.store_table.specs.Schema.{HasStoreTable}
use Rattle.store_model.specs.State as model
use Rattle.bson_store.specs.Left.{Holds, Keeps}
use Rattle.bson_store.specs.Opening.{Opens}
use Rattle.bson_store.proofs.ReopenLemmas.{held_found}
use Rattle.bson_store_cli.specs.Serving.{IsSoundCopy}
use Rattle.bson_store_cli.proofs.commands.judged.Goals as goal

-- what shows a state, and has no transaction open, has it committed
committed : (s : State) (x : model.State) → Keeps s x → Holds s.now s.committed.trees x
committed s x keeps = inl (keeps.0.0, left_rows s.now s keeps.0.0 s.committed.trees keeps.0.1 (spared_all s.now s.now refl) refl, keeps.0.2)

sound : (old new : State) → Opens old new → HasStoreTable old.now.schema → IsSoundCopy old new
sound old new opened own =
    let listed = opened.listed own in
    let found = opened.found listed.0 listed.2 in
    (found.0, found.1, (found.2.0.0, found.2.0.2), found.3)

pub returns-in-Ok-clause-holds : goal.returns-in-Ok-clause-holds
unfolding doubt state
returns-in-Ok-clause-holds c x finds = subst (λ k. Holds (file_state k).now (file_state k).committed.trees x) (sym c.close.ensures) (committed _ x (c.in-Ok.ensures.finds x finds refl).0)

pub returns-in-Ok-clause-beside : goal.returns-in-Ok-clause-beside
unfolding doubt state
returns-in-Ok-clause-beside c x finds = subst (λ k. Holds (file_state c.args.connection).now (file_state k).committed.trees x) (sym c.close.ensures) (held_found _ _ x finds (c.in-Ok.ensures.opened refl))

pub returns-in-Ok-clause-sound : goal.returns-in-Ok-clause-sound
unfolding doubt state
returns-in-Ok-clause-sound c own = subst (λ k. IsSoundCopy (file_state c.args.connection) (file_state k)) (sym c.close.ensures) (sound _ _ (c.in-Ok.ensures.opened refl) own)
