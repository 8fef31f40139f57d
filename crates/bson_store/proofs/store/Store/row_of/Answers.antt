use Rattle.std.proofs.Common.{Ok, Err, None, ap}
use Rattle.bson_store.specs.Calls.{store_state}
use Rattle.bson_store.specs.Table.{indexed_state as table_state}
use Rattle.store_documents.specs.Names.{name_bytes}
use Rattle.bson_model.specs.View.{view}
use Rattle.bson_store.specs.Calls.{Looks}
use Rattle.bson_store.proofs.MoveLemmas.{rests, moved}
use Rattle.bson_store.proofs.FindLemmas.{unplain_looks, long_looks, found_looks}
use Rattle.bson_store.proofs.store.Store.row_of.Goals as goal

pub returns-in-Err-NotPlain-clause-moves : goal.returns-in-Err-NotPlain-clause-moves
returns-in-Err-NotPlain-clause-moves g c =
    rests (store_state g.S.Store c.args.self.now) (Looks (name_bytes c.args.name) (view c.args.id.now) (Ok None)) (λ docs. unplain_looks docs (name_bytes c.args.name) (view c.args.id.now) c.key_of_id.ensures.sound (c.in-Err-NotPlain.ensures.not_plain (ap Err c.in-Err-NotPlain.field-0-is)))

pub returns-in-Err-TooLong-clause-moves : goal.returns-in-Err-TooLong-clause-moves
returns-in-Err-TooLong-clause-moves g c =
    rests (store_state g.S.Store c.args.self.now) (Looks (name_bytes c.args.name) (view c.args.id.now) (Ok None)) (λ docs. long_looks docs (name_bytes c.args.name) (view c.args.id.now) c.key_of_id.ensures.sound (c.in-Err-TooLong.ensures.too_long (ap Err c.in-Err-TooLong.field-0-is)))

pub returns-in-Ok-named-clause-moves : goal.returns-in-Ok-named-clause-moves
returns-in-Ok-named-clause-moves g c =
    moved (store_state g.S.Store c.args.self.now) (table_state g.S.Store c.named.new.self) _ (Looks (name_bytes c.args.name) (view c.args.id.now) (Ok c.in-Ok-named.found)) (rw (c.as_str-collection.ensures.text, c.as_slice-key.ensures.value) at c.in-Ok-named.ensures.moves) (λ docs after h. found_looks docs after (name_bytes c.args.name) c.in-Ok.key.items (view c.args.id.now) c.in-Ok-named.found c.in-Ok.ensures.ok h)
