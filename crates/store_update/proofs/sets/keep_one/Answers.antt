use Rattle.std.proofs.Common.{map}
use Rattle.bson_model.specs.View.{view}
use Rattle.store_update.proofs.SetLemmas.{one_kept, one_out}
use Rattle.store_update.proofs.sets.keep_one.Goals as goal

pub returns-then-has : goal.returns-then-has
returns-then-has c = one_out (map view c.args.values.now) (view c.args.item.now) (map view c.args.left.now.items) c.has.result c.has.ensures c.if-has.true

pub returns : goal.returns
returns c = one_kept (map view c.args.values.now) (view c.args.item.now) c.args.left.now.items c.push.new.self.items c.in_ok-try_clone.field-0 c.has.result c.has.ensures c.if-has.false c.in_ok-try_clone.ensures c.in_ok-push.ensures.items
