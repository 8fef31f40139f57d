use Rattle.store_update.proofs.UpdateLemmas.{put_is}
use Rattle.store_update.proofs.arrays.put_at.Goals as goal

pub returns : goal.returns
returns c =
    put_is c.args.place c.place_in.result c.args.new.now c.args.old.now c.split_at.result.0.now c.split_at.result.1.now c.in_ok-all.all.items c.copy_behind.new.all.items c.copy_behind-2.new.all.items
    c.place_in.ensures.value c.split_at.ensures.front c.split_at.ensures.back c.in_ok-all.ensures c.in_ok-copy_behind.ensures c.in_ok-copy_behind-2.ensures
