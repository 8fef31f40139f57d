use Rattle.store_pipeline.proofs.GroupLemmas.{put_again, put_new}
use Rattle.store_pipeline.proofs.grouping.put_in.Goals as goal

pub returns-in-Ok : goal.returns-in-Ok
returns-in-Ok c = λ o ds d h is tree.
    put_again o ds d c.args.groups.now.items c.as_slice.result.now c.args.key c.args.body.now h tree is c.as_slice.ensures.value c.in-Ok.place c.index_mut.result.now c.put_last.new.group c.put_last.result c.in-Ok.ensures.bound c.in-Ok.ensures.place c.index_mut.ensures.value c.put_last.ensures

pub returns-in_ok-insert-in-Err : goal.returns-in_ok-insert-in-Err
returns-in_ok-insert-in-Err c = λ o ds d h is tree.
    put_new o ds d c.args.groups.now.items c.as_slice.result.now c.args.key c.args.body.now h tree is c.as_slice.ensures.value c.in-Err.place _ c.insert.new.self.items c.in-Err.ensures.bound c.in-Err.ensures.place c.in_ok-group_of_one-in-Err.ensures c.in_ok-insert-in-Err.ensures.items
