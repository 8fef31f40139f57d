use Rattle.std.proofs.Common.{ap, ◌∙◌, codes, w32, to_z, of_z}
use Rattle.std.proofs.lemmas.Int.{to_z-of_z}
use Rattle.bson_base.specs.Value.{int32, scalar}
use Rattle.bson_pairs.specs.Keyed.{put}
use Rattle.bson_model.specs.View.{pairs_of}
use Rattle.bson_model.proofs.ViewLemmas.{view-Int32}
use Rattle.fallowtime_messages.specs.Answers.{after_changed, after_list}
use Rattle.fallowtime_messages.proofs.ValueLemmas.{told_written}
use Rattle.fallowtime_messages.proofs.answers.written.Goals as goal

pub returns : goal.returns
returns c =
    let n = c.args.number in
    let m = to_z w32 (of_z w32 n) in
    let first = c.in_ok-put.ensures ∙ ap (λ v. put (codes "n") v (pairs_of c.new-told.result)) (view-Int32 m ∙ ap (λ z. scalar (int32 z)) (to_z-of_z w32 n c.ranges.number)) ∙ ap (put (codes "n") (scalar (int32 n))) c.new-told.ensures in
    told_written c.done.result (pairs_of c.put_list-2.new.told) n c.args.changed c.args.ids.items c.args.errors.items
    (c.in_ok-put_list-2.ensures ∙ ap (after_list (codes "writeErrors") c.args.errors.items) (c.in_ok-put_list.ensures ∙ ap (after_list (codes "upserted") c.args.ids.items) (c.in_ok-put_changed.ensures ∙ ap (after_changed c.args.changed) first)))
    c.done.ensures
