use Rattle.std.proofs.Common.{◌≡◌, ◌⊎◌, Ok, Err, List, map, ap, sym, subst}
use Rattle.std.specs.List.{AllByRecursion}
use Rattle.bson_model.specs.View.{content}
use Rattle.store_update.specs.declared.error.UpdateError.TheVariants.{Memory}
use Rattle.store_pipeline.proofs.FieldLemmas.{groups_stopped, groups_written}
use Rattle.store_pipeline.proofs.grouping.group.Goals as goal
use Rattle.store_pipeline.specs.Faithful.{AreFaithful}
use Rattle.store_pipeline.specs.Grouped.{IsGroup, contents, key_of}
use Rattle.store_pipeline.specs.Groups.{groups_of}
use Rattle.store_pipeline.specs.declared.grouping.KeyGroup.{KeyGroup}

pub returns-in-Ok : goal.returns-in-Ok
returns-in-Ok c = λ ds are.
    let g = c.args.grouping.now in
    let h = c.in_ok-groups.ensures ds are in
    let made = contents c.in-Ok.documents in
    let told = subst (λ (gs : List KeyGroup). (groups_of g ds (map key_of gs) ≡ Ok made) × AreFaithful made) c.as_slice.ensures.value
    (c.in-Ok.ensures ds (subst (λ (gs : List KeyGroup). AllByRecursion (IsGroup g.key ds) gs) (sym c.as_slice.ensures.value) h.each)) in
    groups_written g ds c.in_ok-groups.groups.items h made (map content c.as_slice-in-Ok.result.now) c.write_each.result told (ap (map content) c.as_slice-in-Ok.ensures.value) c.write_each.ensures

pub returns : goal.returns
returns c = λ ds are.
    let g = c.args.grouping.now in
    let h = c.in_ok-groups.ensures ds are in
    let e = c.in-Err.error in
    let told = subst (λ (gs : List KeyGroup). (groups_of g ds (map key_of gs) ≡ Err e) ⊎ (e ≡ Memory)) c.as_slice.ensures.value
    (c.in-Err.ensures ds (subst (λ (gs : List KeyGroup). AllByRecursion (IsGroup g.key ds) gs) (sym c.as_slice.ensures.value) h.each)) in
    groups_stopped g ds c.in_ok-groups.groups.items h e c.stopped.result told c.stopped.ensures
