use Rattle.std.proofs.Common.{◌∙◌, ◌++◌, List, ℕ, ap}
use Rattle.store_pipeline.proofs.CopyLemmas.{whole_grown}
use Rattle.store_pipeline.proofs.sorted.copying.copy_unless.Goals as goal

pub returns-clause-few : goal.returns-clause-few
returns-clause-few c = whole_grown c.args.out.now.items c.extend_from_slice.new.self.items c.args.value.tag c.args.key.now c.args.value.payload.now (c.in_ok-extend_from_slice.ensures.items ∙ ap (λ (x : List ℕ). x ++ c.args.value.payload.now) c.in_ok-copy_front.ensures)
