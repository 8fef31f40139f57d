use Rattle.std.proofs.Common.{subst, sym, ◌≡◌, None, ◌/◌}
use Rattle.bson_order.specs.Line.{one_whole}
use Rattle.bson_order.specs.Sizes.{size_of}
use Rattle.bson_order.specs.Wholes.{small}
use Rattle.bson_order.specs.declared.sizes.Size.{Size}
use Rattle.bson_order.proofs.WholeLemmas.{infinite_whole}
use Rattle.bson_order.proofs.wholes.whole_size.Goals as goal

pub returns-in-Infinite : goal.returns-in-Infinite
returns-in-Infinite c = subst (λ (n : Size). None ≡ small (size_of n / one_whole)) (sym c.in-Infinite.is) infinite_whole
