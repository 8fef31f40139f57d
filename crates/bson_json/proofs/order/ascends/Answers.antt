use Rattle.std.proofs.Common.{rules}
use Rattle.std.specs.Ordering.{nat_cmp, is_lt}
use Rattle.std.specs.Cmp.Lexicographic.{slice_cmp}
use Rattle.std.proofs.lemmas.Fn.{always_returns_same}
use Rattle.bson_json.proofs.order.ascends.Goals as goal

pub returns : goal.returns
returns c = c.is_sorted_by.ensures.cases (λ x y. is_lt (slice_cmp nat_cmp x.0.now y.0.now)) (always_returns_same _ _ _ (λ a r f' k. search rules))
