-- Texts are compared by one part.
use Rattle.std.proofs.Common.{◌≡◌, ℕ, List, refl, ◌∙◌}
use Rattle.std.specs.Cmp.Lexicographic.{slice_cmp}
use Rattle.std.specs.Ordering.{nat_cmp, ordering_then}
use Rattle.std.specs.declared.cmp.Ordering.{Ordering}
use Rattle.std.specs.declared.cmp.Ordering.TheVariants.{Less, Equal, Greater}
use Rattle.bson_base.specs.Value.{string}
use Rattle.bson_order.specs.Order.{parts, parts_key}
use Rattle.bson_order.proofs.KeyLemmas.{parts_compared}

then_none : (r : Ordering) → r ≡ ordering_then (ordering_then r Equal) Equal
then_none Less = refl
then_none Equal = refl
then_none Greater = refl

pub texts_level : (s t : List ℕ) (r : Ordering) → r ≡ slice_cmp nat_cmp s t → r ≡ slice_cmp nat_cmp (parts_key (parts (string s))) (parts_key (parts (string t)))
texts_level s t r e = then_none r ∙ parts_compared (parts (string s)) (parts (string t)) Equal Equal Equal r Equal Equal refl refl refl e refl refl
