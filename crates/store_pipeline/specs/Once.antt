-- A list with each of its elements once, in an order.
use Rattle.std.specs.Prelude.{◌≡◌, List, Some, IsTrue}
use Rattle.std.specs.List.{AllByRecursion, find, list_any}
use Rattle.std.specs.List.Sorted.{IsStrictlySortedBy}
use Rattle.std.specs.Ordering.{eq_by_cmp}
use Rattle.std.specs.declared.cmp.Ordering.{Ordering}

-- ys rises, each element of it is the first one of xs that is equal to it, and each one of xs is equal to one of it
pub record IsEachOnce {K : Type 0} (cmp : K → K → Ordering) (xs ys : List K) : Type 0 where
  pub rises : IsStrictlySortedBy cmp ys
  pub first : AllByRecursion (λ y. find (eq_by_cmp cmp y) xs ≡ Some y) ys
  pub every : AllByRecursion (λ x. IsTrue (list_any (eq_by_cmp cmp x) ys)) xs
