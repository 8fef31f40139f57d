use Rattle.std.proofs.Common.{ℕ, subst₂, IfSome}
use Rattle.sqlite_pages.specs.PageMap.{PageMap}
use Rattle.sqlite_pages.specs.Calls.{IsClean}
use Rattle.store_table.specs.Roots.{ListsTwo}
use Rattle.store_table.specs.declared.pages.roots.Roots.{Roots}
use Rattle.store_table.proofs.pages.roots.find_roots.Goals as goal

pub returns-clause-found : goal.returns-clause-found
returns-clause-found g c =
    subst₂ (λ (n : ℕ) (p : PageMap). IfSome c.in_ok-found.found (λ (r : Roots). IsClean g.P.Pages c.roots_in.new.pages → ListsTwo n p r.table r.index))
    c.load.ensures.steps.same_size c.load.ensures.pages c.in_ok-found.ensures.found
