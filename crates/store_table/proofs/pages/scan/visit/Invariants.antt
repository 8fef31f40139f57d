use Rattle.std.proofs.Common.{◌≡◌, List, []}
use Rattle.sqlite_pages.specs.Calls.{IsClean, Continues}
use Rattle.store_table.specs.Documents.{AreDocuments, Doc}
use Rattle.store_table.specs.PageRows.{IsLeft}
use Rattle.store_table.proofs.pages.scan.visit.Given as goal

abbrev pub invariant-scan : goal.invariant-scan
invariant-scan g l =
    record {
      kept : Continues g.P.Pages l.fn.pages l.pages;
      pages : g.P.Pages.pages l.pages ≡ g.P.Pages.pages l.fn.pages;
      root : l.rows.root ≡ l.fn.roots.table;
      given : g.V.VisitRows.took l.fn.visitor l.fn.visitor [] → (given : List Doc) × g.V.VisitRows.took l.fn.visitor l.visitor given
          × (IsClean g.P.Pages l.pages → (docs : List Doc) → (are : AreDocuments (g.P.Pages.size l.fn.pages) (g.P.Pages.pages l.fn.pages) l.fn.roots.table l.fn.roots.index docs)
          → IsLeft are.table_layout (g.P.Pages.size l.fn.pages) (g.P.Pages.pages l.fn.pages) are.rows l.fn.coll docs given l.rows);
    }
