use Rattle.std.proofs.Common.{◌≡◌, [], ◌∷◌, List}
use Rattle.sqlite_pages.specs.Calls.{IsClean, Continues}
use Rattle.sqlite_value.specs.declared.value.Value.{Value}
use Rattle.store_table.specs.Documents.{AreDocuments, Doc}
use Rattle.store_table.specs.PageNames.{AreUpTo, names_in}
use Rattle.store_table.proofs.pages.names.each_name.Given as goal

abbrev pub invariant-names : goal.invariant-names
invariant-names g l =
    record {
      kept : Continues g.P.Pages l.fn.pages l.pages;
      pages : g.P.Pages.pages l.pages ≡ g.P.Pages.pages l.fn.pages;
      met : (last : Value) × (l.key ≡ last ∷ []) × (IsClean g.P.Pages l.pages → (docs : List Doc)
          → AreDocuments (g.P.Pages.size l.fn.pages) (g.P.Pages.pages l.fn.pages) l.fn.roots.table l.fn.roots.index docs → AreUpTo last (names_in l.names.items) docs);
    }
