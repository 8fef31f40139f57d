use Rattle.std.proofs.Common.{[], ◌∷◌, map, sym, subst}
use Rattle.std.proofs.lemmas.List.{map-append}
use Rattle.store_table.specs.Documents.{Doc}
use Rattle.store_table.specs.PageRows.{doc_at}
use Rattle.store_table.proofs.pages.reading.BodiesVisitRows.visit.Goals as goal

pub returns-clause-took : goal.returns-clause-took
returns-clause-took g c first docs took =
    subst (g.V.Visit.took first.visitor c.visit.new.self) (sym (map-append (λ (d : Doc). d.body) docs (doc_at c.args._place c.args.row.now ∷ [])))
    (c.visit.ensures.took first.visitor (map (λ (d : Doc). d.body) docs) took)
