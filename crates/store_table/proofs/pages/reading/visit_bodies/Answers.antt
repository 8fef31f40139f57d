use Rattle.std.proofs.Common.{map, refl, subst}
use Rattle.store_table.specs.Documents.{Doc}
use Rattle.store_table.specs.Bridge.{as_doc}
use Rattle.store_table.proofs.CallLemmas.{bodies_alike, bodies_parted}
use Rattle.store_table.proofs.pages.reading.visit_bodies.Goals as goal

pub returns-in-Ok-clause-visits : goal.returns-in-Ok-clause-visits
returns-in-Ok-clause-visits g c clean docs are =
    let took = g.V.Visit.took c.args.visitor in
    record {
      same = refl;
      whole = λ none all. subst (took c.visit-visited.new.visitor.visitor) (bodies_alike c.args.coll.now docs) (c.in-Ok.ensures.whole clean (map as_doc docs) are none all);
      some = λ none.
          let some = c.visit-visited.ensures.some none in
          let rest = some.2 clean (map as_doc docs) are in
          (map (λ (d : Doc). d.body) some.0, map (λ (d : Doc). d.body) rest.0, bodies_parted c.args.coll.now docs some.0 rest.0 rest.1, some.1);
      faults = tt;
    }

pub returns-in-Err-clause-visits : goal.returns-in-Err-clause-visits
returns-in-Err-clause-visits g c clean docs are =
    record {
      same = refl;
      whole = λ none. tt;
      some = λ none.
          let some = c.visit-visited.ensures.some none in
          let rest = some.2 clean (map as_doc docs) are in
          (map (λ (d : Doc). d.body) some.0, map (λ (d : Doc). d.body) rest.0, bodies_parted c.args.coll.now docs some.0 rest.0 rest.1, some.1);
      faults = c.fault_of.ensures;
    }
