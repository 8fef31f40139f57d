-- Exits of an open.
use Rattle.sqlite.specs.State.{State}
use Rattle.store_table.specs.Renewal.{Opened}
use Rattle.bson_store.specs.Opening.{IsRowUnder, Opens}
use Rattle.bson_store.proofs.RenewalLemmas.{stand_for, shown_good}

pub opened : (old new : State) → Opened IsRowUnder old new → Opens old new
opened old new h = record {
  made = h.made;
  beside = h.beside;
  found = λ docs shows. let x = h.found docs shows in (x.0, x.1, stand_for docs x.0 x.2 x.3, x.4);
  listed = λ is. let x = h.listed is in (x.0, x.1, x.2, x.3, stand_for x.0 x.1 x.4 x.5);
  other = h.other;
  unwritten = λ docs shows some. h.unwritten docs shows (shown_good docs some);
}
