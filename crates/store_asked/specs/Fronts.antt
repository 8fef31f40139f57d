-- What is in front of what questions of the code stand for.
use Rattle.std.specs.Prelude.{List, Some}
use Rattle.std.specs.List.{AllByRecursion}
use Rattle.bson_base.specs.Value.{Members, document}
use Rattle.bson_store.specs.Fronts.{LiesIn}
use Rattle.bson_store.specs.declared.indexed.range.Range.{Range}
use Rattle.store_model.specs.Filter.{Filter}
use Rattle.store_question.specs.Asked.{Answers, Asked}
use Rattle.store_question.specs.Reads.{Form, Reads}
use Rattle.store_asked.specs.Front.{Passes}

-- each document that comes back from its bytes and answers the question is selected
abbrev pub Fronts : Form → Filter → Type 0
Fronts form f = (q : Asked) → Reads form q → Passes q f

-- each document that answers the question lies in each of the ranges
abbrev pub Bounds : Form → List Range → Type 0
Bounds form rs = (q : Asked) → Reads form q → (d : Members) → Answers q (Some (document d)) → AllByRecursion (λ (r : Range). LiesIn r d) rs
