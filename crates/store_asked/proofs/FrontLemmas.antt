-- Documents of a store behind a filter in front of a question.
use Rattle.std.proofs.Common.{◌≡◌, List, [], ◌∷◌, Some, sym, subst, arith}
use Rattle.std.specs.List.{AllByRecursion}
use Rattle.bson_base.specs.Value.{Members, document}
use Rattle.store_question.specs.Views.{ComesBack}
use Rattle.store_model.specs.Filter.{Filter, Selects, all_of, no_filters}
use Rattle.store_model.specs.Reading.{Documents}
use Rattle.store_model.specs.State.{AreKept, IsKept}
use Rattle.store_question.specs.Asked.{Answers, Asked}
use Rattle.store_question.specs.Reads.{Form, Reads}
use Rattle.store_asked.specs.Front.{Passes}
use Rattle.bson_store.specs.Fronts.{LiesIn}
use Rattle.bson_store.specs.declared.indexed.range.Range.{Range}
use Rattle.store_asked.specs.Fronts.{Bounds, Fronts}

-- the filter that selects everything
pub all_front : (form : Form) (f : Filter) → f ≡ all_of no_filters → Fronts form f
all_front form f is q reads v back answers = subst (λ x. Selects x v) (sym is) tt

kept_back : (d : Members) → IsKept d → ComesBack (document d)
kept_back d kept = record { clean = kept.read.clean; sound = kept.read.sound; short = omega (arith, kept.small) }

-- what answers is selected by the filter, and lies in the ranges
pub passes_front : (form : Form) (f : Filter) (ranges rs : List Range) → rs ≡ ranges → Fronts form f → Bounds form ranges → (q : Asked) → Reads form q → (d : Members) → IsKept d → Answers q (Some (document d)) → Selects f (document d) × AllByRecursion (λ (r : Range). LiesIn r d) rs
passes_front form f ranges rs is fronts bounds q reads d kept answers = (fronts q reads (document d) (kept_back d kept) answers, subst (AllByRecursion (λ (r : Range). LiesIn r d)) (sym is) (bounds q reads d answers))

-- of documents that a store keeps, what answers is what P holds of
pub kept_hold : (q : Asked) (P : Members → Type 0) (ds : Documents) → ((d : Members) → IsKept d → Answers q (Some (document d)) → P d) → AreKept ds → AllByRecursion (λ (d : Members). Answers q (Some (document d)) → P d) ds
kept_hold q P [] holds kept = tt
kept_hold q P (d ∷ ds) holds kept = (holds d kept.0, kept_hold q P ds holds kept.1)

-- of documents that a store keeps
pub kept_pass : (q : Asked) (f : Filter) (ds : Documents) → Passes q f → AreKept ds → AllByRecursion (λ (d : Members). Answers q (Some (document d)) → Selects f (document d)) ds
kept_pass q f [] passes kept = tt
kept_pass q f (d ∷ ds) passes kept = ((λ answers. passes (document d) (kept_back d kept.0) answers), kept_pass q f ds passes kept.1)
