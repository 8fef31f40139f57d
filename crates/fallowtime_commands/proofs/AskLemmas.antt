-- Questions about a collection, as requests.
use Rattle.std.proofs.Common.{◌≡◌, ℕ, Bool, List, Result, Vec, String, refl, subst}
use Rattle.std.specs.declared.alloc.Global.{Global}
use Rattle.sqlite.specs.State.{State}
use Rattle.store_pipeline.specs.declared.sorted.counted.Counted.{Counted}
use Rattle.store_question.specs.Filters.{path_of}
use Rattle.store_table.specs.Moves.{Moves}
use Rattle.store_table.specs.Rows.{TableRow}
use Rattle.store_model.specs.declared.error.StoreError.{StoreError}
use Rattle.store_question.specs.Reads.{Form}
use Rattle.store_asked.specs.Asking.{AskedFrom}
use Rattle.fallowtime_requests.specs.declared.request.Part.{Part}
use Rattle.fallowtime_requests.specs.declared.request.Wanted.{Wanted}
use Rattle.bson_store.proofs.MoveLemmas.{moved}
use Rattle.bson_store.specs.Questions.{as_list}
use Rattle.bson_store.specs.Refusals.{as_number, reply_by}
use Rattle.fallowtime_commands.specs.Asking.{AreCounted, AreWanted, Counts, CountsAll, Differs, Finds, HasPart, Totals, values_by}

pub found : (n : List ℕ) (form : Form) (w : Wanted) (s t : State) (outcome : Result (Vec (Vec ℕ Global) Global) StoreError) → Moves s t (AskedFrom (AreWanted w) n form outcome) → Moves s t (Finds n form w (reply_by as_list outcome))
found n form w s t outcome moves = moved s t (AskedFrom (AreWanted w) n form outcome) (Finds n form w (reply_by as_list outcome)) moves (λ docs after h. (outcome, refl, h))

pub counted : (n : List ℕ) (form : Form) (p : Part) (s t : State) (outcome : Result ℕ StoreError) → Moves s t (AskedFrom (HasPart p) n form outcome) → Moves s t (Counts n form p (reply_by as_number outcome))
counted n form p s t outcome moves = moved s t (AskedFrom (HasPart p) n form outcome) (Counts n form p (reply_by as_number outcome)) moves (λ docs after h. (outcome, refl, h))

pub counted_all : (s t : State) (outcome : Result ℕ StoreError) → Moves s t (Totals outcome) → Moves s t (CountsAll (reply_by as_number outcome))
counted_all s t outcome moves = moved s t (Totals outcome) (CountsAll (reply_by as_number outcome)) moves (λ docs after h. (outcome, refl, h))

module _ (n : List ℕ) (form : Form) (path : List (String Global)) (counts : Bool) (slice : List (String Global)) (e : slice ≡ path) where
  pub differing : (docs after : List TableRow) (outcome : Result (Vec Counted Global) StoreError) → AskedFrom (AreCounted (path_of slice)) n form outcome docs after → Differs n form (path_of path) counts (values_by counts outcome) docs after
  differing docs after outcome h = (outcome, refl, subst (λ (p : List (String Global)). AskedFrom (AreCounted (path_of p)) n form outcome docs after) e h)

  pub differs : (s t : State) (outcome : Result (Vec Counted Global) StoreError) → Moves s t (AskedFrom (AreCounted (path_of slice)) n form outcome) → Moves s t (Differs n form (path_of path) counts (values_by counts outcome))
  differs s t outcome moves = moved s t (AskedFrom (AreCounted (path_of slice)) n form outcome) (Differs n form (path_of path) counts (values_by counts outcome)) moves (λ docs after h. differing docs after outcome h)
