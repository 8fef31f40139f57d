-- The list of a command.
use Rattle.std.proofs.Common.{◌≡◌, ℕ, List, [], ◌∷◌, map, Some, None, Result, Ok, Err, IfOk, Vec, sym, subst}
use Rattle.std.specs.List.{AllZip}
use Rattle.std.specs.declared.alloc.Global.{Global}
use Rattle.bson_base.specs.Value.{Members, array, look_up}
use Rattle.bson_message.specs.Parts.{AreDocuments}
use Rattle.bson_message.specs.declared.section.Sequence.{Sequence}
use Rattle.bson_model.specs.View.{items_of, view}
use Rattle.bson_model.specs.declared.bson.Bson.{Bson}
use Rattle.bson_store.specs.Export.{bytes_of_each}
use Rattle.fallowtime_statements.specs.Plans.{AreGiven, IsWritten}
use Rattle.fallowtime_statements.specs.declared.fault.Fault.{Fault}
use Rattle.fallowtime_statements.proofs.ListLemmas.{zip_seen}

module _ (key : List ℕ) (ms : Members) where
  pub given_array : (r : Result (Vec (Vec ℕ Global) Global) Fault) (xs : List Bson) → look_up key ms ≡ Some (array (items_of (map view xs))) → IfOk r (λ list. AllZip (λ (v : Bson) (b : Vec ℕ Global). IsWritten (view v) b.items) xs list.items)
      → IfOk r (λ list. AreGiven key ms [] (bytes_of_each list.items))
  given_array (Ok list) xs there zip = (map view xs, there, zip_seen IsWritten view (λ (b : Vec ℕ Global). b.items) xs list.items zip)
  given_array (Err e) xs there zip = tt

  pub given_sequence : (r : Result (Vec (Vec ℕ Global) Global) Fault) (s : Sequence) (ds : List (List ℕ)) → s.name.now ≡ key → AreDocuments s.documents.now ds → look_up key ms ≡ None → IfOk r (λ list. bytes_of_each list.items ≡ ds)
      → IfOk r (λ list. AreGiven key ms (s ∷ []) (bytes_of_each list.items))
  given_sequence (Ok list) s ds name are none is = (name, subst (λ xs. AreDocuments s.documents.now xs) (sym is) are, none)
  given_sequence (Err e) s ds name are none is = tt
