-- Which device failed, by what is reported, whatever the disk does.
use Rattle.std.proofs.Common.{◌≡◌, inl, inr, ℕ, List, [], Bool, true, false, Result, Ok, Err, IfErr, refl, sym, ap, ◌∙◌, subst, arith}
use Rattle.bson_base.specs.Device.{Feed, StopsReading, Tally, TookAll}
use Rattle.bson_base.specs.Kinds.{AreBytes}
use Rattle.bson_base.specs.declared.whole.ReadAllError.{ReadAllError}
use Rattle.bson_base.specs.declared.whole.ReadAllError.TheVariants as reads
use Rattle.store_table.specs.declared.fault.Fault.{Fault}
use Rattle.store_table.specs.declared.fault.Fault.TheVariants as faults
use Rattle.store_documents.specs.Judging.{Judges}
use Rattle.store_model.specs.Reading.{ReadsStream}
use Rattle.store_model.specs.Refusal.{kind_of_reading, refusal}
use Rattle.store_model.specs.State.{IsName}
use Rattle.store_model.specs.declared.error.ErrorKind.TheVariants as kind
use Rattle.store_model.specs.declared.error.StoreError.{StoreError}
use Rattle.bson_store.specs.Export.{Sent}
use Rattle.bson_store.specs.Many.{ImportRefused, IsAddFault}
use Rattle.bson_store.specs.Refusals.{ReportsFailure, kind_of_fault}
use Rattle.bson_store.proofs.ImportLemmas.{import_refused}

-- a read
pub of_reading : (x : ReadAllError) (old new : Feed) → StopsReading x old new → ReportsFailure {A = ℕ} kind.Reader (Err (refusal (kind_of_reading x))) old.failures new.failures
of_reading reads.Reader old new h = inl (refl, h)
of_reading reads.Memory old new h = inr ((λ is. cc), h.1.0)

fault_kind : (x : Fault) → kind_of_fault x ≡ kind.Reader → ⊥
fault_kind faults.Memory is = cc
fault_kind faults.Database is = cc
fault_kind faults.Places is = cc

add_kind : (e : StoreError) → IsAddFault e → e.kind ≡ kind.Reader → ⊥
add_kind e (inl (x, is)) reader = fault_kind x (sym (ap (λ (y : StoreError). y.kind) is) ∙ reader)
add_kind e (inr (i, is)) reader = let same : kind.DuplicateId ≡ kind.Reader = sym (ap (λ (y : StoreError). y.kind) is) ∙ reader in cc

-- documents that aren't put in
pub of_adding : (r : Result ℕ StoreError) (old new : Feed) → new.failures ≡ old.failures → IfErr r IsAddFault → ReportsFailure kind.Reader r old.failures new.failures
of_adding (Ok x) old new same own = same
of_adding (Err e) old new same own = inr (add_kind e own, same)

-- or not judged to be kept
pub of_judging : (n bytes : List ℕ) (old new : Feed) (e : StoreError) → IsName n → AreBytes bytes → TookAll old new bytes → Judges (ReadsStream bytes) (Err e) → ReportsFailure {A = ℕ} kind.Reader (Err e) old.failures new.failures
of_judging n bytes old new e good range all h = inr (other, all.0.0)
  where
    other : e.kind ≡ kind.Reader → ⊥
    other is =
        let told : ImportRefused n old new kind.Reader e.document [] [] = subst (λ k. ImportRefused n old new k e.document [] []) is (import_refused [] n bytes old new e good range all h) in
        omega (arith, told.2, all.0.0)

-- ---- writes

write_kind : (x : Fault) → kind_of_fault x ≡ kind.Writer → ⊥
write_kind faults.Memory is = cc
write_kind faults.Database is = cc
write_kind faults.Places is = cc

-- a write of a body failed
pub of_failed : (old mid new : Tally) (failed : Bool) (bodies : List (List ℕ)) → failed ≡ true → Sent old mid failed bodies → new ≡ mid → ReportsFailure {A = Unit {0}} kind.Writer (Err (refusal kind.Writer)) old.failures new.failures
of_failed old mid new true bodies is sent same = inl (refl, ap (λ (t : Tally). t.failures) same ∙ sent.0)
of_failed old mid new false bodies is sent same = absurd cc

-- none did
unfailed : (old mid new : Tally) (failed : Bool) (bodies : List (List ℕ)) → failed ≡ false → Sent old mid failed bodies → new ≡ mid → new.failures ≡ old.failures
unfailed old mid new false bodies is sent same = ap (λ (t : Tally). t.failures) same ∙ sent.0
unfailed old mid new true bodies is sent same = absurd cc

pub of_sent : (old mid new : Tally) (failed : Bool) (bodies : List (List ℕ)) → failed ≡ false → Sent old mid failed bodies → new ≡ mid → ReportsFailure {A = Unit {0}} kind.Writer (Ok tt) old.failures new.failures
of_sent old mid new failed bodies is sent same = unfailed old mid new failed bodies is sent same

pub of_fault : (old mid new : Tally) (failed : Bool) (bodies : List (List ℕ)) (x : Fault) → failed ≡ false → Sent old mid failed bodies → new ≡ mid → ReportsFailure {A = Unit {0}} kind.Writer (Err (refusal (kind_of_fault x))) old.failures new.failures
of_fault old mid new failed bodies x is sent same = inr (write_kind x, unfailed old mid new failed bodies is sent same)
