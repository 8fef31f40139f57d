-- What a taker did is known whatever the disk does, and no refusal of the store is of the kind of a device.
use Rattle.std.proofs.Common.{◌≡◌, ◌⊎◌, inl, inr, ℕ, Option, Some, None, is_some, false}
use Rattle.store_documents.specs.Answers.{IsOfStore}
use Rattle.store_model.specs.Refusal.{refusal, refusal_at}
use Rattle.store_model.specs.declared.error.ErrorKind.{ErrorKind}
use Rattle.store_model.specs.declared.error.ErrorKind.TheVariants as kind
use Rattle.store_model.specs.declared.error.StoreError.{StoreError}
use Rattle.store_table.specs.declared.fault.Fault.{Fault}
use Rattle.store_table.specs.declared.fault.Fault.TheVariants as faults
use Rattle.bson_store.specs.Dump.{Lasts}
use Rattle.bson_store.specs.Refusals.{kind_of_fault}

-- ---- kinds

pub fault_of_store : (x : Fault) → IsOfStore (kind_of_fault x)
fault_of_store faults.Memory = tt
fault_of_store faults.Database = tt
fault_of_store faults.Places = tt

pub at_of_store : (k : ErrorKind) (i : ℕ) → IsOfStore k → IsOfStore (refusal_at k i).kind
at_of_store kind.Memory i of = tt
at_of_store _ i of = of

-- ---- a walk

pub stands_on : (was now : Type 0) (was_stopped now_stopped : StoreError → Type 0) (o : Option StoreError) → is_some o ≡ false → (was → now) → Lasts was was_stopped o → Lasts now now_stopped o
stands_on was now was_stopped now_stopped None none on h = on h
stands_on was now was_stopped now_stopped (Some e) none on h = absurd cc

pub stops : (was now : Type 0) (was_stopped now_stopped : StoreError → Type 0) (o : Option StoreError) (e : StoreError) → is_some o ≡ false → (was → now_stopped e ⊎ (now × IsOfStore e.kind)) → Lasts was was_stopped o → Lasts now now_stopped (Some e)
stops was now was_stopped now_stopped None e none on h = on h
stops was now was_stopped now_stopped (Some x) e none on h = absurd cc

-- nothing was refused except by the store
pub own_kind : (P : Type 0) → ⊥ ⊎ (Unit {0} × P) → P
own_kind P (inl h) = absurd h
own_kind P (inr h) = h.1
