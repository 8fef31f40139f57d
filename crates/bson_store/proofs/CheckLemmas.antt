-- Whether the documents of a collection have trees: a walk that takes nothing.
use Rattle.std.proofs.Common.{◌≡◌, ◌⊎◌, inl, inr, ℕ, List, Ok, Err}
use Rattle.serde_json.specs.Data.{Data}
use Rattle.sqlite.specs.State.{State}
use Rattle.store_table.specs.Moves.{Moves}
use Rattle.store_model.specs.Reading.{Documents}
use Rattle.store_model.specs.Refusal.{refusal}
use Rattle.store_model.specs.State.{IsName, refused, trees_of, trees_reply}
use Rattle.store_model.specs.Table.{DocumentTable, documents_of}
use Rattle.store_model.specs.declared.error.ErrorKind.TheVariants.{BadName}
use Rattle.store_model.specs.declared.error.StoreError.{StoreError}
use Rattle.bson_store.specs.Dump.{ChecksTrees, HandsTrees, Stops}
use Rattle.bson_store.specs.Refusals.{IsDenied}
use Rattle.bson_store.proofs.MoveLemmas.{moved}

-- nothing is taken, and nothing refused
abbrev pub Anything : {T : Type 0} → T → List Data → Type 0
Anything t js = Unit {0}

abbrev pub Nothing : {T : Type 0} → T → List Data → StoreError → Type 0
Nothing t js e = ⊥

-- what stopped it, as it is returned
told : (ds : Documents) (e : StoreError) → Stops (λ js. Unit {0}) (λ js e. ⊥) ds e → IsDenied e ⊎ (trees_reply (trees_of 0 ds) ≡ refused e.kind e.document)
told ds e (js, first, inl never) = absurd never
told ds e (js, first, inr (t, h)) = h

pub passed : {T : Type 0} (s t : State) (n : List ℕ) (step : T) → Moves s t (HandsTrees Anything Nothing n (Ok step)) → Moves s t (ChecksTrees n (Ok tt))
passed s t n step m = moved s t _ (ChecksTrees n (Ok tt)) m (λ docs after h. record { same = h.same; checked = λ a shown. let k = h.handed a shown in (k.0, (k.1.0, k.1.1)) })

pub stopped : {T : Type 0} (s t : State) (n : List ℕ) (e : StoreError) (step : T) → Moves s t (HandsTrees Anything Nothing n (Err (e, step))) → Moves s t (ChecksTrees n (Err e))
stopped s t n e step m = moved s t _ (ChecksTrees n (Err e)) m (λ docs after h. record { same = h.same; checked = λ a shown. by a (h.handed a shown) })
  where
    by : (a : DocumentTable) → ((IsName n → ⊥) × (e ≡ refusal BadName) × Unit {0}) ⊎ (IsName n × Stops (λ js. Unit {0}) (λ js e. ⊥) (documents_of a n) e)
        → ((IsName n → ⊥) × (e ≡ refusal BadName)) ⊎ (IsName n × (IsDenied e ⊎ (trees_reply (trees_of 0 (documents_of a n)) ≡ refused e.kind e.document)))
    by a (inl (bad, is, start)) = inl (bad, is)
    by a (inr (good, stops)) = inr (good, told (documents_of a n) e stops)
