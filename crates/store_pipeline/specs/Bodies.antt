-- What keys and bodies stand for.
use Rattle.std.specs.Prelude.{◌≡◌, ◌≤◌, ◌<◌, ◌-◌, ℕ, List, map, length, Vec, true, false, slice_index_or}
use Rattle.std.specs.Borrow.{Bor}
use Rattle.std.specs.List.{AllZip}
use Rattle.std.specs.List.Sorted.{IsPartitionPoint}
use Rattle.std.specs.declared.alloc.Global.{Global}
use Rattle.bson_base.specs.Value.{Members, no_members, document, levels}
use Rattle.bson_bytes.specs.Encode.{encode}
use Rattle.store_question.specs.Filters.{path_of}
use Rattle.store_question.specs.Views.{ComesBack}
use Rattle.store_pipeline.specs.Order.{Arranges, Key, goes_before}
use Rattle.store_pipeline.specs.declared.sorted.arrangement.Arrangement.{Arrangement}
use Rattle.store_pipeline.specs.declared.sorted.keys.SortKey.{SortKey}

abbrev pub key_of : SortKey → Key
key_of k = record { path = path_of k.path.items; descending = k.descending }

abbrev pub keys_of : List SortKey → List Key
keys_of ks = map key_of ks

-- es is what an arrangement of the code makes of ds
abbrev pub ArrangedBy : Arrangement → List Members → List Members → Type 0
ArrangedBy a ds es = Arranges (keys_of a.keys.items) a.skip a.limit ds es

-- the bytes are the written form of a document that comes back from them and isn't too deep
pub record IsBody (bytes : List ℕ) (d : Members) : Type 0 where
  pub written : bytes ≡ encode d
  pub back : ComesBack (document d)
  pub low : levels (document d) ≤ 200

-- P holds of the document whose body the bytes are
abbrev pub OfBody : List ℕ → (Members → Type 0) → Type 0
OfBody bytes P = (d : Members) → IsBody bytes d → P d

-- one body for each document, in their order
abbrev pub AreBodies : List (Vec ℕ Global) → List Members → Type 0
AreBodies bodies ds = AllZip (λ b d. IsBody b.items d) bodies ds

abbrev pub AreLent : List (Bor (List ℕ)) → List Members → Type 0
AreLent bodies ds = AllZip (λ b d. IsBody b.now d) bodies ds

-- the document at a place, and the one without elements where there is none
abbrev pub document_at : List Members → ℕ → Members
document_at ds place = slice_index_or ds place no_members

-- the place in a list behind those that d doesn't go before
abbrev pub IsPlaceFor : List Key → Members → List Members → ℕ → Type 0
IsPlaceFor ks d es place = IsPartitionPoint (λ e. goes_before ks d e ≡ false) (λ e. goes_before ks d e ≡ true) es place

-- d doesn't go before the last one, if there is any
abbrev pub GoesLast : List Key → Members → List Members → Type 0
GoesLast ks d es = (e : Members) → 0 < length es → goes_before ks d (slice_index_or es (length es - 1) e) ≡ false

-- d goes before the first one, if there is any
abbrev pub GoesFirst : List Key → Members → List Members → Type 0
GoesFirst ks d es = (e : Members) → 0 < length es → goes_before ks d (slice_index_or es 0 e) ≡ true
