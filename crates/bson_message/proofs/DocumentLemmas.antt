-- The documents among which a loop goes.
use Rattle.std.proofs.Common.{◌≡◌, ℕ, ◌<◌, List, [], ◌∷◌, ◌++◌, length, map, refl, ap, subst}
use Rattle.bson_raw.specs.View.{bytes_of}
use Rattle.bson_raw.specs.declared.document.RawDocument.{RawDocument}
use Rattle.bson_message.specs.Parts.{AreDocuments, HasDocuments, IsDocument}
use Rattle.bson_message.specs.Runs.{BeginsWith, BeginsWithNone}
use Rattle.bson_message.proofs.RunLemmas.{Way, all_met, one_more, stuck}
use Rattle.bson_message.proofs.PartLemmas.{one_document, some_document}

abbrev pub HasPassed : List ℕ → List ℕ → Type 0
HasPassed whole rest = (met : List (List ℕ)) × Way IsDocument whole rest met

pub document_passed : (whole rest d behind : List ℕ) → HasPassed whole rest → BeginsWith IsDocument rest d behind → HasPassed whole behind
document_passed whole rest d behind (met, way) begins = (met ++ d ∷ [], one_more IsDocument one_document some_document whole rest behind met d way begins)

pub documents_end : (whole rest : List ℕ) → HasPassed whole rest → length rest ≡ 0 → HasDocuments whole
documents_end whole rest (met, way) none = (met, all_met IsDocument whole rest met way none)

pub documents_cut : (whole rest : List ℕ) → HasPassed whole rest → BeginsWithNone IsDocument rest → 0 < length rest → HasDocuments whole → ⊥
documents_cut whole rest (met, way) lacks some (ds, h) = stuck IsDocument whole rest met ds way lacks some h

pub document_kept : (whole rest : List ℕ) (ds : List RawDocument) (d : RawDocument) (behind : List ℕ) → Way IsDocument whole rest (map bytes_of ds) → BeginsWith IsDocument rest (bytes_of d) behind → Way IsDocument whole behind (map bytes_of (ds ++ d ∷ []))
document_kept whole rest ds d behind way begins =
    subst (λ l. Way IsDocument whole behind l) (map_more ds d) (one_more IsDocument one_document some_document whole rest behind (map bytes_of ds) (bytes_of d) way begins)
  where
    map_more : (xs : List RawDocument) (d : RawDocument) → map bytes_of xs ++ bytes_of d ∷ [] ≡ map bytes_of (xs ++ d ∷ [])
    map_more [] d = refl
    map_more (x ∷ xs) d = ap (λ l. bytes_of x ∷ l) (map_more xs d)

pub documents_kept : (whole rest : List ℕ) (ds : List RawDocument) → Way IsDocument whole rest (map bytes_of ds) → length rest ≡ 0 → AreDocuments whole (map bytes_of ds)
documents_kept whole rest ds way none = all_met IsDocument whole rest (map bytes_of ds) way none
