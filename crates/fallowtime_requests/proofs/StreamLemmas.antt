-- The bytes of the documents of an array, one after the other.
use Rattle.std.proofs.Common.{◌≡◌, ◌<◌, ◌≤◌, ◌+◌, ℕ, zero, suc, List, [], ◌∷◌, ◌++◌, length, drop, get_or, inl, Ok, Err, Vec, refl, ap, sym, ◌∙◌, subst, append_assoc, append-nil, zero-add, arith}
use Rattle.std.proofs.lemmas.List.{drop_all}
use Rattle.std.specs.declared.alloc.Global.{Global}
use Rattle.json.specs.Json.{Json}
use Rattle.json.specs.Value.{items_view, value_view}
use Rattle.json.specs.declared.value.Value.{Value}
use Rattle.bson_json_read.specs.Reading.{read_top}
use Rattle.fallowtime_requests.specs.Requests.{AreWritten, IsFirstUnfit}
use Rattle.fallowtime_requests.specs.Streams.{PutsAll, PutsBehind, StopsDocumentAt}
use Rattle.fallowtime_requests.specs.declared.stop.Stop.{Stop}
use Rattle.fallowtime_requests.specs.declared.stop.Stop.TheVariants.{Words, Memory}
use Rattle.cli_convert.specs.declared.made.IdMaker.{IdMaker}

pub unread : (m n : IdMaker) (i : ℕ) (j : Json) (old new : List ℕ) (s : Stop) → StopsDocumentAt i (read_top j) s → PutsBehind m n i j old new (Err s)
unread m n i j old new (Words u) (none, said) = (inl none, said)
unread m n i j old new Memory h = tt

-- ---- so far

abbrev pub Trees : Type 0
Trees = List (Value Global)

-- after i documents: what is written of the rest is written of all, and the first unfit one of the rest is the first of
-- all
pub record SoFar (trees : Trees) (before now : IdMaker) (stream : List ℕ) (i : ℕ) : Type 0 where
  pub ends : (bytes : List ℕ) (n : IdMaker) → AreWritten now (items_view (drop i trees)) bytes n → AreWritten before (items_view trees) (stream ++ bytes) n
  pub counts : (k : ℕ) → IsFirstUnfit now (items_view (drop i trees)) k → IsFirstUnfit before (items_view trees) (i + k)

pub none_yet : (trees : Trees) (m : IdMaker) (stream : List ℕ) → stream ≡ [] → SoFar trees m m stream 0
none_yet trees m stream e = record {
  ends = λ bytes n written. subst (λ bs. AreWritten m (items_view trees) (bs ++ bytes) n) (sym e) written;
  counts = λ k first. subst (λ n. IsFirstUnfit m (items_view trees) n) (sym (zero-add k)) first;
}

-- the trees from a place on
pub from_place : (trees : Trees) (i : ℕ) (t : Value Global) → i < length trees → get_or trees i t ≡ t → drop i trees ≡ t ∷ drop (suc i) trees
from_place [] i t within at = absurd (omega (arith, within))
from_place (u ∷ us) zero t within at = ap (λ v. v ∷ us) at
from_place (u ∷ us) (suc i) t within at = from_place us i t (omega (arith, within)) at

module _ (trees : Trees) (before now after : IdMaker) (stream more : List ℕ) (i : ℕ) (t : Value Global) (so : SoFar trees before now stream i) (within : i < length trees) (at : get_or trees i t ≡ t) where
  pub one_more : PutsBehind now after i (value_view t) stream more (Ok tt) → SoFar trees before after more (suc i)
  one_more (first, written, e) = record { ends = ends; counts = counts }
    where
      ends : (bytes : List ℕ) (n : IdMaker) → AreWritten after (items_view (drop (suc i) trees)) bytes n → AreWritten before (items_view trees) (more ++ bytes) n
      ends bytes n rest =
          let whole : AreWritten now (items_view (drop i trees)) (first ++ bytes) n =
          subst (λ ts. AreWritten now (items_view ts) (first ++ bytes) n) (sym (from_place trees i t within at)) (first, bytes, after, written, rest, refl) in
          subst (λ bs. AreWritten before (items_view trees) bs n) (sym (append_assoc stream first bytes) ∙ ap (λ bs. bs ++ bytes) (sym e)) (so.ends (first ++ bytes) n whole)

      counts : (k : ℕ) → IsFirstUnfit after (items_view (drop (suc i) trees)) k → IsFirstUnfit before (items_view trees) (suc i + k)
      counts k unfit =
          let later : IsFirstUnfit now (items_view (drop i trees)) (suc k) =
          subst (λ ts. IsFirstUnfit now (items_view ts) (suc k)) (sym (from_place trees i t within at)) (first, after, written, unfit) in
          let same : i + suc k ≡ suc i + k = omega arith in
          subst (λ n. IsFirstUnfit before (items_view trees) n) same (so.counts (suc k) later)

  pub unfit : (s : Stop) (last : IdMaker) → PutsBehind now after i (value_view t) stream more (Err s) → PutsAll before last (items_view trees) (Err s)
  unfit (Words u) last (is, said) =
      let here : IsFirstUnfit now (items_view (drop i trees)) 0 = subst (λ ts. IsFirstUnfit now (items_view ts) 0) (sym (from_place trees i t within at)) is in
      let same : i + 0 ≡ i = omega arith in
      (i, subst (λ n. IsFirstUnfit before (items_view trees) n) same (so.counts 0 here), said)
  unfit Memory last h = tt

pub all_put : (trees : Trees) (before now : IdMaker) (stream : Vec ℕ Global) (i : ℕ) → SoFar trees before now stream.items i → length trees ≤ i → PutsAll before now (items_view trees) (Ok stream)
all_put trees before now stream i so all =
    let none : AreWritten now (items_view (drop i trees)) [] now = subst (λ ts. AreWritten now (items_view ts) [] now) (sym (drop_all i trees all)) (refl, refl) in
    subst (λ bs. AreWritten before (items_view trees) bs now) (append-nil stream.items) (so.ends [] now none)
