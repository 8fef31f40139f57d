-- Walks: bytes have one, it is short, and it ends in its fault.
use Rattle.std.proofs.Common.{◌≡◌, ◌≢◌, ℕ, zero, suc, ◌+◌, ◌-◌, ◌*◌, ◌/◌, ◌≤◌, List, [], ◌∷◌, ◌++◌, length, drop, slice_get, Option, Some, None, Err, ◌⊎◌, inl, inr, refl, sym, ap, subst, arith}
use Rattle.std.proofs.lemmas.List.{length-append, length-drop}
use Rattle.bson_base.specs.Tags.{tag_byte}
use Rattle.bson_frame.specs.declared.error.ErrorKind.{ErrorKind}
use Rattle.bson_frame.specs.Frame.{Element, IsFirstFrame, IsStructuralFault}
use Rattle.bson_raw.specs.Walk.{IsWalk, IsDocumentWalk, walk_items}
use Rattle.bson_bytes.proofs.OneTreeLemmas.{end_no_frame}

-- what the lower crate's laws say
abbrev pub FramesAreOne : Type 0
FramesAreOne = (bytes : List ℕ) (e f : Element) (r s : List ℕ) → IsFirstFrame bytes e r → IsFirstFrame bytes f s → (e ≡ f) × (r ≡ s)

abbrev pub FaultsAreOne : Type 0
FaultsAreOne = (bytes : List ℕ) (j k : ErrorKind) → IsStructuralFault bytes j → IsStructuralFault bytes k → j ≡ k

abbrev pub FrameOrFault : Type 0
FrameOrFault = (bytes : List ℕ) → ((e : Element) × (rest : List ℕ) × IsFirstFrame bytes e rest) ⊎ ((kind : ErrorKind) × IsStructuralFault bytes kind)

-- a frame has two bytes at least
pub frame_len : (bytes : List ℕ) (e : Element) (rest : List ℕ) → IsFirstFrame bytes e rest → 2 + length rest ≤ length bytes
frame_len bytes e rest h =
    let whole : length bytes ≡ length (tag_byte e.tag ∷ (e.key ++ 0 ∷ (e.payload ++ rest))) = ap length h.parts in
    omega (arith, whole, length-append e.key (0 ∷ (e.payload ++ rest)), length-append e.payload rest)

walk_len : (bytes : List ℕ) (elements : List Element) (fault : Option ErrorKind) → IsWalk bytes elements fault → 2 * length elements ≤ length bytes
walk_len bytes [] fault w = omega arith
walk_len bytes (e ∷ elements) fault w = omega (arith, frame_len bytes e w.0 w.1, walk_len w.0 elements fault w.2)

pub document_walk_len : (bytes : List ℕ) (elements : List Element) (fault : Option ErrorKind) → IsDocumentWalk bytes elements fault → length elements ≤ (length bytes - 4) / 2
document_walk_len bytes elements fault w = omega (arith, walk_len (drop 4 bytes) elements fault w, length-drop 4 bytes)

pub walk_is_one : FramesAreOne → FaultsAreOne → (bytes : List ℕ) (es fs : List Element) (a b : Option ErrorKind) → IsWalk bytes es a → IsWalk bytes fs b → (es ≡ fs) × (a ≡ b)
walk_is_one one kind bytes [] [] None None v w = (refl, refl)
walk_is_one one kind bytes [] [] None (Some k) v w = absurd (w.0 v)
walk_is_one one kind bytes [] [] (Some j) None v w = absurd (v.0 w)
walk_is_one one kind bytes [] [] (Some j) (Some k) v w = (refl, ap (λ (x : ErrorKind). Some x) (kind bytes j k v.1 w.1))
walk_is_one one kind bytes [] (f ∷ fs) None b v w = absurd (end_no_frame bytes f w.0 v w.1)
walk_is_one one kind bytes [] (f ∷ fs) (Some j) b v w = absurd (v.1.no_frame f w.0 w.1)
walk_is_one one kind bytes (e ∷ es) [] a None v w = absurd (end_no_frame bytes e v.0 w v.1)
walk_is_one one kind bytes (e ∷ es) [] a (Some k) v w = absurd (w.1.no_frame e v.0 v.1)
walk_is_one one kind bytes (e ∷ es) (f ∷ fs) a b v w =
    let same = one bytes e f v.0 w.0 v.1 w.1 in
    let r = walk_is_one one kind v.0 es fs a b v.2 (subst (λ (x : List ℕ). IsWalk x fs b) (sym same.1) w.2) in
    let heads = same.0 in
    let tails = r.0 in
    (cc, r.1)

pub fault_is_last : (elements : List Element) (fault : Option ErrorKind) (k : ℕ) (kind : ErrorKind) → slice_get (walk_items elements fault) k ≡ Some (Err kind) → k + 1 ≡ length (walk_items elements fault)
fault_is_last [] None k kind h = absurd cc
fault_is_last [] (Some j) zero kind h = omega arith
fault_is_last [] (Some j) (suc k) kind h = absurd cc
fault_is_last (e ∷ elements) fault zero kind h = absurd cc
fault_is_last (e ∷ elements) fault (suc k) kind h = omega (arith, fault_is_last elements fault k kind h)

pub empty_walk : (bytes : List ℕ) (elements : List Element) (fault : Option ErrorKind) → IsWalk bytes elements fault → bytes ≡ 0 ∷ [] → walk_items elements fault ≡ []
empty_walk bytes [] None w h = refl
empty_walk bytes [] (Some kind) w h = absurd (w.0 h)
empty_walk bytes (e ∷ elements) fault w h = absurd (end_no_frame bytes e w.0 h w.1)

pub no_items : (bytes : List ℕ) (elements : List Element) (fault : Option ErrorKind) → IsWalk bytes elements fault → walk_items elements fault ≡ [] → bytes ≡ 0 ∷ []
no_items bytes [] None w h = w
no_items bytes [] (Some kind) w h = absurd cc
no_items bytes (e ∷ elements) fault w h = absurd cc

-- ---- there is a walk

abbrev pub HasWalk : List ℕ → Type 0
HasWalk bytes = (elements : List Element) × (fault : Option ErrorKind) × IsWalk bytes elements fault

end_or_more : (bytes : List ℕ) → (bytes ≡ 0 ∷ []) ⊎ (bytes ≢ 0 ∷ [])
end_or_more [] = inr (λ e. absurd cc)
end_or_more (zero ∷ []) = inl refl
end_or_more (suc b ∷ []) = inr (λ e. absurd cc)
end_or_more (b ∷ c ∷ bytes) = inr (λ e. absurd cc)

go_on : (bytes : List ℕ) → bytes ≢ 0 ∷ [] → ((e : Element) × (rest : List ℕ) × IsFirstFrame bytes e rest) ⊎ ((kind : ErrorKind) × IsStructuralFault bytes kind)
    → ((e : Element) (rest : List ℕ) → IsFirstFrame bytes e rest → HasWalk rest) → HasWalk bytes
go_on bytes more (inl f) others =
    let w = others f.0 f.1 f.2 in
    (f.0 ∷ w.0, w.1, (f.1, f.2, w.2))
go_on bytes more (inr f) others = ([], Some f.0, (more, f.1))

walk_or_go_on : (bytes : List ℕ) → (bytes ≡ 0 ∷ []) ⊎ (bytes ≢ 0 ∷ []) → ((e : Element) × (rest : List ℕ) × IsFirstFrame bytes e rest) ⊎ ((kind : ErrorKind) × IsStructuralFault bytes kind)
    → ((e : Element) (rest : List ℕ) → IsFirstFrame bytes e rest → HasWalk rest) → HasWalk bytes
walk_or_go_on bytes (inl end) f others = ([], None, end)
walk_or_go_on bytes (inr more) f others = go_on bytes more f others

walk_within : FrameOrFault → (n : ℕ) (bytes : List ℕ) → length bytes ≤ n → HasWalk bytes
walk_within decide zero bytes h = walk_or_go_on bytes (end_or_more bytes) (decide bytes) (λ e rest first. absurd (omega (arith, frame_len bytes e rest first)))
walk_within decide (suc n) bytes h = walk_or_go_on bytes (end_or_more bytes) (decide bytes) (λ e rest first. walk_within decide n rest (omega (arith, frame_len bytes e rest first)))

pub a_walk : FrameOrFault → (bytes : List ℕ) → HasWalk bytes
a_walk decide bytes = walk_within decide (length bytes) bytes (omega arith)
