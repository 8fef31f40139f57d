-- Runs of ASCII up to a 00 that was found byte by byte, or in a vector.
use Rattle.std.proofs.Common.{◌≡◌, ℕ, zero, suc, ◌+◌, ◌-◌, ◌%◌, ◌^◌, ◌<◌, ◌≤◌, Bool, false, not, cond, leb, List, [], ◌∷◌, ◌++◌, map, replicate, length, take, drop, slice_index, ap, ◌∙◌, arith, w8}
use Rattle.std.specs.List.{prefix_len}
use Rattle.std.specs.Simd.Lanes.{zip2, mask_l, top, chunk}
use Rattle.std.proofs.lemmas.Bool.{leb-false}
use Rattle.std.proofs.lemmas.List.{length-map}
use Rattle.std.proofs.lemmas.Simd.{length-chunk, length-zip2, map-map, mask_l-mod, run_in_chunk_le, run_in_chunk_fails, tops_compared, zip2_splat, zip2_splat_left}
use Rattle.std.proofs.Math.Numerals.{add-one}
use Rattle.std.specs.Str.{IsAscii}
use Rattle.bson_base.specs.Kinds.{HasNo00}
use Rattle.bson_frame.specs.Names.{IsAsciiRun}

pub ascii_run : (bytes : List ℕ) (n : ℕ) → IsAsciiRun bytes n → IsAscii (take n bytes)
ascii_run bytes zero h k = omega arith
ascii_run [] (suc n) h k = omega arith
ascii_run (b ∷ bytes) (suc n) h zero = (h 0 (omega arith)).0
ascii_run (b ∷ bytes) (suc n) h (suc k) = ascii_run bytes n (λ j l. h (suc j) (omega arith)) k

pub whole_run : (bytes : List ℕ) (n : ℕ) → IsAsciiRun bytes n → HasNo00 (take n bytes)
whole_run bytes zero h = tt
whole_run [] (suc n) h = tt
whole_run (b ∷ bytes) (suc n) h = ((h 0 (omega arith)).1, whole_run bytes n (λ j l. h (suc j) (omega arith)))

pub splits_at_zero : (bytes : List ℕ) (k : ℕ) → k < length bytes → slice_index bytes k ≡ 0 → bytes ≡ take k bytes ++ 0 ∷ drop (k + 1) bytes
splits_at_zero [] k h e = absurd (omega arith)
splits_at_zero (b ∷ bytes) zero h e = ap (λ (x : ℕ). x ∷ bytes) e
splits_at_zero (b ∷ bytes) (suc k) h e = rw add-one (ap (λ (x : List ℕ). b ∷ x) (rw add-one at (splits_at_zero bytes k (omega arith) e)))

-- ---- in a vector

-- a byte less one, with 00 becoming 255, is at least 127 if the byte is 00 or not ASCII
abbrev pub less_one : ℕ → ℕ → ℕ
less_one x y = (x + (256 - y)) % 256

abbrev pub is_end : ℕ → Bool
is_end x = leb 127 (less_one x 1)

no_end : (x : ℕ) → x < 256 → is_end x ≡ false → (x < 128) × (0 < x)
no_end x fits e = let low = leb-false 127 (less_one x 1) e in (omega (arith, low, fits), omega (arith, low, fits))

-- the bits of the comparison with 127 are those of the ends
pub ends_counted : (bytes : List ℕ) → 16 ≤ length bytes
    → mask_l (map (top 7) (zip2 (λ a b. cond (leb a b) 255 0) (replicate 16 127) (zip2 less_one (chunk 0 16 bytes) (replicate 16 1)))) % 2 ^ 64 ≡ mask_l (map is_end (chunk 0 16 bytes))
ends_counted bytes room =
    let v = chunk 0 16 bytes in
    let long = length-chunk 0 16 bytes room in
    let less = zip2_splat less_one v 16 1 long in
    ap (λ (ms : List Bool). mask_l ms % 2 ^ 64)
    (tops_compared w8 leb (replicate 16 127) (zip2 less_one v (replicate 16 1)) ∙ zip2_splat_left leb 127 16 (zip2 less_one v (replicate 16 1)) (length-zip2 less_one v (replicate 16 1) long ∙ long)
    ∙ ap (map (leb 127)) less ∙ map-map (leb 127) (λ x. less_one x 1) v)
    ∙ mask_l-mod (map is_end v) 64 (omega (arith, length-map v is_end, long))

-- what comes before the first end
pub run_in_front : (bytes : List ℕ) (r : ℕ) → 16 ≤ length bytes → ((k : ℕ) → slice_index bytes k < 256) → r ≡ prefix_len (λ x. not (is_end x)) (chunk 0 16 bytes) → (r ≤ 16) × IsAsciiRun bytes r
run_in_front bytes r room fits counted =
    (run_in_chunk_le is_end bytes 0 16 r 0 room counted, λ k l. no_end (slice_index bytes k) (fits k) (run_in_chunk_fails is_end bytes 0 16 r 0 room counted k (omega arith) (omega arith)))
