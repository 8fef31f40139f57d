-- Names that are ASCII.
use Rattle.std.specs.Prelude.{◌≡◌, ℕ, ◌<◌, List, length, slice_index}

-- the first n bytes are ASCII, and none of them is 00
abbrev pub IsAsciiRun : List ℕ → ℕ → Type 0
IsAsciiRun bytes n = (k : ℕ) → k < n → (slice_index bytes k < 128) × (0 < slice_index bytes k)

-- the first 00 is at n, and all bytes before it are ASCII
abbrev pub IsAsciiEnd : List ℕ → ℕ → Type 0
IsAsciiEnd bytes n = (n < length bytes) × (slice_index bytes n ≡ 0) × IsAsciiRun bytes n
