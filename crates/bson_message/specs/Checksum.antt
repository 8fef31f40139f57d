-- The checksum of a message (MongoDB's wire protocol, "Checksum"): CRC-32C (RFC 3720, appendix B.4), bit by bit, the lowest one first.
use Rattle.std.specs.Prelude.{◌≡◌, ℕ, ◌-◌, ◌/◌, ◌%◌, nat_eq, List, [], ◌∷◌, length, take, drop, bit_xor, if◌then◌else◌}
use Rattle.bson_frame.specs.Frame.{number}

-- one bit further: if a bit falls out, the polynomial 1EDC6F41 is taken away, its bits in the order that they have here
unfoldable pub bit_further : ℕ → ℕ
bit_further c = if nat_eq (c % 2) 1 then bit_xor (c / 2) 2197175160 else c / 2

-- one byte further
unfoldable pub byte_further : ℕ → ℕ → ℕ
byte_further c b = bit_further (bit_further (bit_further (bit_further (bit_further (bit_further (bit_further (bit_further (bit_xor c b))))))))

-- what is left of bytes by the polynomial
abbrev pub left_by : ℕ → List ℕ → ℕ
left_by c [] = c
left_by c (b ∷ bs) = left_by (byte_further c b) bs

unfoldable pub crc32c : List ℕ → ℕ
crc32c bytes = bit_xor (left_by 4294967295 bytes) 4294967295

-- the last four bytes are the checksum of those before them
abbrev pub HasChecksum : List ℕ → Type 0
HasChecksum bytes = number (drop (length bytes - 4) bytes) ≡ crc32c (take (length bytes - 4) bytes)

-- if the lowest flag is set, the message has its checksum
abbrev pub IsSummed : ℕ → List ℕ → Type 0
IsSummed flags bytes = flags % 2 ≡ 1 → HasChecksum bytes
