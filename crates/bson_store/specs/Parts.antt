-- Where a value lies among those of its rank, as a number that 64 bits have room for: a greater value has no smaller one.
use Rattle.std.specs.Prelude.{◌≡◌, ℕ, ◌+◌, ◌*◌, ◌-◌, ◌^◌, ◌==◌, zero, suc, ℤ, pos, negsuc, if◌then◌else◌, nat_lt, List, [], ◌∷◌}
use Rattle.bson_base.specs.Value.{Value, value_kind}
use Rattle.bson_order.specs.Wholes.{toward_zero}
use Rattle.bson_order.specs.Order.{Parts, parts, rank}
use Rattle.bson_order.specs.Shown.{leaf_of}

-- the number, or what is next to it among those of 64 bits
abbrev pub held : ℤ → ℤ
held (pos n) = if nat_lt n (2 ^ 63) then pos n else pos (2 ^ 63 - 1)
held (negsuc n) = if nat_lt n (2 ^ 63) then negsuc n else negsuc (2 ^ 63 - 1)

-- the first n bytes as a number, the first one the highest; what isn't there is 0, and what is no byte is above all bytes
abbrev pub head : ℕ → List ℕ → ℕ
head zero t = 0
head (suc n) [] = 0
head (suc n) (b ∷ bs) = if nat_lt b 256 then b * 256 ^ n + head n bs else 256 ^ suc n - 1

-- of numbers and dates the number without its fraction, of texts their beginning; all others of a rank are in one place
abbrev pub part_at : ℕ → Parts → ℤ
part_at r p = if r == 3 then held (toward_zero p.place) else (if r == 10 then held (toward_zero p.place) else (if r == 4 then pos (head 7 p.text) else pos 0))

abbrev pub part : Value → ℤ
part v = part_at (rank (value_kind v)) (parts (leaf_of v))

-- a value of one of the four kinds of numbers
abbrev pub IsNumeric : Value → Type 0
IsNumeric v = rank (value_kind v) ≡ 3
