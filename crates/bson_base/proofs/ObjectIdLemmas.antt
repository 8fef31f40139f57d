-- What an object id's text reads as, by what `hex` decodes it to.
use Rattle.std.proofs.Common.{◌≡◌, ℕ, ◌+◌, ◌*◌, ◌/◌, ◌%◌, suc, nat_lt, inl, inr, Bool, true, false, not, List, [], ◌∷◌, length, get_or, Option, Some, None, Ok, Err, refl, sym, ap, ◌∙◌, arith}
use Rattle.std.specs.List.{prefix_len}
use Rattle.std.proofs.lemmas.Bool.{cases_lt}
use Rattle.std.proofs.lemmas.List.Sums.{prefix_len-le-length}
use Rattle.hex.specs.Hex.{decode_pairs, decode_sized, hex_digit_value, is_hex_digit, pair_value}
use Rattle.hex.specs.declared.error.FromHexError.{FromHexError}
use Rattle.hex.proofs.Pairs.{cons_byte, decode_pairs-ok_pair, decode_sized-pairs}
use Rattle.hex.proofs.HexLemmas.{decode_sized-ok}
use Rattle.bson_base.specs.ObjectIdText.{digit_bytes, digit_value, first_other}

-- as `position` asks whether a byte is a digit
abbrev pub passes : ℕ → Bool
passes c = not (not (is_hex_digit c))

prefix_len-all : (c : ℕ) (cs : List ℕ) → prefix_len passes (c ∷ cs) ≡ length (c ∷ cs) → (is_hex_digit c ≡ true) × (prefix_len passes cs ≡ length cs)
prefix_len-all c cs h = by (hex_digit_value c) refl where
  by : (o : Option ℕ) → hex_digit_value c ≡ o → (is_hex_digit c ≡ true) × (prefix_len passes cs ≡ length cs)
  by (Some v) e = (rw e refl, let k : 1 + prefix_len passes cs ≡ suc (length cs) = rw e at h in omega (arith, k))
  by None e = absurd (let k : 0 ≡ suc (length cs) = rw e at h in omega (arith, k))

-- a digit has its value
digit : (c : ℕ) → is_hex_digit c ≡ true → hex_digit_value c ≡ Some (digit_value c)
digit c h = by (hex_digit_value c) refl where
  by : (o : Option ℕ) → hex_digit_value c ≡ o → hex_digit_value c ≡ Some (digit_value c)
  by (Some v) e = rw e refl
  by None e = let f : false ≡ true = rw e at h in cc f

pair : (i a b : ℕ) → is_hex_digit a ≡ true → is_hex_digit b ≡ true → pair_value a b i ≡ Ok (digit_value a * 16 + digit_value b)
pair i a b ha hb = let da = digit a ha in let db = digit b hb in rw (da, db) refl

pairs : (i : ℕ) (s : List ℕ) → length s % 2 ≡ 0 → prefix_len passes s ≡ length s → decode_pairs i s ≡ Ok (digit_bytes s)
unfolding decode_pairs
pairs i [] even h = refl
pairs i (a ∷ []) even h = absurd (omega arith)
pairs i (a ∷ b ∷ rest) even h =
    let first = prefix_len-all a (b ∷ rest) h in
    let second = prefix_len-all b rest first.1 in
    let ih = pairs (i + 2) rest (omega arith) second.1 in
    decode_pairs-ok_pair i a b _ rest (pair i a b first.0 second.0) ∙ ap (cons_byte (digit_value a * 16 + digit_value b)) ih

all_digits : (s : List ℕ) → first_other s ≡ None → prefix_len passes s ≡ length s
all_digits s h =
    elim (cases_lt (prefix_len passes s) (length s)) [
      | inl less ↦
          let t : nat_lt (prefix_len passes s) (length s) ≡ true = grind arith in
          let f : Some (prefix_len passes s) ≡ None = rw t at h in
          cc f
      | inr all ↦ omega (arith, prefix_len-le-length passes s)
    ]

-- 24 digits
pub reads_digits : (s : List ℕ) (bytes : List ℕ) → length s % 2 ≡ 0 → first_other s ≡ None → decode_sized s 12 ≡ Ok bytes → (length s ≡ 24) × (bytes ≡ digit_bytes s)
reads_digits s bytes even h d =
    let long : length s ≡ 24 = omega (arith, decode_sized-ok s 12 bytes d) in
    let half : length s / 2 ≡ 12 = omega arith in
    let same : Ok bytes ≡ Ok (digit_bytes s) = sym d ∙ decode_sized-pairs s 12 even half ∙ pairs 0 s even (all_digits s h) in
    (long, cc same)

-- digits of another number
pub refuses_digits : (s : List ℕ) (e : FromHexError) → length s % 2 ≡ 0 → first_other s ≡ None → decode_sized s 12 ≡ Err e → length s ≡ 24 → ⊥
refuses_digits s e even h d long =
    let half : length s / 2 ≡ 12 = omega arith in
    let same : Err e ≡ Ok (digit_bytes s) = sym d ∙ decode_sized-pairs s 12 even half ∙ pairs 0 s even (all_digits s h) in
    cc same

-- a list by its elements

pub three : (xs : List ℕ) → length xs ≡ 3 → get_or xs 0 0 ∷ get_or xs 1 0 ∷ get_or xs 2 0 ∷ [] ≡ xs
three (a ∷ b ∷ c ∷ []) h = refl
three _ h = absurd (omega arith)

pub five : (xs : List ℕ) → length xs ≡ 5 → get_or xs 0 0 ∷ get_or xs 1 0 ∷ get_or xs 2 0 ∷ get_or xs 3 0 ∷ get_or xs 4 0 ∷ [] ≡ xs
five (a ∷ b ∷ c ∷ d ∷ e ∷ []) h = refl
five _ h = absurd (omega arith)
