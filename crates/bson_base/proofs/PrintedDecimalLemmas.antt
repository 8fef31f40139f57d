-- Every printed finite decimal reads back to its sign, coefficient and exponent.
use Rattle.std.proofs.Common.{◌≡◌, ℕ, zero, suc, ◌+◌, ◌-◌, ◌*◌, ◌/◌, ◌%◌, ◌^◌, ◌<◌, ◌≤◌, ◌==◌, inl, inr, nat_lt, nat_le, Bool, true, false, List, [], ◌∷◌, ◌++◌, length, take, drop, get_or, replicate, Option, Some, None, Ok, refl, sym, ap, ◌∙◌, subst, arith, append_assoc, append-nil, length-append, length-drop, length-take}
use Rattle.std.proofs.lemmas.Bool.{cases_lt, and_parts, cases_Bool}
use Rattle.std.proofs.lemmas.List.{take-append-drop, length-replicate}
use Rattle.std.specs.Char.{is_ascii_digit, digit_value, to_ascii_lowercase}
use Rattle.std.specs.Fmt.{decimal}
use Rattle.std.proofs.lemmas.Fmt.{decimal_by_steps_wide, length-decimal-le_wide}
use Rattle.std.specs.Prelude.{IsTrue}
use Rattle.bson_base.specs.Answer.{◌>>=◌, result_map}
use Rattle.bson_base.proofs.DecimalBitsLemmas.{unpack-pack}
use Rattle.bson_base.specs.Decimal.{Decimal, not_a_number, infinity, finite, is_finite, IsUnpacked, pack, unpack, cut, is_e, is_dot, all_digits, value_after, value, strip, upward, downward, read_exponent, checked_digits, read_coefficient, shorten, in_range, with_places, read_cut, read_number, read_unsigned_decimal, read, print, with_dot, exponent_text, is_plain, digits_text}

-- ---- digits one after another

pub all_digits-append : (a b : List ℕ) → all_digits a ≡ true → all_digits b ≡ true → all_digits (a ++ b) ≡ true
all_digits-append [] b ha hb = hb
all_digits-append (c ∷ cs) b ha hb = grind (arith, all_digits-append cs b)

pub value_after-append : (n : ℕ) (a b : List ℕ) → value_after n (a ++ b) ≡ value_after (value_after n a) b
value_after-append n [] b = refl
value_after-append n (c ∷ cs) b = value_after-append (n * 10 + digit_value c) cs b

first_of_append : (a b : List ℕ) → 0 < length a → get_or (a ++ b) 0 0 ≡ get_or a 0 0
first_of_append [] b h = absurd (omega arith)
first_of_append (x ∷ a) b h = refl

-- what the digits of a number are
pub record Digits (n : ℕ) (ds : List ℕ) : Type 0 where
  pub digits : all_digits ds ≡ true
  pub stands : value ds ≡ n
  pub some : 0 < length ds
  pub front : get_or ds 0 0 ≡ 48 → (length ds ≡ 1) × (n ≡ 0)

one_digit : (n : ℕ) → n < 10 → Digits n ((48 + n) ∷ [])
one_digit n h = record {
  digits = grind arith;
  stands = grind arith;
  some = omega arith;
  front = λ z. (refl, omega arith);
}

more_digits : (n : ℕ) (ds : List ℕ) → 10 ≤ n → Digits (n / 10) ds → Digits n (ds ++ ((48 + n % 10) ∷ []))
more_digits n ds h d = record {
  digits = all_digits-append ds ((48 + n % 10) ∷ []) d.digits (grind arith);
  stands = value_after-append 0 ds ((48 + n % 10) ∷ []) ∙ rw d.stands (grind arith);
  some = omega (arith, length-append {A = ℕ});
  front = λ z. absurd (let f = d.front (sym (first_of_append ds ((48 + n % 10) ∷ []) d.some) ∙ z) in omega arith);
}

pub digits-decimal : (n : ℕ) → n < 10 ^ 64 → Digits n (decimal n)
digits-decimal n h = decimal_by_steps_wide Digits one_digit more_digits n h

-- ---- cuts

pub cut-none : (p : ℕ → Bool) (ds : List ℕ) → ((c : ℕ) → is_ascii_digit c ≡ true → p c ≡ false) → all_digits ds ≡ true → cut p ds ≡ (ds, None)
cut-none p [] other h = refl
cut-none p (c ∷ cs) other h =
    let t = and_parts (is_ascii_digit c) (all_digits cs) h in
    let no : p c ≡ false = other c t.0 in
    let more = cut-none p cs other t.1 in
    rw (no, more) refl

pub cut-at : (p : ℕ → Bool) (ds : List ℕ) (c : ℕ) (rest : List ℕ) → ((c : ℕ) → is_ascii_digit c ≡ true → p c ≡ false) → all_digits ds ≡ true → p c ≡ true
    → cut p (ds ++ c ∷ rest) ≡ (ds, Some rest)
cut-at p [] c rest other h at = rw at refl
cut-at p (d ∷ ds) c rest other h at =
    let t = and_parts (is_ascii_digit d) (all_digits ds) h in
    let no : p d ≡ false = other d t.0 in
    let more = cut-at p ds c rest other t.1 at in
    rw (no, more) refl

-- ---- leading zeros

pub strip-kept : (ds : List ℕ) → (get_or ds 0 0 ≡ 48 → length ds ≡ 1) → strip ds ≡ ds
strip-kept [] h = refl
strip-kept (c ∷ []) h = refl
strip-kept (c ∷ d ∷ ds) h = grind arith

pub strip-zeros : (k : ℕ) (d : ℕ) (ds : List ℕ) → strip (replicate k 48 ++ d ∷ ds) ≡ strip (d ∷ ds)
strip-zeros zero d ds = refl
strip-zeros (suc zero) d ds = refl
strip-zeros (suc (suc k)) d ds = strip-zeros (suc k) d ds

-- ---- the dot

with_dot-before : (k : ℕ) (ds : List ℕ) → 0 < k → length ds ≤ k → with_dot k ds ≡ 48 ∷ 46 ∷ (replicate (k - length ds) 48 ++ ds)
with_dot-before k ds some before = grind arith

with_dot-within : (k : ℕ) (ds : List ℕ) → 0 < k → k < length ds → with_dot k ds ≡ take (length ds - k) ds ++ 46 ∷ drop (length ds - k) ds
with_dot-within k ds some within = grind arith

no_dot : (c : ℕ) → is_ascii_digit c ≡ true → is_dot c ≡ false
no_dot c h = grind arith

no_e : (c : ℕ) → is_ascii_digit c ≡ true → is_e c ≡ false
no_e c h = grind arith

pub all_digits-take : (n : ℕ) (ds : List ℕ) → all_digits ds ≡ true → all_digits (take n ds) ≡ true
all_digits-take zero ds h = refl
all_digits-take (suc n) [] h = refl
all_digits-take (suc n) (c ∷ cs) h = grind (arith, all_digits-take n cs)

pub all_digits-drop : (n : ℕ) (ds : List ℕ) → all_digits ds ≡ true → all_digits (drop n ds) ≡ true
all_digits-drop zero ds h = h
all_digits-drop (suc n) [] h = refl
all_digits-drop (suc n) (c ∷ cs) h = all_digits-drop n cs (and_parts (is_ascii_digit c) (all_digits cs) h).1

pub all_digits-zeros : (n : ℕ) → all_digits (replicate n 48) ≡ true
all_digits-zeros zero = refl
all_digits-zeros (suc n) = all_digits-zeros n

checked : (ds : List ℕ) (k : ℕ) → all_digits ds ≡ true → 0 < length ds → checked_digits ds k ≡ Ok (ds, k)
checked ds k all some = rw all (grind arith)

-- what the dotted digits read as: the digits ds, except for leading zeros, and k places after the dot
pub record Dotted (k : ℕ) (ds : List ℕ) : Type 0 where
  pub found : List ℕ
  pub reads : read_coefficient (cut is_dot (with_dot k ds)) ≡ Ok (found, k)
  pub stripped : strip found ≡ ds

strip-own : (n : ℕ) (ds : List ℕ) → Digits n ds → strip ds ≡ ds
strip-own n ds d = strip-kept ds (λ z. (d.front z).0)

dotted-none : (n : ℕ) (ds : List ℕ) → Digits n ds → Dotted 0 ds
dotted-none n ds d = record {
  found = ds;
  reads = ap read_coefficient (cut-none is_dot ds no_dot d.digits) ∙ checked ds 0 d.digits d.some;
  stripped = strip-own n ds d;
}

strip-front : (k : ℕ) (ds : List ℕ) → 0 < length ds → strip (48 ∷ (replicate k 48 ++ ds)) ≡ strip ds
strip-front k [] h = absurd (omega arith)
strip-front k (d ∷ ds) h = strip-zeros (suc k) d ds

dotted-before : (k n : ℕ) (ds : List ℕ) → Digits n ds → 0 < k → length ds ≤ k → Dotted k ds
dotted-before k n ds d some before =
    let m = k - length ds in
    let long : length (replicate m 48 ++ ds) ≡ k = omega (arith, length-append (replicate m 48) ds, length-replicate {A = ℕ} m 48) in
    let all : all_digits (48 ∷ (replicate m 48 ++ ds)) ≡ true = all_digits-append (replicate m 48) ds (all_digits-zeros m) d.digits in
    record {
      found = 48 ∷ (replicate m 48 ++ ds);
      reads = ap (λ t. read_coefficient (cut is_dot t)) (with_dot-before k ds some before)
          ∙ ap read_coefficient (cut-at is_dot (48 ∷ []) 46 (replicate m 48 ++ ds) no_dot refl refl)
          ∙ ap (λ n. checked_digits (48 ∷ (replicate m 48 ++ ds)) n) long ∙ checked (48 ∷ (replicate m 48 ++ ds)) k all (omega (arith, length-append (replicate m 48) ds));
      stripped = strip-front m ds d.some ∙ strip-own n ds d;
    }

dotted-within : (k n : ℕ) (ds : List ℕ) → Digits n ds → 0 < k → k < length ds → Dotted k ds
dotted-within k n ds d some within =
    let m = length ds - k in
    let whole : take m ds ++ drop m ds ≡ ds = take-append-drop m ds in
    let long : length (drop m ds) ≡ k = omega (arith, length-drop m ds) in
    record {
      found = ds;
      reads = ap (λ t. read_coefficient (cut is_dot t)) (with_dot-within k ds some within)
          ∙ ap read_coefficient (cut-at is_dot (take m ds) 46 (drop m ds) no_dot (all_digits-take m ds d.digits) refl)
          ∙ ap (λ es. checked_digits es (length (drop m ds))) whole ∙ ap (λ n. checked_digits ds n) long ∙ checked ds k d.digits d.some;
      stripped = strip-own n ds d;
    }

dotted : (k n : ℕ) (ds : List ℕ) → Digits n ds → Dotted k ds
dotted zero n ds d = dotted-none n ds d
dotted (suc k) n ds d =
    elim (cases_lt (suc k) (length ds)) [ inl within ↦ dotted-within (suc k) n ds d (omega arith) within | inr before ↦ dotted-before (suc k) n ds d (omega arith) before ]

-- ---- no `e` in the dotted digits

-- the front of a cut at `e`
abbrev Passes : List ℕ → Type 0
Passes t = (rest : List ℕ) → cut is_e (t ++ rest) ≡ (t ++ (cut is_e rest).0, (cut is_e rest).1)

Passes-digits : (ds : List ℕ) → all_digits ds ≡ true → Passes ds
Passes-digits [] h rest = refl
Passes-digits (c ∷ cs) h rest =
    let t = and_parts (is_ascii_digit c) (all_digits cs) h in
    let no : is_e c ≡ false = no_e c t.0 in
    let more = Passes-digits cs t.1 rest in
    rw (no, more) refl

Passes-append : (a b : List ℕ) → Passes a → Passes b → Passes (a ++ b)
Passes-append a b pa pb rest =
    ap (cut is_e) (append_assoc a b rest) ∙ pa (b ++ rest) ∙ ap (λ (r : List ℕ × Option (List ℕ)). (a ++ r.0, r.1)) (pb rest)
    ∙ ap (λ (l : List ℕ). (l, (cut is_e rest).1)) (sym (append_assoc a b (cut is_e rest).0))

Passes-dot : (b : List ℕ) → Passes b → Passes (46 ∷ b)
Passes-dot b pb rest = rw (pb rest) refl

Passes-dotted : (k n : ℕ) (ds : List ℕ) → Digits n ds → Passes (with_dot k ds)
Passes-dotted zero n ds d = Passes-digits ds d.digits
Passes-dotted (suc k) n ds d =
    elim (cases_lt (suc k) (length ds)) [
      | inl within ↦
          let m = length ds - suc k in
          let front = Passes-digits (take m ds) (all_digits-take m ds d.digits) in
          let back = Passes-dot (drop m ds) (Passes-digits (drop m ds) (all_digits-drop m ds d.digits)) in
          subst Passes (sym (with_dot-within (suc k) ds (omega arith) within)) (Passes-append (take m ds) (46 ∷ drop m ds) front back)
      | inr before ↦
          let m = suc k - length ds in
          let digits = all_digits-append (replicate m 48) ds (all_digits-zeros m) d.digits in
          let back = Passes-dot (replicate m 48 ++ ds) (Passes-digits (replicate m 48 ++ ds) digits) in
          subst Passes (sym (with_dot-before (suc k) ds (omega arith) before)) (Passes-append (48 ∷ []) (46 ∷ (replicate m 48 ++ ds)) (Passes-digits (48 ∷ []) refl) back)
    ]

-- ---- the exponent

Digits-some : (m : ℕ) (ds : List ℕ) → Digits m ds → m ≤ 32767 → upward ds ≡ Ok (65536 + m)
Digits-some m ds d small =
    let some = d.some in let all = d.digits in let is = d.stands in
    rw (all, is) (grind arith)

Digits-down : (m : ℕ) (ds : List ℕ) → Digits m ds → m ≤ 32767 → downward ds ≡ Ok (65536 - m)
Digits-down m ds d small =
    let some = d.some in let all = d.digits in let is = d.stands in
    rw (all, is) (grind arith)

reads_exponent : (y : ℕ) → y ≤ 12400 → read_exponent (Some (exponent_text y)) ≡ Ok (59360 + y)
reads_exponent y small =
    elim (cases_lt y 6176) [
      | inl down ↦
          let m = 6176 - y in
          let below : nat_le 6176 y ≡ false = grind arith in
          let number : 65536 - m ≡ 59360 + y = omega arith in
          rw below (Digits-down m (decimal m) (digits-decimal m (grind arith)) (omega arith) ∙ ap Ok number)
      | inr up ↦
          let m = y - 6176 in
          let above : nat_le 6176 y ≡ true = grind arith in
          let number : 65536 + m ≡ 59360 + y = omega arith in
          rw above (Digits-some m (decimal m) (digits-decimal m (grind arith)) (omega arith) ∙ ap Ok number)
    ]

-- ---- the place

shorten-short : (ds : List ℕ) (x : ℕ) → length ds ≤ 34 → shorten ds x ≡ Ok (ds, x)
shorten-short ds x short = let t : nat_le (length ds) 34 ≡ true = grind arith in rw t refl

in_range-placed : (s : Bool) (ds : List ℕ) (x n b : ℕ) → value ds ≡ n → x ≡ 59360 + b → b ≤ 12287 → in_range s (ds, x) ≡ Ok (finite s n b)
in_range-placed s ds x n b is at low =
    let t : nat_lt x 59360 ≡ false = grind arith in
    let u : nat_lt 71647 x ≡ false = grind arith in
    let e : x - 59360 ≡ b = omega arith in
    rw (t, u, is, e) refl

placed : (s : Bool) (x : ℕ) (ds es : List ℕ) (k n b : ℕ) → strip es ≡ ds → value ds ≡ n → length ds ≤ 34 → x ≡ 59360 + b + k → k ≤ 32767 → b ≤ 12287
    → with_places s x (es, k) ≡ Ok (finite s n b)
placed s x ds es k n b stripped is short at few low =
    let t : nat_lt 32767 k ≡ false = grind arith in
    let u : nat_lt x (k + 32768) ≡ false = grind arith in
    let whole : with_places s x (es, k) ≡ (shorten (strip es) (x - k) >>= in_range s) = rw (t, u) refl in
    whole ∙ ap (λ e. shorten e (x - k) >>= in_range s) stripped ∙ ap (λ r. r >>= in_range s) (shorten-short ds (x - k) short)
    ∙ in_range-placed s ds (x - k) n b is (omega arith) low

-- ---- the law, after the sign

plain_text : (b : ℕ) (ds : List ℕ) → is_plain b (length ds) ≡ true → digits_text b ds ≡ with_dot (6176 - b) ds
plain_text b ds h = rw h refl

scientific_text : (b : ℕ) (ds : List ℕ) → is_plain b (length ds) ≡ false → digits_text b ds ≡ with_dot (length ds - 1) ds ++ 69 ∷ exponent_text (b + length ds - 1)
scientific_text b ds h = rw h refl

reads_dotted : (s : Bool) (x k c b : ℕ) (ds : List ℕ) → Digits c ds → length ds ≤ 34 → x ≡ 59360 + b + k → k ≤ 32767 → b ≤ 12287
    → (read_coefficient (cut is_dot (with_dot k ds)) >>= with_places s x) ≡ Ok (finite s c b)
reads_dotted s x k c b ds d short at few low =
    let t = dotted k c ds d in
    ap (λ r. r >>= with_places s x) t.reads ∙ placed s x ds t.found k c b t.stripped d.stands short at few low

plain_reads : (s : Bool) (c b : ℕ) (ds : List ℕ) → Digits c ds → length ds ≤ 34 → b ≤ 6176 → read_number s (with_dot (6176 - b) ds) ≡ Ok (finite s c b)
plain_reads s c b ds d short low =
    let t = with_dot (6176 - b) ds in
    let uncut : cut is_e t ≡ (t, None) = ap (cut is_e) (sym (append-nil t)) ∙ Passes-dotted (6176 - b) c ds d [] ∙ ap (λ (l : List ℕ). (l, None)) (append-nil t) in
    ap (read_cut s) uncut ∙ reads_dotted s 65536 (6176 - b) c b ds d short (omega arith) (omega arith) (omega arith)

scientific_reads : (s : Bool) (c b : ℕ) (ds : List ℕ) → Digits c ds → length ds ≤ 34 → b ≤ 12287
    → read_number s (with_dot (length ds - 1) ds ++ 69 ∷ exponent_text (b + length ds - 1)) ≡ Ok (finite s c b)
scientific_reads s c b ds d short low =
    let k = length ds - 1 in
    let t = with_dot k ds in
    let y = b + length ds - 1 in
    let some = d.some in
    let at_e : cut is_e (t ++ 69 ∷ exponent_text y) ≡ (t, Some (exponent_text y)) =
    Passes-dotted k c ds d (69 ∷ exponent_text y) ∙ ap (λ (l : List ℕ). (l, Some (exponent_text y))) (append-nil t) in
    ap (read_cut s) at_e ∙ ap (λ r. r >>= λ x. read_coefficient (cut is_dot t) >>= with_places s x) (reads_exponent y (omega arith))
    ∙ reads_dotted s (59360 + y) k c b ds d short (omega arith) (omega arith) low

pub number_reads : (s : Bool) (c b : ℕ) → c < 10 ^ 34 → b ≤ 12287 → read_number s (digits_text b (decimal c)) ≡ Ok (finite s c b)
number_reads s c b small low =
    let ds = decimal c in
    let wide : c < 10 ^ 64 = grind arith in
    let d = digits-decimal c wide in
    let short : length ds ≤ 34 = length-decimal-le_wide 34 c (omega arith) small wide in
    elim (cases_Bool (is_plain b (length ds))) [
      | inl plain ↦
          let under : b ≤ 6176 = grind arith in
          ap (read_number s) (plain_text b ds plain) ∙ plain_reads s c b ds d short under
      | inr not_plain ↦ ap (read_number s) (scientific_text b ds not_plain) ∙ scientific_reads s c b ds d short low
    ]

-- ---- the sign: printed digits begin with a digit

record Begins (t : List ℕ) : Type 0 where
  head : ℕ
  tail : List ℕ
  whole : t ≡ head ∷ tail
  digit : is_ascii_digit head ≡ true

begins-append : (ds rest : List ℕ) → all_digits ds ≡ true → 0 < length ds → Begins (ds ++ rest)
begins-append [] rest h some = absurd (omega arith)
begins-append (c ∷ cs) rest h some = record { head = c; tail = cs ++ rest; whole = refl; digit = (and_parts (is_ascii_digit c) (all_digits cs) h).0 }

begins-along : (t u rest : List ℕ) → t ≡ u → Begins (u ++ rest) → Begins (t ++ rest)
begins-along t u rest same b = subst (λ (v : List ℕ). Begins (v ++ rest)) (sym same) b

begins-dotted : (k n : ℕ) (ds rest : List ℕ) → Digits n ds → Begins (with_dot k ds ++ rest)
begins-dotted zero n ds rest d = begins-append ds rest d.digits d.some
begins-dotted (suc k) n ds rest d =
    elim (cases_lt (suc k) (length ds)) [
      | inl within ↦
          let m = length ds - suc k in
          let front : Begins (take m ds ++ (46 ∷ (drop m ds ++ rest))) = begins-append (take m ds) (46 ∷ (drop m ds ++ rest)) (all_digits-take m ds d.digits) (omega (arith, length-take m ds)) in
          begins-along (with_dot (suc k) ds) (take m ds ++ 46 ∷ drop m ds) rest (with_dot-within (suc k) ds (omega arith) within)
          (subst Begins (sym (append_assoc (take m ds) (46 ∷ drop m ds) rest)) front)
      | inr before ↦
          let m = suc k - length ds in
          let front : Begins (48 ∷ 46 ∷ ((replicate m 48 ++ ds) ++ rest)) = record { head = 48; tail = 46 ∷ ((replicate m 48 ++ ds) ++ rest); whole = refl; digit = refl } in
          begins-along (with_dot (suc k) ds) (48 ∷ 46 ∷ (replicate m 48 ++ ds)) rest (with_dot-before (suc k) ds (omega arith) before) front
    ]

not_special : (s : Bool) (c : ℕ) (cs : List ℕ) → is_ascii_digit c ≡ true → read_unsigned_decimal s (c ∷ cs) ≡ result_map pack (read_number s (c ∷ cs))
not_special s c cs h =
    let own : to_ascii_lowercase c ≡ c = grind arith in
    let n : (c == 110) ≡ false = grind arith in
    let z : (c == 115) ≡ false = grind arith in
    let i : (c == 105) ≡ false = grind arith in
    rw (own, n, z, i) refl

unsigned_read : (c : ℕ) (cs : List ℕ) → is_ascii_digit c ≡ true → read (c ∷ cs) ≡ read_unsigned_decimal false (c ∷ cs)
unsigned_read c cs h =
    let plus : (c == 43) ≡ false = grind arith in
    let minus : (c == 45) ≡ false = grind arith in
    rw (plus, minus) refl

begins-text : (c b : ℕ) → c < 10 ^ 64 → Begins (digits_text b (decimal c))
begins-text c b wide =
    let ds = decimal c in
    let d = digits-decimal c wide in
    elim (cases_Bool (is_plain b (length ds))) [
      | inl plain ↦ subst Begins (append-nil (with_dot (6176 - b) ds) ∙ sym (plain_text b ds plain)) (begins-dotted (6176 - b) c ds [] d)
      | inr other ↦ subst Begins (sym (scientific_text b ds other)) (begins-dotted (length ds - 1) c ds (69 ∷ exponent_text (b + length ds - 1)) d)
    ]

read_begun : (t : List ℕ) → Begins t → (read t ≡ result_map pack (read_number false t)) × (read (45 ∷ t) ≡ result_map pack (read_number true t))
read_begun t b = (
  ap read b.whole ∙ unsigned_read b.head b.tail b.digit ∙ not_special false b.head b.tail b.digit ∙ ap (λ u. result_map pack (read_number false u)) (sym b.whole),
  ap (read_unsigned_decimal true) b.whole ∙ not_special true b.head b.tail b.digit ∙ ap (λ u. result_map pack (read_number true u)) (sym b.whole),
)

-- every printed finite decimal reads back to its sign, coefficient and exponent
pub printed_reads : (s : Bool) (c b : ℕ) → c < 10 ^ 34 → b ≤ 12287 → read (print (finite s c b)) ≡ Ok (pack (finite s c b))
printed_reads false c b small low = (read_begun _ (begins-text c b (grind arith))).0 ∙ ap (result_map pack) (number_reads false c b small low)
printed_reads true c b small low = (read_begun _ (begins-text c b (grind arith))).1 ∙ ap (result_map pack) (number_reads true c b small low)

pub finite_back : (s : Bool) (c b : ℕ) → c < 10 ^ 34 → b < 12288 → result_map unpack (read (print (finite s c b))) ≡ Ok (finite s c b)
finite_back s c b small low = ap (result_map unpack) (printed_reads s c b small (omega arith)) ∙ ap Ok (unpack-pack (finite s c b) (small, low))

pub decimal_back : (d : Decimal) → IsUnpacked d → IsTrue (is_finite d) → result_map unpack (read (print d)) ≡ Ok d
decimal_back not_a_number h f = cc f
decimal_back (infinity s) h f = cc f
decimal_back (finite s c b) h f = finite_back s c b h.0 h.1
