-- A text of Extended JSON has no line feed.
use Rattle.std.proofs.Common.{◌≡◌, ◌≢◌, ℕ, suc, ◌+◌, ◌≤◌, ◌/◌, ◌%◌, Bool, true, false, cond, ◌&&◌, ◌||◌, ◌==◌, nat_lt, not, List, [], ◌∷◌, ◌++◌, drop, Option, Some, None, option_and_then, refl, sym, ap, ◌∙◌, subst, arith, append_assoc, inl, inr, ◌⊎◌}
use Rattle.std.specs.Prelude.{⊤}
use Rattle.std.specs.List.{All, prefix_len}
use Rattle.std.specs.Char.{digit_char, is_ascii_digit}
use Rattle.std.proofs.lemmas.Bool.{false≢true, true≢false, eqb-true, and_parts, leb-true, cases_Bool, or_cases}
use Rattle.std.proofs.lemmas.List.Elements.{All-nil, All-cons}
use Rattle.json.specs.Json.{Json, null, boolean, number, string, array, object, Items, no_items, item, Members, no_members, member, document as tree_of}
use Rattle.json.specs.Print.{escape_letter, escape_byte, escape, quoted, token_text, begins, ends, separator, print_from, print, IsNumber}
use Rattle.json.specs.Token as token
use Rattle.json.specs.Token.{Token}
use Rattle.json.specs.Tree.{HasNumbers, ItemsHaveNumbers, MembersHaveNumbers, json_tokens, items_tokens, members_tokens}
use Rattle.json.specs.Word.{head, after_digits, after_minus, after_sign, after_whole, after_fraction, after_exponent, after_number}
use Rattle.json.proofs.Numbered.{document-HasNumbers}
use Rattle.bson_base.specs.Value.{Value}
use Rattle.bson_json.specs.Prints.{IsTextOf}
use Rattle.bson_json.specs.Settled.{json_levels}
use Rattle.bson_json.proofs.TextBackLemmas.{deep}
use Rattle.bson_model.specs.declared.extjson.ser.Mode.{Mode}

-- no byte is a line feed
abbrev Free : List ℕ → Type 0
Free [] = ⊤
Free (b ∷ bs) = (b ≢ 10) × Free bs

all_free : (bs : List ℕ) → Free bs → All (λ b. b ≢ 10) bs
all_free [] h = All-nil (λ b. b ≢ 10)
all_free (b ∷ bs) (h, i) = All-cons (λ b. b ≢ 10) b bs h (all_free bs i)

both : (xs ys : List ℕ) → Free xs → Free ys → Free (xs ++ ys)
both [] ys h i = i
both (x ∷ xs) ys (h, k) i = (h, both xs ys k i)

either_byte : (b : Bool) (x y : ℕ) → (b ≡ true → x ≢ 10) → (b ≡ false → y ≢ 10) → cond b x y ≢ 10
either_byte true x y h k = h refl
either_byte false x y h k = k refl

either : (b : Bool) (xs ys : List ℕ) → (b ≡ true → Free xs) → (b ≡ false → Free ys) → Free (cond b xs ys)
either true xs ys h k = h refl
either false xs ys h k = k refl

abbrev is_free : List ℕ → Bool
is_free [] = true
is_free (b ∷ bs) = not (b == 10) && is_free bs

literal : (bs : List ℕ) → is_free bs ≡ true → Free bs
literal [] h = tt
literal (b ∷ bs) h =
    let parts = and_parts (not (b == 10)) (is_free bs) h in
    (λ e. false≢true (ap (λ c. not (c == 10)) (sym e) ∙ parts.0), literal bs parts.1)

-- ---- strings

digit_free : (d : ℕ) → digit_char d ≢ 10
digit_free d = either_byte (nat_lt d 10) (48 + d) (87 + d) (λ h e. omega arith) (λ h e. omega arith)

letter_free : (x : ℕ) → escape_letter x ≢ 10
letter_free x =
    either_byte ((x == 34) || (x == 92)) x _ (λ h e. false≢true (ap (λ y. (y == 34) || (y == 92)) (sym e) ∙ h)) (λ _.
    either_byte (x == 8) 98 _ (λ _ e. omega arith) (λ _.
    either_byte (x == 12) 102 _ (λ _ e. omega arith) (λ _.
    either_byte (x == 10) 110 _ (λ _ e. omega arith) (λ _.
    either_byte (x == 13) 114 _ (λ _ e. omega arith) (λ _.
    either_byte (x == 9) 116 0 (λ _ e. omega arith) (λ _ e. omega arith))))))

byte_free : (x : ℕ) → Free (escape_byte x)
unfolding escape_byte
byte_free x =
    either (nat_lt 0 (escape_letter x)) (92 ∷ escape_letter x ∷ []) (cond (nat_lt x 32) (92 ∷ 117 ∷ 48 ∷ 48 ∷ digit_char (x / 16) ∷ digit_char (x % 16) ∷ []) (x ∷ []))
    (λ _. both (92 ∷ []) (escape_letter x ∷ []) (literal (92 ∷ []) refl) (letter_free x, tt))
    (λ h. either (nat_lt x 32) (92 ∷ 117 ∷ 48 ∷ 48 ∷ digit_char (x / 16) ∷ digit_char (x % 16) ∷ []) (x ∷ [])
    (λ _. both (92 ∷ 117 ∷ 48 ∷ 48 ∷ []) (digit_char (x / 16) ∷ digit_char (x % 16) ∷ []) (literal (92 ∷ 117 ∷ 48 ∷ 48 ∷ []) refl) (digit_free (x / 16), (digit_free (x % 16), tt)))
    (λ _. (λ e. true≢false (ap (λ y. nat_lt 0 (escape_letter y)) (sym e) ∙ h), tt)))

escaped_free : (s : List ℕ) → Free (escape s)
escaped_free [] = tt
escaped_free (x ∷ xs) = both (escape_byte x) (escape xs) (byte_free x) (escaped_free xs)

quoted_free : (s : List ℕ) → Free (quoted s)
quoted_free s = both (34 ∷ []) (escape s ++ 34 ∷ []) (literal (34 ∷ []) refl) (both (escape s) (34 ∷ []) (escaped_free s) (literal (34 ∷ []) refl))

-- ---- numbers

-- t is free if what follows its first bytes is
abbrev Passes : List ℕ → List ℕ → Type 0
Passes t r = Free r → Free t

drop_one : (x : ℕ) (xs : List ℕ) (n : ℕ) → drop (1 + n) (x ∷ xs) ≡ drop n xs
drop_one x xs n = let e : 1 + n ≡ suc n = omega arith in ap (λ k. drop k (x ∷ xs)) e

digits_free : (t : List ℕ) → Passes t (drop (prefix_len is_ascii_digit t) t)
digits_free [] h = tt
digits_free (x ∷ xs) h = by (digits_free xs) (cases_Bool (is_ascii_digit x))
  where
    by : Passes xs (drop (prefix_len is_ascii_digit xs) xs) → (is_ascii_digit x ≡ true) ⊎ (is_ascii_digit x ≡ false) → Free (x ∷ xs)
    by rest (inl h1) =
        let digit = and_parts _ _ h1 in
        (λ e. omega (arith, leb-true 48 x digit.0, e), rest (subst Free (drop_one x xs (prefix_len is_ascii_digit xs)) (subst (λ b. Free (drop (cond b (1 + prefix_len is_ascii_digit xs) 0) (x ∷ xs))) h1 h)))
    by rest (inr h2) = subst (λ b. Free (drop (cond b (1 + prefix_len is_ascii_digit xs) 0) (x ∷ xs))) h2 h

from_digits : (b : Bool) (t s r : List ℕ) → Passes t s → cond b None (Some s) ≡ Some r → Passes t r
from_digits true t s r h e = absurd (cc e)
from_digits false t s r h e = let same : s ≡ r = cc e in subst (Passes t) same h

after_digits_free : (t r : List ℕ) → after_digits t ≡ Some r → Passes t r
after_digits_free t r e = from_digits (prefix_len is_ascii_digit t == 0) t (drop (prefix_len is_ascii_digit t) t) r (digits_free t) e

-- the first byte is this one
first_free : (t : List ℕ) (c : ℕ) → c ≢ 10 → c ≢ 32 → (head t == c) ≡ true → Passes t (drop 1 t)
first_free [] c h k e = λ _. tt
first_free (x ∷ xs) c h k e = λ free. (λ is. h (sym (eqb-true x c e) ∙ is), free)

perhaps : (b : Bool) (t s : List ℕ) → (b ≡ true → Passes t s) → Passes t (cond b s t)
perhaps true t s h = h refl
perhaps false t s h = λ free. free

minus_free : (t : List ℕ) → Passes t (after_minus t)
minus_free t = perhaps (head t == 45) t (drop 1 t) (first_free t 45 (λ e. omega arith) (λ e. omega arith))

sign_free : (t : List ℕ) → Passes t (after_sign t)
sign_free t = perhaps ((head t == 45) || (head t == 43)) t (drop 1 t) (λ h. by (or_cases (head t == 45) (head t == 43) h))
  where
    by : ((head t == 45) ≡ true) ⊎ ((head t == 43) ≡ true) → Passes t (drop 1 t)
    by (inl e) = first_free t 45 (λ e. omega arith) (λ e. omega arith) e
    by (inr e) = first_free t 43 (λ e. omega arith) (λ e. omega arith) e

-- a part, or none
part : (b : Bool) (t r : List ℕ) (o p : Option (List ℕ)) → (b ≡ true → o ≡ Some r → Passes t r) → (b ≡ false → p ≡ Some r → Passes t r) → cond b o p ≡ Some r → Passes t r
part true t r o p h k e = h refl e
part false t r o p h k e = k refl e

itself : (t r : List ℕ) → Some t ≡ Some r → Passes t r
itself t r e = let same : t ≡ r = cc e in subst (Passes t) same (λ free. free)

whole_free : (t r : List ℕ) → after_whole t ≡ Some r → Passes t r
whole_free t r =
    part (head t == 48) t r (Some (drop 1 t)) (after_digits t)
    (λ h e. let same : drop 1 t ≡ r = cc e in subst (Passes t) same (first_free t 48 (λ e. omega arith) (λ e. omega arith) h))
    (λ _ e. after_digits_free t r e)

fraction_free : (t r : List ℕ) → after_fraction t ≡ Some r → Passes t r
fraction_free t r =
    part (head t == 46) t r (after_digits (drop 1 t)) (Some t)
    (λ h e free. first_free t 46 (λ e. omega arith) (λ e. omega arith) h (after_digits_free (drop 1 t) r e free))
    (λ _ e. itself t r e)

exponent_free : (t r : List ℕ) → after_exponent t ≡ Some r → Passes t r
exponent_free t r =
    part ((head t == 101) || (head t == 69)) t r (after_digits (after_sign (drop 1 t))) (Some t)
    (λ h e free. by (or_cases (head t == 101) (head t == 69) h) (sign_free (drop 1 t) (after_digits_free (after_sign (drop 1 t)) r e free)))
    (λ _ e. itself t r e)
  where
    by : ((head t == 101) ≡ true) ⊎ ((head t == 69) ≡ true) → Passes t (drop 1 t)
    by (inl e) = first_free t 101 (λ e. omega arith) (λ e. omega arith) e
    by (inr e) = first_free t 69 (λ e. omega arith) (λ e. omega arith) e

then : (f : List ℕ → Option (List ℕ)) (o : Option (List ℕ)) (r : List ℕ) → option_and_then f o ≡ Some r → (s : List ℕ) × (o ≡ Some s) × (f s ≡ Some r)
then f None r e = absurd (cc e)
then f (Some s) r e = (s, refl, e)

number_free : (s : List ℕ) → IsNumber s → Free s
unfolding after_number
number_free s h =
    let (u, second, third) = then after_exponent (option_and_then after_fraction (after_whole (after_minus s))) [] h in
    let (v, first, next) = then after_fraction (after_whole (after_minus s)) u second in
    minus_free s (whole_free (after_minus s) v first (fraction_free v u next (exponent_free u [] third tt)))

-- ---- tokens

boolean_free : (b : Bool) → Free (token_text (token.boolean b))
boolean_free true = literal (token_text (token.boolean true)) refl
boolean_free false = literal (token_text (token.boolean false)) refl

separator_free : (b : Bool) (t : Token) → Free (separator b t)
separator_free b t = either (b && begins t) (44 ∷ []) [] (λ _. (λ e. omega arith, tt)) (λ _. tt)

-- what these tokens are printed as is free, in front of others of which this holds
abbrev Prints : List Token → Type 0
Prints ts = (b : Bool) → Free (print_from b ts)

next : (t : Token) (ts : List Token) → Free (token_text t) → Prints ts → Prints (t ∷ ts)
unfolding print_from
next t ts h k b = both (separator b t) (token_text t ++ print_from (ends t) ts) (separator_free b t) (both (token_text t) (print_from (ends t) ts) h (k (ends t)))

nothing : Prints []
unfolding print_from
nothing b = tt

key_free : (k : List ℕ) → Free (token_text (token.key k))
key_free k = both (quoted k) (58 ∷ []) (quoted_free k) (λ e. omega arith, tt)

mutual
  tree_free : (j : Json) (ts : List Token) → HasNumbers j → Prints ts → Prints (json_tokens j ++ ts)
  tree_free null ts h k = next token.null ts (literal (token_text token.null) refl) k
  tree_free (boolean b) ts h k = next (token.boolean b) ts (boolean_free b) k
  tree_free (number s) ts h k = next (token.number s) ts (number_free s h) k
  tree_free (string s) ts h k = next (token.string s) ts (quoted_free s) k
  tree_free (array js) ts h k = next token.begin_array (items_tokens js ++ ts) (λ e. omega arith, tt) (items_free js ts h k)
  tree_free (object js) ts h k = next token.begin_object (members_tokens js ++ ts) (λ e. omega arith, tt) (members_free js ts h k)

  items_free : (js : Items) (ts : List Token) → ItemsHaveNumbers js → Prints ts → Prints (items_tokens js ++ ts)
  items_free no_items ts h k = next token.end_array ts (λ e. omega arith, tt) k
  items_free (item j js) ts h k = subst Prints (sym (append_assoc (json_tokens j) (items_tokens js) ts)) (tree_free j (items_tokens js ++ ts) h.0 (items_free js ts h.1 k))

  members_free : (js : Members) (ts : List Token) → MembersHaveNumbers js → Prints ts → Prints (members_tokens js ++ ts)
  members_free no_members ts h k = next token.end_object ts (λ e. omega arith, tt) k
  members_free (member l j js) ts h k = next (token.key l) ((json_tokens j ++ members_tokens js) ++ ts) (key_free l)
      (subst Prints (sym (append_assoc (json_tokens j) (members_tokens js) ts)) (tree_free j (members_tokens js ++ ts) h.0 (members_free js ts h.1 k)))

unbroken : (j : Json) → HasNumbers j → All (λ b. b ≢ 10) (print (json_tokens j))
unbroken j h = all_free (print (json_tokens j)) (subst (λ ts. Free (print_from false ts)) (Rattle.std.proofs.Common.append-nil (json_tokens j)) (tree_free j [] h nothing false))

-- ---- texts

pub text_unbroken : (m : Mode) (v : Value) (t : List ℕ) → json_levels v ≤ 125 → IsTextOf m v t → All (λ b. b ≢ 10) t
text_unbroken m v t low text =
    let j = text.0 in
    let tree : tree_of t ≡ Some j = text.3 (omega (arith, low, deep m v j text.1)) in
    subst (All (λ b. b ≢ 10)) (sym text.2) (unbroken j (document-HasNumbers t j tree))
