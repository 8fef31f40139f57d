-- What wrappers and bare numbers are read as.
use Rattle.std.proofs.Common.{◌≡◌, ℤ, ℕ, List, [], ◌∷◌, Option, Some, None, Ok, is_some, refl, sym, ap, ◌∙◌, subst, append-nil}
use Rattle.std.proofs.Common.{Bool, true, length, ◌<◌, ◌^◌, ◌==◌, slice_index, arith, lt-ltb}
use Rattle.std.proofs.lemmas.Bool.Decides.{Decides-eqb}
use Rattle.fast_float.specs.Text.{minus, Parts, scan, digits_of, IsInteger}
use Rattle.std.specs.Prelude.{◌||◌, IfOk, IfSome, Result, Err, false, if◌then◌else◌, option_map, option_and_then}
use Rattle.json.specs.Json as json
use Rattle.json.specs.Json.{Json, if_last, value}
use Rattle.json.specs.Lex.{tokens}
use Rattle.json.specs.Print.{IsNumber, print, print_from}
use Rattle.json.specs.Token.{Token}
use Rattle.json.specs.Tree.{HasNumbers}
use Rattle.json.specs.Token as token
use Rattle.json.proofs.Printed.Tokens.{tokens-print}
use Rattle.json.proofs.Printed.Trees.{ArePrintable-json_tokens}
use Rattle.serde_json.specs.Data.{Num, object, member, no_members, number, put, unsigned}
use Rattle.serde_json.specs.Find.{as_i64}
use Rattle.serde_json.specs.Read.{of_json, number_of, read as data_of_text}
use Rattle.bson_base.specs.Answer.{◌>>=◌}
use Rattle.bson_base.specs.Value.{Value, document}
use Rattle.bson_model.specs.JsonKeys.{Reserved, reserved_of}
use Rattle.bson_model.specs.JsonRead.{below_32, integer, read_members, read_wrapped, some_or_error, whole}
use Rattle.bson_model.specs.View.{view}
use Rattle.bson_model.specs.declared.bson.Bson.{Bson}
use Rattle.store_documents.specs.Reads.{ReadsJson, ReadsUnsigned, ReadsWrapped}
use Rattle.store_documents.specs.declared.unread.Unread.{Unread}

-- ---- an object of one reserved key

pub typed_told : (k : List ℕ) (r : Reserved) (j : Json) (v w : Value) → reserved_of k ≡ Some r → ReadsWrapped r j v → v ≡ w → ReadsJson (json.object (json.member k j json.no_members)) w
typed_told k r j v w reserved told same = (
  object (member k told.0 no_members),
  ap (λ o. option_map object (option_and_then (λ d. Some (put k d no_members)) o)) told.1,
  subst (λ o. (if is_some o || false then read_wrapped o told.0 else (read_members (member k told.0 no_members) >>= λ ms. Ok (document ms))) ≡ Ok v) (sym reserved) told.2 ∙ ap Ok same,
)

pub typed_if : (k : List ℕ) (r : Reserved) (j : Json) (read : Result Bson Unread) → reserved_of k ≡ Some r → IfOk read (λ b. reserved_of k ≡ Some r → ReadsWrapped r j (view b))
    → IfOk read (λ b. HasNumbers j → ReadsJson (json.object (json.member k j json.no_members)) (view b))
typed_if k r j (Ok b) reserved told = λ _. typed_told k r j (view b) (view b) reserved (told reserved) refl
typed_if k r j (Err e) reserved told = tt

-- ---- a bare number

printed : (s : List ℕ) → print (token.number s ∷ []) ≡ s
unfolding print_from
printed s = append-nil s

alone : (s : List ℕ) → IsNumber s → tokens s ≡ token.number s ∷ []
alone s is = subst (λ t. tokens t ≡ token.number s ∷ []) (printed s) (tokens-print (token.number s ∷ []) (ArePrintable-json_tokens (json.number s) is))

one_value : (s : List ℕ) → value 127 (token.number s ∷ []) ≡ Some (json.number s, [])
unfolding value
one_value s = refl

read_alone : (s : List ℕ) → IsNumber s → data_of_text s ≡ of_json (json.number s)
read_alone s is =
    ap (λ ts. option_and_then of_json (option_and_then (λ p. if_last p.0 p.1) (value 127 ts))) (alone s is)
    ∙ ap (λ o. option_and_then of_json (option_and_then (λ p. if_last p.0 p.1) o)) (one_value s)

pub number_told : (s : List ℕ) (n : Num) (z : ℤ) (v : Value) → data_of_text s ≡ Some (number n) → Some z ≡ as_i64 n → integer z ≡ v → IsNumber s → ReadsJson (json.number s) v
number_told s n z v text fits same is = (number n, sym (read_alone s is) ∙ text, ap whole (sym fits) ∙ ap Ok same)

-- ---- a whole number without a sign

no_digit : (s : List ℕ) → (slice_index s 0 == minus) ≡ true → length (scan s).whole ≡ 0
unfolding scan
no_digit [] is = refl
no_digit (b ∷ bs) is = let minus_first : b ≡ minus = (Decides-eqb b minus).0 is in rw minus_first refl

digits_read : (s : List ℕ) → IsInteger (scan s) → digits_of (scan s) < 2 ^ 64 → number_of s ≡ Some (unsigned (digits_of (scan s)))
unfolding number_of
digits_read s whole fits = by (slice_index s 0 == minus) refl
  where
    by : (b : Bool) → (slice_index s 0 == minus) ≡ b → number_of s ≡ Some (unsigned (digits_of (scan s)))
    by true h = absurd (omega (arith, no_digit s h, whole.0))
    by false h = rw (h, whole.1, whole.2, lt-ltb _ _ whole.0, lt-ltb _ _ fits) refl

pub unsigned_if : (j : Json) (s : List ℕ) (p : Parts) (w : ℕ) (r : Option ℕ) → j ≡ json.number s → p ≡ scan s → IsInteger p × (digits_of p < 2 ^ 64) → w ≡ digits_of p → r ≡ below_32 w
    → IfSome r (ReadsUnsigned j)
unsigned_if j s p w None is scanned whole same fits = tt
unsigned_if j s p w (Some n) is scanned whole same fits =
    let read : number_of s ≡ Some (unsigned (digits_of p)) = subst (λ q. IsInteger q × (digits_of q < 2 ^ 64) → number_of s ≡ Some (unsigned (digits_of q))) (sym scanned) (λ h. digits_read s h.0 h.1) whole in
    subst (λ x. ReadsUnsigned x n) (sym is) (number (unsigned (digits_of p)), ap (option_map number) read, ap some_or_error (ap below_32 (sym same) ∙ sym fits))
