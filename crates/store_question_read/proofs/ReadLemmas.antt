-- What is read so far, and what is left.
use Rattle.std.proofs.Common.{◌≡◌, ◌≤◌, ◌<◌, ◌+◌, ◌∙◌, ℕ, ℤ, pos, zero, suc, List, [], ◌∷◌, ◌++◌, length, drop, get_or, false, Result, Ok, Bor, Vec, Global, ap, refl, subst, sym, arith, rules}
use Rattle.json.specs.Json.{Json, array, member, object}
use Rattle.json.specs.Value.{value_view, items_view, members_view}
use Rattle.json.specs.declared.value.Value.{Value as Tree, Array, Object, the_lemmas}
use Rattle.bson_base.specs.Answer.{◌>>=◌}
use Rattle.bson_base.specs.Value.{Value}
use Rattle.store_question_read.specs.UpdateOutcome.{Fails}
use Rattle.store_update.specs.Plan.{Plan}
use Rattle.store_question_read.specs.Read.{Fault, asks_date, field}
use Rattle.store_question_read.specs.Seed.{Fixed, eq, with_each, with_entries, with_entry, with_plan}
use Rattle.store_question_read.specs.declared.update_error.ReadError.{ReadError}
use Rattle.store_question_read.specs.declared.update_error.ReadError.TheVariants.{Json as NoJson, RepeatedKey, Update, Operator, Fields, At as NotAt, Memory}
use Rattle.store_question_read.specs.declared.update_words.Changing.TheVariants.{Set}
use Rattle.store_question_read.specs.declared.update_words.Operator.TheVariants.{At}

abbrev pub Entry : Type 0
Entry = Bor (List ℕ) × Tree Global

pub object_seen : (v : Tree Global) (ms : Vec Entry Global) (es : List Entry) → v ≡ Object ms → es ≡ ms.items → value_view v ≡ object (members_view es)
object_seen v ms es h k = rw (h, k) (search (rules, the_lemmas))

pub array_seen : (v : Tree Global) (vs : Vec (Tree Global) Global) (ws : List (Tree Global)) → v ≡ Array vs → ws ≡ vs.items → value_view v ≡ array (items_view ws)
array_seen v vs ws h k = rw (h, k) (search (rules, the_lemmas))

-- these values, and then what is read
abbrev pub after : List Value → Result (List Value) Fault → Result (List Value) Fault
after done r = r >>= λ vs. Ok (done ++ vs)

-- an object of two members and more asks for no date
pub asks_none : (ms : List Entry) → 2 ≤ length ms → false ≡ asks_date (members_view ms)
asks_none [] h = refl
asks_none (a ∷ []) h = absurd (omega (arith, h))
asks_none (a ∷ b ∷ ms) h = refl

-- what fails fails with all that comes behind it
pub fails_then : {A B : Type 0} (e : ReadError) (r : Result A Fault) (f : A → Result B Fault) → Fails e r → Fails e (r >>= f)
fails_then Memory r f h = h
fails_then Update r f h = ap (λ x. x >>= f) h
fails_then (Operator k) r f h = ap (λ x. x >>= f) h
fails_then (Fields k) r f h = ap (λ x. x >>= f) h
fails_then (NotAt x k p) r f h = ap (λ x. x >>= f) h
fails_then (NoJson n) r f h = h
fails_then RepeatedKey r f h = h

-- a value that isn't read as that of `$set`, by this date and after these plans
pub failed_plan : (z : ℤ) (f : Fixed) (k : List ℕ) (j : Json) (plans : List Plan) (e : ReadError) → z ≡ pos 0 → plans ≡ f.plans → Fails e (field z plans (At Set) eq k j) → Fails e (with_plan f k j)
failed_plan z f k j plans e date is h =
    let dated : Fails e (field (pos 0) plans (At Set) eq k j) = subst (λ (d : ℤ). Fails e (field d plans (At Set) eq k j)) date h in
    let at : Fails e (field (pos 0) f.plans (At Set) eq k j) = subst (λ (ps : List Plan). Fails e (field (pos 0) ps (At Set) eq k j)) is dated in
    fails_then e (field (pos 0) f.plans (At Set) eq k j) (λ (plan : Plan). Ok (record { id = f.id; plans = f.plans ++ plan ∷ [] })) at

-- the member at a place comes first of what is left there
pub seen_next : (ms : List Entry) (i : ℕ) (x : Entry) → i < length ms → x ≡ get_or ms i x → members_view (drop i ms) ≡ member x.0.now (value_view x.1) (members_view (drop (suc i) ms))
seen_next [] i x low is = absurd (omega (arith, low))
seen_next (y ∷ ms) zero x low is = ap (λ (e : Entry). member e.0.now (value_view e.1) (members_view ms)) (sym is)
seen_next (y ∷ ms) (suc i) x low is = seen_next ms i x (omega (arith, low)) is

-- ---- what a query fixes, entry by entry

module _ (ms : List Entry) (i : ℕ) (x : Entry) (low : i < length ms) (is : x ≡ get_or ms i x) (whole : Result Fixed Fault) (f : Fixed) (so : whole ≡ with_entries f (members_view (drop i ms))) where
  abbrev Here : Result Fixed Fault
  Here = with_entry f x.0.now (value_view x.1) (with_each f (value_view x.1))

  goes : whole ≡ (Here >>= λ g. with_entries g (members_view (drop (suc i) ms)))
  goes = so ∙ ap (with_entries f) (seen_next ms i x low is)

  pub next_entry : (g : Fixed) → Here ≡ Ok g → whole ≡ with_entries g (members_view (drop (i + 1) ms))
  next_entry g h =
      let one : suc i ≡ i + 1 = omega arith in
      goes ∙ ap (λ r. r >>= λ (k : Fixed). with_entries k (members_view (drop (suc i) ms))) h ∙ ap (λ k. with_entries g (members_view (drop k ms))) one

  pub failed_entry : (e : ReadError) → Fails e Here → Fails e whole
  failed_entry e h = subst (λ r. Fails e r) (sym goes) (fails_then e Here (λ g. with_entries g (members_view (drop (suc i) ms))) h)
