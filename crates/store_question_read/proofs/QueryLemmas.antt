-- Arrays and objects of a length, and lists that aren't empty.
use Rattle.std.proofs.Common.{◌≡◌, ◌<◌, ◌≤◌, ℕ, Bool, true, false, List, [], ◌∷◌, map, length, get_or, codes, Result, Ok, Err, Vec, Global, refl, sym, ap, subst, arith}
use Rattle.std.specs.Prelude.{if◌then◌else◌}
use Rattle.std.specs.Str.{bytes_eq}
use Rattle.json.specs.Json.{Json, Members, array, object}
use Rattle.json.specs.Value.{items_view, members_view, value_view}
use Rattle.json.specs.declared.value.Value.{Value as Tree}
use Rattle.bson_base.specs.Answer.{◌>>=◌}
use Rattle.store_model.specs.Filter.{Path}
use Rattle.store_question.specs.Asked.{Asked, Askeds, asked, no_asked, all_of, any_of}
use Rattle.store_question.specs.Reads.{form_of, forms_of, ReadEach}
use Rattle.store_question.specs.declared.question.Question.{Question}
use Rattle.store_question_read.proofs.OnwardLemmas.{Entry, names_fails, when_true}
use Rattle.store_question_read.specs.Outcome.{AskEach, Asks, Fails, Gives, Names}
use Rattle.store_question_read.specs.Query.{Fault, divided, every, filled, has_lone_options, is_array, kind_or_kinds, match_alone, matching, no_operand, of_kind, one_at_least, together}
use Rattle.store_question_read.specs.declared.error.QueryError.{QueryError}

-- ---- lists that aren't empty

empty : (qs : List Question) → ReadEach (forms_of (map form_of qs)) no_asked → qs ≡ []
empty [] r = refl
empty (q ∷ qs) r = let e = r.2 in absurd cc

pub every_asks : (l : Vec Question Global) (q : Question) (ts : Askeds) → (l.items ≡ [] → ⊥) → AskEach l ts → Asks q (all_of ts) → Asks q (every ts)
every_asks l q no_asked never r a = absurd (never (empty l.items r))
every_asks l q (asked t ts) never r a = a

pub filled_given : (k : List ℕ) (l : Vec Question Global) (ts : Askeds) → (l.items ≡ [] → ⊥) → AskEach l ts → Gives AskEach (Ok l) (filled k ts)
filled_given k l no_asked never r = absurd (never (empty l.items r))
filled_given k l (asked t ts) never r = r

-- ---- arrays

pub not_two : (p : Path) (k : List ℕ) (xs : List (Tree Global)) (e : QueryError) → Names e (no_operand k) → (length xs ≡ 2 → ⊥) → Fails e (divided p k (array (items_view xs)))
not_two p k [] e n h = names_fails _ e (no_operand k) n
not_two p k (x ∷ []) e n h = names_fails _ e (no_operand k) n
not_two p k (x ∷ y ∷ []) e n h = absurd (h refl)
not_two p k (x ∷ y ∷ z ∷ xs) e n h = names_fails _ e (no_operand k) n

pub kinds_of_array : (p : Path) (k : List ℕ) (j : Json) (list : Result Askeds Fault) (r : Result Question QueryError) → is_array j ≡ true → Gives Asks r (one_at_least k list >>= λ qs. Ok (any_of qs)) → Gives Asks r (kind_or_kinds p k j list)
kinds_of_array p k j list r e h = when_true (is_array j) r (one_at_least k list >>= λ qs. Ok (any_of qs)) (of_kind p k j) e h

-- ---- objects with one member

pub alone : (p : Path) (k : List ℕ) (ms : List Entry) (x y : Entry) (r : Result Question QueryError) → 1 ≤ length ms → length ms < 2 → bytes_eq (get_or ms 0 x).0.now (codes "$elemMatch") ≡ true → Gives Asks r (matching p (get_or ms 0 x).0.now (value_view (get_or ms 0 y).1)) → Gives Asks r (match_alone p k (object (members_view ms)))
alone p k [] x y r h l t g = absurd (omega (arith, h))
alone p k (m ∷ []) x y r h l t g = when_true (bytes_eq m.0.now (codes "$elemMatch")) r (matching p m.0.now (value_view m.1)) (Err (no_operand k)) t g
alone p k (m ∷ n ∷ ms) x y r h l t g = absurd (omega (arith, l))

pub not_alone : (p : Path) (k : List ℕ) (ms : List Entry) (e : QueryError) → Names e (no_operand k) → (length ms ≡ 1 → ⊥) → Fails e (match_alone p k (object (members_view ms)))
not_alone p k [] e n h = names_fails _ e (no_operand k) n
not_alone p k (m ∷ []) e n h = absurd (h refl)
not_alone p k (m ∷ o ∷ ms) e n h = names_fails _ e (no_operand k) n

pub other_alone : (p : Path) (k : List ℕ) (ms : List Entry) (x : Entry) (e : QueryError) → Names e (no_operand k) → 1 ≤ length ms → length ms < 2 → bytes_eq (get_or ms 0 x).0.now (codes "$elemMatch") ≡ false → Fails e (match_alone p k (object (members_view ms)))
other_alone p k [] x e n h l t = absurd (omega (arith, h))
other_alone p k (m ∷ []) x e n h l t = subst (λ b. Fails e (if b then matching p m.0.now (value_view m.1) else Err (no_operand k))) (sym t) (names_fails _ e (no_operand k) n)
other_alone p k (m ∷ o ∷ ms) x e n h l t = absurd (omega (arith, l))

-- ---- options beside a pattern

pub lone_refused : (js : Members) (list : Result Askeds Fault) (e : QueryError) → has_lone_options js ≡ true → Names e (no_operand (codes "$options")) → Fails e (together js list)
lone_refused js list e h n = subst (λ x. Fails e (if x then Err (no_operand (codes "$options")) else list)) (sym h) (names_fails _ e (no_operand (codes "$options")) n)

pub put_together : (js : Members) (list : Result Askeds Fault) (r : Result (Vec Question Global) QueryError) → has_lone_options js ≡ false → Gives AskEach r list → Gives AskEach r (together js list)
put_together js list r h g = subst (λ x. Gives AskEach r (if x then Err (no_operand (codes "$options")) else list)) (sym h) g
