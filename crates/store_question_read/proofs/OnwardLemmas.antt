-- From one step of reading to the next.
use Rattle.std.specs.Prelude.{if◌then◌else◌}
use Rattle.std.proofs.Common.{◌≡◌, ◌<◌, ◌≤◌, ◌+◌, ℕ, ℤ, Bool, true, false, Option, Some, None, List, [], ◌∷◌, ◌++◌, map, drop, length, get_or, Result, Ok, Err, IsErrAnd, Bor, Vec, Global, refl, sym, ap, ◌∙◌, subst, add-one, rules}
use Rattle.std.proofs.Math.Seq.{drop-cons}
use Rattle.std.proofs.lemmas.List.{drop_all}
use Rattle.std.proofs.lemmas.Result.{err_from_is_err_and}
use Rattle.json.specs.Json as json
use Rattle.json.specs.Json.{object}
use Rattle.json.specs.Value.{value_view, items_view, members_view}
use Rattle.json.specs.declared.value.Value.{Value as Tree, Object, Array, the_lemmas}
use Rattle.bson_base.specs.Answer.{◌>>=◌}
use Rattle.store_question.specs.Asked.{Asked, Askeds, asked, no_asked}
use Rattle.store_question.specs.Reads.{Form, Forms, form, no_forms, forms_of, form_of, Reads, ReadEach}
use Rattle.store_question.specs.declared.question.Question.{Question}
use Rattle.bson_base.specs.Value.{Value}
use Rattle.bson_raw.specs.declared.bson.RawBson.{RawBson}
use Rattle.store_question_read.specs.Outcome.{Asks, AskEach, Fails, Gives, Names, Same, Spells}
use Rattle.store_question_read.specs.Query.{Fault, no_operand, no_operator, no_query, only_if, some_or_fault}
use Rattle.store_question_read.specs.declared.error.QueryError.{QueryError}
use Rattle.store_question_read.specs.declared.error.QueryError.TheVariants.{Json as NoJson, RepeatedKey, Query, Operator, Operand, Memory}

pub names_fails : (Y : Type 0) (e : QueryError) (f : Fault) → Names e f → Fails {Y = Y} e (Err f)
names_fails Y Memory f h = tt
names_fails Y Query f h = ap Err h
names_fails Y (Operator k) f h = ap Err h
names_fails Y (Operand k) f h = ap Err h
names_fails Y (NoJson n) f h = h
names_fails Y RepeatedKey f h = h

pub failed : {Y Z : Type 0} (e : QueryError) (m : Result Y Fault) (g : Y → Result Z Fault) → Fails e m → Fails e (m >>= g)
failed Memory m g h = tt
failed Query m g h = ap (λ r. r >>= g) h
failed (Operator k) m g h = ap (λ r. r >>= g) h
failed (Operand k) m g h = ap (λ r. r >>= g) h
failed (NoJson n) m g h = h
failed RepeatedKey m g h = h

pub onward : {X Y Z W : Type 0} (R : X → Y → Type 0) (S : Z → W → Type 0) (x : X) (out : Result Z QueryError) (m : Result Y Fault) (g : Y → Result W Fault) → Gives R (Ok x) m → ((y : Y) → R x y → Gives S out (g y)) → Gives S out (m >>= g)
onward R S x out (Ok y) g h k = k y h
onward R S x out (Err f) g h k = absurd h

-- the exit of a `?`
pub leaves_by : {X Y : Type 0} (R : X → Y → Type 0) (r : Result X QueryError) (x : QueryError) (m : Result Y Fault) → IsErrAnd r (λ y. y ≡ x) → Fails x m → Gives R r m
leaves_by R r x m is fails =
    let p = err_from_is_err_and r is in
    rw (p.1, p.2) fails

-- ---- choices

pub when_true : (b : Bool) (r : Result Question QueryError) (m n : Result Asked Fault) → b ≡ true → Gives Asks r m → Gives Asks r (if b then m else n)
when_true b r m n e h = subst (λ x. Gives Asks r (if x then m else n)) (sym e) h

pub when_false : (b : Bool) (r : Result Question QueryError) (m n : Result Asked Fault) → b ≡ false → Gives Asks r n → Gives Asks r (if b then m else n)
when_false b r m n e h = subst (λ x. Gives Asks r (if x then m else n)) (sym e) h

pub given : (k : List ℕ) (z : ℤ) (o : Option ℤ) → Some z ≡ o → Gives Same (Ok z) (some_or_fault k o)
given k z o e = subst (λ p. Gives Same (Ok z) (some_or_fault k p)) e refl

pub not_given : (k : List ℕ) (e : QueryError) (o : Option ℤ) → None ≡ o → Names e (no_operand k) → Fails e (some_or_fault k o)
not_given k e o is names = subst (λ p. Fails e (some_or_fault k p)) is (names_fails _ e (no_operand k) names)

pub kept_if : (k : List ℕ) (r : RawBson) (v : Value) (b : Bool) → b ≡ true → Spells r v → Gives Spells (Ok r) (only_if b k v)
kept_if k r v b e s = subst (λ c. Gives Spells (Ok r) (only_if c k v)) (sym e) s

pub refused_if : (k : List ℕ) (e : QueryError) (v : Value) (b : Bool) → b ≡ false → Names e (no_operand k) → Fails e (only_if b k v)
refused_if k e v b is names = subst (λ c. Fails e (only_if c k v)) (sym is) (names_fails _ e (no_operand k) names)

-- ---- lists

abbrev joined : Askeds → Askeds → Askeds
joined no_asked us = us
joined (asked t ts) us = asked t (joined ts us)

-- these questions, and then what is read
abbrev pub after : Askeds → Result Askeds Fault → Result Askeds Fault
after ts r = r >>= λ us. Ok (joined ts us)

-- what the whole gives, once the questions so far are read, and what the rest gives
pub record SoFar (list : List Question) (whole rest : Result Askeds Fault) : Type 0 where
  pub done : Askeds
  pub read : ReadEach (forms_of (map form_of list)) done
  pub same : whole ≡ after done rest

abbrev pub and_then : Result Asked Fault → Result Askeds Fault → Result Askeds Fault
and_then m more = m >>= λ t. more >>= λ ts. Ok (asked t ts)

pub none_yet : (whole : Result Askeds Fault) → SoFar [] whole whole
none_yet whole = record { done = no_asked; read = refl; same = by whole }
  where
    by : (r : Result Askeds Fault) → r ≡ after no_asked r
    by (Ok ts) = refl
    by (Err f) = refl

one_read : (list : List Question) (q : Question) (ts : Askeds) (t : Asked) → ReadEach (forms_of (map form_of list)) ts → Asks q t → ReadEach (forms_of (map form_of (list ++ q ∷ []))) (joined ts (asked t no_asked))
one_read [] q ts t h r = subst (λ us. ReadEach (form (form_of q) no_forms) (joined us (asked t no_asked))) (sym h) (t, no_asked, refl, r, refl)
one_read (p ∷ list) q ts t h r =
    subst (λ us. ReadEach (form (form_of p) (forms_of (map form_of (list ++ q ∷ [])))) (joined us (asked t no_asked))) (sym h.2)
    (h.0, joined h.1 (asked t no_asked), refl, h.3, one_read list q h.1 t h.4 r)

joined_more : (ts : Askeds) (t : Asked) (us : Askeds) → joined ts (asked t us) ≡ joined (joined ts (asked t no_asked)) us
joined_more no_asked t us = refl
joined_more (asked u ts) t us = ap (asked u) (joined_more ts t us)

pub one_more : (list : List Question) (q : Question) (whole : Result Askeds Fault) (m : Result Asked Fault) (more : Result Askeds Fault) → SoFar list whole (and_then m more) → Gives Asks (Ok q) m → SoFar (list ++ q ∷ []) whole more
one_more list q whole (Ok t) more s h = record {
  done = joined s.done (asked t no_asked);
  read = one_read list q s.done t s.read h;
  same = s.same ∙ by more;
}
  where
    by : (r : Result Askeds Fault) → after s.done (r >>= λ ts. Ok (asked t ts)) ≡ after (joined s.done (asked t no_asked)) r
    by (Ok us) = ap Ok (joined_more s.done t us)
    by (Err f) = refl
one_more list q whole (Err f) more s h = absurd h

pub stopped : (e : QueryError) (list : List Question) (whole : Result Askeds Fault) (m : Result Asked Fault) (more : Result Askeds Fault) → SoFar list whole (and_then m more) → Fails e m → Fails e whole
stopped e list whole m more s h = subst (λ r. Fails e r) (sym s.same) (failed e (and_then m more) (λ us. Ok (joined s.done us)) (failed e m (λ t. more >>= λ ts. Ok (asked t ts)) h))

joined_none : (ts : Askeds) → joined ts no_asked ≡ ts
joined_none no_asked = refl
joined_none (asked t ts) = ap (asked t) (joined_none ts)

pub all_read : (list : Vec Question Global) (whole : Result Askeds Fault) → SoFar list.items whole (Ok no_asked) → Gives AskEach (Ok list) whole
all_read list whole s = subst (λ r. Gives AskEach (Ok list) r) (sym (s.same ∙ ap Ok (joined_none s.done))) s.read

-- ---- trees

abbrev pub Entry : Type 0
Entry = Bor (List ℕ) × Tree Global

pub object_seen : (v : Tree Global) (ms : Vec Entry Global) (es : List Entry) → v ≡ Object ms → es ≡ ms.items → value_view v ≡ object (members_view es)
object_seen v ms es h k = rw (h, k) (search (rules, the_lemmas))

pub array_seen : (v : Tree Global) (vs : Vec (Tree Global) Global) (ws : List (Tree Global)) → v ≡ Array vs → ws ≡ vs.items → value_view v ≡ json.array (items_view ws)
array_seen v vs ws h k = rw (h, k) (search (rules, the_lemmas))
