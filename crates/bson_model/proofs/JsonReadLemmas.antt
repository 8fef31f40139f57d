-- Reading goes on from what is read so far.
use Rattle.std.proofs.Common.{◌≡◌, ◌<◌, ◌≤◌, ◌&&◌, if◌then◌else◌, ℕ, Bool, List, [], ◌∷◌, ◌++◌, length, map, Option, IsErrAnd, Result, Ok, Err, String, Global, string_bytes, string_cmp, true, false, Less, Greater, is_eq, nat_cmp, bytes_eq, refl, sym, ap, ◌∙◌, subst, append_assoc, arith}
use Rattle.std.specs.List.{AllByRecursion}
use Rattle.std.specs.List.Sorted.{IsStrictlySortedBy}
use Rattle.std.specs.Map.{keys_of}
use Rattle.std.specs.Cmp.Lexicographic.{slice_cmp}
use Rattle.std.specs.Ordering.{ordering_reverse}
use Rattle.std.proofs.lemmas.Cmp.{nat_list_cmp_total}
use Rattle.std.proofs.lemmas.Map.Text.{is_eq-slice_cmp}
use Rattle.std.proofs.lemmas.Result.{err_from_is_err_and}
use Rattle.serde_json.specs.View.{view as data_of, items_view, members_view}
use Rattle.serde_json.specs.Data.{Data}
use Rattle.serde_json.specs.declared.value.Value as json
use Rattle.bson_base.specs.Value.{Value, Items, no_items, item, Members, no_members, member}
use Rattle.bson_pairs.specs.Keyed.{Key, put}
use Rattle.bson_model.specs.JsonKeys.{key_of, of_code, scope_key, reserved_of}
use Rattle.bson_base.specs.Answer.{◌>>=◌}
use Rattle.bson_model.specs.JsonRead.{Fails, GivesReading, read, read_items, read_members, read_typed, read_wrapped, text_of, read_scope, code_and_scope}
use Rattle.bson_model.specs.JsonScoped.{scoped_parts}
use Rattle.bson_model.specs.View.{view, items_of, members_of}
use Rattle.bson_model.specs.declared.bson.Bson.{Bson}
use Rattle.bson_model.specs.declared.extjson.de.Error.{Error}
use Rattle.bson_model.specs.declared.extjson.de.Error.TheVariants.{InvalidObjectId, DeserializationError, FiniteDouble, Memory}

-- ---- steps

pub Fails-bind : {A B : Type 0} (e : Error) (r : Result A Error) (f : A → Result B Error) → Fails e r → Fails e (r >>= f)
Fails-bind Memory r f h = tt
Fails-bind (InvalidObjectId x) r f h = rw h
Fails-bind DeserializationError r f h = rw h
Fails-bind FiniteDouble r f h = rw h

pub Fails-along : {A : Type 0} (e : Error) (r s : Result A Error) → r ≡ s → Fails e s → Fails e r
Fails-along Memory r s same h = tt
Fails-along (InvalidObjectId x) r s same h = same ∙ h
Fails-along DeserializationError r s same h = same ∙ h
Fails-along FiniteDouble r s same h = same ∙ h

-- the exit of a `?`
pub Gives-err : {X Y : Type 0} (seen : X → Y) (r : Result X Error) (x : Error) (s : Result Y Error) → IsErrAnd r (λ y. y ≡ x) → Fails x s → GivesReading seen r s
Gives-err seen r x s is fails =
    let p = err_from_is_err_and r is in
    rw (p.1, p.2) fails

-- ---- items

abbrev pub values_view : List Bson → Items
values_view vs = items_of (map view vs)

abbrev pub items_then : Items → Items → Items
items_then no_items us = us
items_then (item v vs) us = item v (items_then vs us)

items_then-none : (vs : Items) → items_then vs no_items ≡ vs
items_then-none no_items = refl
items_then-none (item v vs) = ap (item v) (items_then-none vs)

items_then-more : (bs : List Bson) (b : Bson) (us : Items) → items_then (values_view bs) (item (view b) us) ≡ items_then (values_view (bs ++ b ∷ [])) us
items_then-more [] b us = refl
items_then-more (c ∷ bs) b us = ap (item (view c)) (items_then-more bs b us)

-- vs, and then what is read
abbrev pub after_items : Items → Result Items Error → Result Items Error
after_items vs r = r >>= λ us. Ok (items_then vs us)

after_items-more : (bs : List Bson) (b : Bson) (r : Result Items Error) → after_items (values_view bs) (r >>= λ us. Ok (item (view b) us)) ≡ after_items (values_view (bs ++ b ∷ [])) r
after_items-more bs b (Ok us) = ap Ok (items_then-more bs b us)
after_items-more bs b (Err e) = refl

pub items_step : (all : Result Items Error) (bs cs : List Bson) (vs ws : List json.Value) (v : json.Value) (b : Bson)
    → all ≡ after_items (values_view bs) (read_items (items_view vs)) → vs ≡ v ∷ ws → read (data_of v) ≡ Ok (view b) → cs ≡ bs ++ b ∷ []
    → all ≡ after_items (values_view cs) (read_items (items_view ws))
items_step all bs cs vs ws v b so first is more =
    so ∙ ap (λ us. after_items (values_view bs) (read_items (items_view us))) first
    ∙ ap (λ r. after_items (values_view bs) (r >>= λ t. read_items (items_view ws) >>= λ ts. Ok (item t ts))) is
    ∙ after_items-more bs b (read_items (items_view ws)) ∙ ap (λ ds. after_items (values_view ds) (read_items (items_view ws))) (sym more)

pub items_end : (all : Result Items Error) (bs : List Bson) (vs : List json.Value)
    → all ≡ after_items (values_view bs) (read_items (items_view vs)) → vs ≡ [] → all ≡ Ok (values_view bs)
items_end all bs vs so none = so ∙ ap (λ us. after_items (values_view bs) (read_items (items_view us))) none ∙ ap Ok (items_then-none (values_view bs))

-- ---- members

abbrev pub Named : Type 0
Named = Key × Value

abbrev pub members_then : Members → Members → Members
members_then no_members us = us
members_then (member k v ms) us = member k v (members_then ms us)

members_then-none : (ms : Members) → members_then ms no_members ≡ ms
members_then-none no_members = refl
members_then-none (member k v ms) = ap (member k v) (members_then-none ms)

members_then-more : (ps : List Named) (p : Named) (us : Members) → members_then (members_of ps) (member p.0 p.1 us) ≡ members_then (members_of (ps ++ p ∷ [])) us
members_then-more [] p us = refl
members_then-more (q ∷ ps) p us = ap (member q.0 q.1) (members_then-more ps p us)

abbrev pub after_members : Members → Result Members Error → Result Members Error
after_members ms r = r >>= λ us. Ok (members_then ms us)

pub after_members-none : (r : Result Members Error) → r ≡ after_members no_members r
after_members-none (Ok us) = refl
after_members-none (Err e) = refl

after_members-more : (ps : List Named) (p : Named) (r : Result Members Error)
    → after_members (members_of ps) (r >>= λ us. Ok (member p.0 p.1 us)) ≡ after_members (members_of (ps ++ p ∷ [])) r
after_members-more ps p (Ok us) = ap Ok (members_then-more ps p us)
after_members-more ps p (Err e) = refl

abbrev pub Entry : Type 0
Entry = String Global × json.Value

-- ---- a key that is above those before it goes last

below_middle : (first : Entry) (es : List Entry) (e : Entry) (more : List Entry) → AllByRecursion (λ y. string_cmp first.0 y ≡ Less) (keys_of (es ++ e ∷ more)) → string_cmp first.0 e.0 ≡ Less
below_middle first [] e more h = h.0
below_middle first (x ∷ es) e more h = below_middle first es e more h.1

another : (d e : Entry) → string_cmp d.0 e.0 ≡ Less → bytes_eq (string_bytes e.0) (string_bytes d.0) ≡ false
another d e below =
    let above : slice_cmp nat_cmp (string_bytes e.0) (string_bytes d.0) ≡ Greater =
    nat_list_cmp_total.antisymm (string_bytes e.0) (string_bytes d.0) ∙ ap ordering_reverse below in
    sym (is_eq-slice_cmp (string_bytes e.0) (string_bytes d.0)) ∙ ap is_eq above

put_new : (done : List Entry) (e : Entry) (more : List Entry) (ps : List Named) (v : Value) → IsStrictlySortedBy string_cmp (keys_of (done ++ e ∷ more))
    → keys_of ps ≡ map string_bytes (keys_of done) → put (string_bytes e.0) v ps ≡ ps ++ (string_bytes e.0, v) ∷ []
unfolding IsStrictlySortedBy
put_new [] e more [] v h s = refl
put_new [] e more (p ∷ ps) v h s = absurd (cc s)
put_new (d ∷ done) e more [] v h s = absurd (cc s)
put_new (d ∷ done) e more (p ∷ ps) v h s =
    let same : p.0 ≡ string_bytes d.0 = cc s in
    let rest : keys_of ps ≡ map string_bytes (keys_of done) = cc s in
    let apart : bytes_eq (string_bytes e.0) p.0 ≡ false = ap (bytes_eq (string_bytes e.0)) same ∙ another d e (below_middle d done e more h.0) in
    rw apart (ap (λ l. p ∷ l) (put_new done e more ps v h.1 rest))

keys_more : {A B : Type 0} (xs : List (A × B)) (x : A × B) → keys_of (xs ++ x ∷ []) ≡ keys_of xs ++ x.0 ∷ []
keys_more [] x = refl
keys_more (y ∷ xs) x = ap (λ l. y.0 ∷ l) (keys_more xs x)

bytes_more : (ks : List (String Global)) (k : String Global) → map string_bytes (ks ++ k ∷ []) ≡ map string_bytes ks ++ string_bytes k ∷ []
bytes_more [] k = refl
bytes_more (l ∷ ks) k = ap (λ m. string_bytes l ∷ m) (bytes_more ks k)

-- ---- the loop over members

-- the pairs that were read of the members, and what is left of them
pub record SoFar (all left : List Entry) (ps : List Named) : Type 0 where
  pub done : List Entry
  pub splits : all ≡ done ++ left
  pub keys : keys_of ps ≡ map string_bytes (keys_of done)
  pub reads : read_members (members_view all) ≡ after_members (members_of ps) (read_members (members_view left))

pub members_begin : (all left : List Entry) → left ≡ all → SoFar all left []
members_begin all left same = record {
  done = [];
  splits = sym same;
  keys = refl;
  reads = ap (λ es. read_members (members_view es)) (sym same) ∙ after_members-none (read_members (members_view left));
}

pub members_step : (all left more : List Entry) (ps qs : List Named) (k : String Global) (v : json.Value) (b : Bson)
    → IsStrictlySortedBy string_cmp (keys_of all) → SoFar all left ps → left ≡ (k, v) ∷ more → read (data_of v) ≡ Ok (view b) → qs ≡ put (string_bytes k) (view b) ps → SoFar all more qs
members_step all left more ps qs k v b sorted so first is puts =
    let whole : all ≡ so.done ++ (k, v) ∷ more = so.splits ∙ ap (λ es. so.done ++ es) first in
    let last : qs ≡ ps ++ (string_bytes k, view b) ∷ [] = puts ∙ put_new so.done (k, v) more ps (view b) (subst (λ es. IsStrictlySortedBy string_cmp (keys_of es)) whole sorted) so.keys in
    record {
      done = so.done ++ (k, v) ∷ [];
      splits = whole ∙ sym (append_assoc so.done ((k, v) ∷ []) more);
      keys = ap keys_of last ∙ keys_more ps (string_bytes k, view b) ∙ ap (λ l. l ++ string_bytes k ∷ []) so.keys ∙ sym (bytes_more (keys_of so.done) k) ∙ ap (map string_bytes) (sym (keys_more so.done (k, v)));
      reads = so.reads ∙ ap (λ us. after_members (members_of ps) (read_members (members_view us))) first
          ∙ ap (λ r. after_members (members_of ps) (r >>= λ t. read_members (members_view more) >>= λ ms. Ok (member (string_bytes k) t ms))) is
          ∙ after_members-more ps (string_bytes k, view b) (read_members (members_view more))
          ∙ ap (λ ds. after_members (members_of ds) (read_members (members_view more))) (sym last);
    }

pub members_end : (all left : List Entry) (ps : List Named) → SoFar all left ps → left ≡ [] → read_members (members_view all) ≡ Ok (members_of ps)
members_end all left ps so none = so.reads ∙ ap (λ us. after_members (members_of ps) (read_members (members_view us))) none ∙ ap Ok (members_then-none (members_of ps))

-- ---- code with its scope

abbrev pub beside : Data → List ℕ → Result (List ℕ × Data) Error
beside i t = Ok (t, i)

abbrev pub read_beside : List ℕ × Data → Result Value Error
read_beside p = read_scope p.1 >>= λ o. Ok (code_and_scope p.0 o)

abbrev parts_if : Bool → Data → Data → Result (Data × Data) Error
parts_if b j i = if b then Ok (j, i) else Err DeserializationError

scoped_after : (r : Result (List ℕ) Error) (i : Data) → (r >>= λ t. read_scope i >>= λ o. Ok (code_and_scope t o)) ≡ ((r >>= beside i) >>= read_beside)
scoped_after (Ok t) i = refl
scoped_after (Err e) i = refl

scoped_if : (b : Bool) (j i : Data) → (if b then (text_of j >>= λ t. read_scope i >>= λ o. Ok (code_and_scope t o)) else Err DeserializationError)
    ≡ ((parts_if b j i >>= λ p. text_of p.0 >>= beside p.1) >>= read_beside)
scoped_if true j i = scoped_after (text_of j) i
scoped_if false j i = refl

-- an object with more than one member is code with its scope, or nothing
scoped_whole : (es : List Entry) → 2 ≤ length es → read_typed (members_view es) ≡ (scoped_parts (members_view es) >>= read_beside)
scoped_whole [] h = absurd (omega (arith, h))
scoped_whole (m ∷ []) h = absurd (omega (arith, h))
scoped_whole (m ∷ n ∷ []) h = scoped_if (bytes_eq (string_bytes m.0) (key_of of_code) && bytes_eq (string_bytes n.0) scope_key) (data_of m.1) (data_of n.1)
scoped_whole (m ∷ n ∷ o ∷ es) h = refl

pub parts_fail : (e : Error) (es : List Entry) → 2 ≤ length es → Fails e (scoped_parts (members_view es)) → Fails e (read_typed (members_view es))
parts_fail e es h fails = Fails-along e _ _ (scoped_whole es h) (Fails-bind e (scoped_parts (members_view es)) read_beside fails)

pub scope_fails : (e : Error) (es : List Entry) (s : List ℕ) (d : Data) → 2 ≤ length es → scoped_parts (members_view es) ≡ Ok (s, d) → Fails e (read_scope d) → Fails e (read_typed (members_view es))
scope_fails e es s d h parts fails = Fails-along e _ _ (scoped_whole es h ∙ ap (λ r. r >>= read_beside) parts) (Fails-bind e (read_scope d) (λ o. Ok (code_and_scope s o)) fails)

pub scoped_read : (es : List Entry) (s : List ℕ) (d : Data) (o : Option Members) → 2 ≤ length es → scoped_parts (members_view es) ≡ Ok (s, d) → read_scope d ≡ Ok o → read_typed (members_view es) ≡ Ok (code_and_scope s o)
scoped_read es s d o h parts scope = scoped_whole es h ∙ ap (λ r. r >>= read_beside) parts ∙ ap (λ r. r >>= λ p. Ok (code_and_scope s p)) scope

-- an object with one member
pub alone_read : (es more : List Entry) (k : String Global) (v : json.Value) → length es < 2 → es ≡ (k, v) ∷ more → read_typed (members_view es) ≡ read_wrapped (reserved_of (string_bytes k)) (data_of v)
alone_read es [] k v h is = ap (λ fs. read_typed (members_view fs)) is
alone_read es (m ∷ more) k v h is = absurd (omega (arith, h, ap length is))
