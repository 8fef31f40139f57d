-- Reading goes on from what is read so far.
use Rattle.std.proofs.Common.{◌≡◌, ◌<◌, ◌+◌, ℕ, List, [], ◌∷◌, ◌++◌, map, length, drop, get_or, Bool, true, false, cond, Option, Some, None, Result, Ok, Err, IsErrAnd, Bor, Vec, Global, refl, sym, ap, ◌∙◌, rules, arith}
use Rattle.std.specs.Prelude.{◌||◌, ◌&&◌, ◌≤◌, bytes_eq, if◌then◌else◌, is_some, option_map}
use Rattle.std.proofs.lemmas.List.{drop_more}
use Rattle.std.proofs.lemmas.Result.{err_from_is_err_and}
use Rattle.json.specs.Json as json
use Rattle.json.specs.Json.{Json, object, document as tree_of}
use Rattle.json.specs.Value.{value_view, items_view, members_view}
use Rattle.json.specs.declared.value.Value.{Value as Tree, Object, the_lemmas}
use Rattle.bson_base.specs.Answer.{◌>>=◌}
use Rattle.bson_base.specs.Value.{Value, Items, no_items, item, Members, no_members, member, document, look_up, put}
use Rattle.bson_model.specs.Keyed.{Key}
use Rattle.bson_model.specs.Keyed as keyed
use Rattle.bson_model.proofs.EqualLemmas.{look_up-members_of}
use Rattle.bson_model.specs.JsonKeys.{is_reserved, key_of, of_code, scope_key}
use Rattle.bson_model.specs.JsonRead.{code_and_scope}
use Rattle.bson_model.specs.View.{view, items_of, members_of}
use Rattle.bson_model.specs.declared.bson.Bson.{Bson}
use Rattle.bson_json_read.specs.Outcome.{Fails, GivesReading}
use Rattle.bson_json_read.specs.declared.error.Error.{Error}
use Rattle.bson_json_read.specs.declared.error.Error.TheVariants.{NotJson, RepeatedKey, InvalidObjectId, NumberOutOfRange, NotExtendedJson, Memory}
use Rattle.bson_json_read.specs.Reading.{add, any_reserved, bodies_in, is_code_and_scope, read, read_items, read_members, read_scope, read_scoped, read_typed, ReadsTextBy, single, text_of}

-- ---- steps

pub Fails-bind : {A B : Type 0} (e : Error) (r : Result A Error) (f : A → Result B Error) → Fails e r → Fails e (r >>= f)
Fails-bind Memory r f h = tt
Fails-bind (NotJson n) r f h = absurd h
Fails-bind RepeatedKey r f h = rw h
Fails-bind (InvalidObjectId x) r f h = rw h
Fails-bind NumberOutOfRange r f h = rw h
Fails-bind NotExtendedJson r f h = rw h

pub Fails-along : {A : Type 0} (e : Error) (r s : Result A Error) → r ≡ s → Fails e s → Fails e r
Fails-along Memory r s same h = tt
Fails-along (NotJson n) r s same h = absurd h
Fails-along RepeatedKey r s same h = same ∙ h
Fails-along (InvalidObjectId x) r s same h = same ∙ h
Fails-along NumberOutOfRange r s same h = same ∙ h
Fails-along NotExtendedJson r s same h = same ∙ h

-- the exit of a `?`
pub Gives-err : {X Y : Type 0} (seen : X → Y) (r : Result X Error) (x : Error) (s : Result Y Error) → IsErrAnd r (λ y. y ≡ x) → Fails x s → GivesReading seen r s
Gives-err seen r x s is fails =
    let p = err_from_is_err_and r is in
    rw (p.1, p.2) fails

abbrev pub Entry : Type 0
Entry = Bor (List ℕ) × Tree Global

pub object_seen : (v : Tree Global) (ms : Vec Entry Global) (es : List Entry) → v ≡ Object ms → es ≡ ms.items → value_view v ≡ object (members_view es)
object_seen v ms es h k = rw (h, k) (search (rules, the_lemmas))

pub item_at : {A : Type 0} (xs : List A) (i : ℕ) (x : A) → i < length xs → x ≡ get_or xs i x → drop i xs ≡ x ∷ drop (i + 1) xs
item_at xs i x lt is = drop_more xs i x lt ∙ ap (λ y. y ∷ drop (i + 1) xs) (sym is)

-- ---- reserved keys

pub any_step : (all : Bool) (b : Bool) (vs ws : List Entry) (m : Entry) → all ≡ any_reserved (members_view vs) → vs ≡ m ∷ ws → b ≡ is_reserved m.0.now → all ≡ (b || any_reserved (members_view ws))
any_step all b vs ws m so first is = so ∙ ap (λ es. any_reserved (members_view es)) first ∙ ap (λ c. c || any_reserved (members_view ws)) (sym is)

-- ---- texts

module _ {X Y : Type 0} (reading : Json → Result Y Error) (seen : X → Y) where
  pub text_reads : (t : List ℕ) (v : Tree Global) (r : Result X Error) → tree_of t ≡ Some (value_view v) → GivesReading seen r (reading (value_view v)) → ReadsTextBy reading seen t r
  text_reads t v (Ok x) tree gives = (value_view v, tree, gives)
  text_reads t v (Err Memory) tree gives = tt
  text_reads t v (Err (NotJson n)) tree gives = absurd gives
  text_reads t v (Err RepeatedKey) tree gives = (value_view v, tree, gives)
  text_reads t v (Err (InvalidObjectId e)) tree gives = (value_view v, tree, gives)
  text_reads t v (Err NumberOutOfRange) tree gives = (value_view v, tree, gives)
  text_reads t v (Err NotExtendedJson) tree gives = (value_view v, tree, gives)

-- ---- items

abbrev pub values_view : List Bson → Items
values_view vs = items_of (map view vs)

abbrev pub items_then : Items → Items → Items
items_then no_items us = us
items_then (item v vs) us = item v (items_then vs us)

-- vs, and then what is read
abbrev pub after_items : Items → Result Items Error → Result Items Error
after_items vs r = r >>= λ us. Ok (items_then vs us)

items_then-none : (vs : Items) → items_then vs no_items ≡ vs
items_then-none no_items = refl
items_then-none (item v vs) = ap (item v) (items_then-none vs)

items_then-more : (bs : List Bson) (b : Bson) (us : Items) → items_then (values_view bs) (item (view b) us) ≡ items_then (values_view (bs ++ b ∷ [])) us
items_then-more [] b us = refl
items_then-more (c ∷ bs) b us = ap (item (view c)) (items_then-more bs b us)

after_items-more : (bs : List Bson) (b : Bson) (r : Result Items Error) → after_items (values_view bs) (r >>= λ us. Ok (item (view b) us)) ≡ after_items (values_view (bs ++ b ∷ [])) r
after_items-more bs b (Ok us) = ap Ok (items_then-more bs b us)
after_items-more bs b (Err e) = refl

pub items_step : (all : Result Items Error) (bs cs : List Bson) (vs ws : List (Tree Global)) (v : Tree Global) (b : Bson)
    → all ≡ after_items (values_view bs) (read_items (items_view vs)) → vs ≡ v ∷ ws → read (value_view v) ≡ Ok (view b) → cs ≡ bs ++ b ∷ []
    → all ≡ after_items (values_view cs) (read_items (items_view ws))
items_step all bs cs vs ws v b so first is more =
    so ∙ ap (λ us. after_items (values_view bs) (read_items (items_view us))) first
    ∙ ap (λ r. after_items (values_view bs) (r >>= λ t. read_items (items_view ws) >>= λ ts. Ok (item t ts))) is
    ∙ after_items-more bs b (read_items (items_view ws)) ∙ ap (λ ds. after_items (values_view ds) (read_items (items_view ws))) (sym more)

pub items_end : (all : Result Items Error) (bs : List Bson) (vs : List (Tree Global))
    → all ≡ after_items (values_view bs) (read_items (items_view vs)) → vs ≡ [] → all ≡ Ok (values_view bs)
items_end all bs vs so none = so ∙ ap (λ us. after_items (values_view bs) (read_items (items_view us))) none ∙ ap Ok (items_then-none (values_view bs))

pub items_fail : (e : Error) (all : Result Items Error) (bs : List Bson) (vs ws : List (Tree Global)) (v : Tree Global)
    → all ≡ after_items (values_view bs) (read_items (items_view vs)) → vs ≡ v ∷ ws → Fails e (read (value_view v)) → Fails e all
items_fail e all bs vs ws v so first h =
    Fails-along e all (after_items (values_view bs) (read_items (items_view (v ∷ ws)))) (so ∙ ap (λ us. after_items (values_view bs) (read_items (items_view us))) first)
    (Fails-bind e (read_items (items_view (v ∷ ws))) (λ us. Ok (items_then (values_view bs) us)) (Fails-bind e (read (value_view v)) (λ t. read_items (items_view ws) >>= λ ts. Ok (item t ts)) h))

-- ---- members

pub members_of_put : (k : Key) (v : Value) (ps : List (Key × Value)) → members_of (keyed.put k v ps) ≡ put k v (members_of ps)
members_of_put k v [] = refl
members_of_put k v (p ∷ ps) = at_test (bytes_eq k p.0) (members_of_put k v ps)
  where
    at_test : (b : Bool) → members_of (keyed.put k v ps) ≡ put k v (members_of ps)
        → members_of (cond b ((p.0, v) ∷ ps) (p ∷ keyed.put k v ps)) ≡ cond b (member p.0 v (members_of ps)) (member p.0 p.1 (put k v (members_of ps)))
    at_test true h = refl
    at_test false h = ap (member p.0 p.1) h

-- a key that was there
pub added_twice : (k : Key) (v : Value) (ps : List (Key × Value)) (o : Option Bson) (b : Bson) → o ≡ Some b → option_map view o ≡ keyed.get k ps → add k v (members_of ps) ≡ Err RepeatedKey
added_twice k v ps o b some there =
    let has : is_some (look_up k (members_of ps)) ≡ true = ap is_some (look_up-members_of k ps ∙ sym there ∙ ap (option_map view) some) in
    rw has refl

-- a new one
pub added_new : (k : Key) (v : Value) (ps qs : List (Key × Value)) (o : Option Bson) → o ≡ None → option_map view o ≡ keyed.get k ps → qs ≡ keyed.put k v ps → add k v (members_of ps) ≡ Ok (members_of qs)
added_new k v ps qs o none there puts =
    let has : is_some (look_up k (members_of ps)) ≡ false = ap is_some (look_up-members_of k ps ∙ sym there ∙ ap (option_map view) none) in
    rw has (ap Ok (sym (members_of_put k v ps) ∙ ap members_of (sym puts)))

pub members_step : (all : Result Members Error) (vs ws : List Entry) (m : Entry) (k : Key) (ps qs : List (Key × Value)) (b : Bson)
    → all ≡ read_members (members_view vs) (members_of ps) → vs ≡ m ∷ ws → k ≡ m.0.now → read (value_view m.1) ≡ Ok (view b) → add k (view b) (members_of ps) ≡ Ok (members_of qs)
    → all ≡ read_members (members_view ws) (members_of qs)
members_step all vs ws m k ps qs b so first key is puts =
    so ∙ ap (λ es. read_members (members_view es) (members_of ps)) first
    ∙ ap (λ (r : Result Value Error). r >>= λ v. add m.0.now v (members_of ps) >>= λ more. read_members (members_view ws) more) is
    ∙ ap (λ l. add l (view b) (members_of ps) >>= λ more. read_members (members_view ws) more) (sym key)
    ∙ ap (λ (r : Result Members Error). r >>= λ more. read_members (members_view ws) more) puts

pub members_twice : (e : Error) (all : Result Members Error) (vs ws : List Entry) (m : Entry) (k : Key) (ps : List (Key × Value)) (b : Bson)
    → all ≡ read_members (members_view vs) (members_of ps) → vs ≡ m ∷ ws → k ≡ m.0.now → read (value_view m.1) ≡ Ok (view b) → Fails e (add k (view b) (members_of ps))
    → Fails e all
members_twice e all vs ws m k ps b so first key is fails =
    Fails-along e all (add k (view b) (members_of ps) >>= λ more. read_members (members_view ws) more)
    (so ∙ ap (λ es. read_members (members_view es) (members_of ps)) first
    ∙ ap (λ (r : Result Value Error). r >>= λ v. add m.0.now v (members_of ps) >>= λ more. read_members (members_view ws) more) is
    ∙ ap (λ l. add l (view b) (members_of ps) >>= λ more. read_members (members_view ws) more) (sym key))
    (Fails-bind e (add k (view b) (members_of ps)) (λ more. read_members (members_view ws) more) fails)

pub members_end : (all : Result Members Error) (vs : List Entry) (ps : List (Key × Value)) → all ≡ read_members (members_view vs) (members_of ps) → vs ≡ [] → all ≡ Ok (members_of ps)
members_end all vs ps so none = so ∙ ap (λ es. read_members (members_view es) (members_of ps)) none

pub members_fail : (e : Error) (all : Result Members Error) (vs ws : List Entry) (m : Entry) (ps : List (Key × Value))
    → all ≡ read_members (members_view vs) (members_of ps) → vs ≡ m ∷ ws → Fails e (read (value_view m.1)) → Fails e all
members_fail e all vs ws m ps so first h =
    Fails-along e all (read_members (members_view (m ∷ ws)) (members_of ps)) (so ∙ ap (λ es. read_members (members_view es) (members_of ps)) first)
    (Fails-bind e (read (value_view m.1)) (λ v. add m.0.now v (members_of ps) >>= λ more. read_members (members_view ws) more) h)

-- ---- objects

pub single_many : (k : List ℕ) (ms : List Entry) → 2 ≤ length ms → single k (members_view ms) ≡ Err NotExtendedJson
single_many k [] h = absurd (omega (arith, h))
single_many k (m ∷ []) h = absurd (omega (arith, h))
single_many k (m ∷ n ∷ ms) h = refl

pub pair_one : (k l : List ℕ) (ms : List Entry) → length ms < 2 → bodies_in k l (members_view ms) ≡ Err NotExtendedJson
pair_one k l [] h = refl
pair_one k l (m ∷ []) h = refl
pair_one k l (m ∷ n ∷ ms) h = absurd (omega (arith, h))

pub pair_many : (k l : List ℕ) (ms : List Entry) → 3 ≤ length ms → bodies_in k l (members_view ms) ≡ Err NotExtendedJson
pair_many k l [] h = absurd (omega (arith, h))
pair_many k l (m ∷ []) h = absurd (omega (arith, h))
pair_many k l (m ∷ n ∷ []) h = absurd (omega (arith, h))
pair_many k l (m ∷ n ∷ o ∷ ms) h = refl

pub typed_at : (v : Tree Global) (es : List Entry) → value_view v ≡ object (members_view es) → any_reserved (members_view es) ≡ true → read (value_view v) ≡ read_typed (members_view es)
typed_at v es seen has = ap read seen ∙ ap (λ b. if b then read_typed (members_view es) else (read_members (members_view es) no_members >>= λ ms. Ok (document ms))) has

pub document_at : (v : Tree Global) (es : List Entry) → value_view v ≡ object (members_view es) → any_reserved (members_view es) ≡ false → read (value_view v) ≡ (read_members (members_view es) no_members >>= λ ms. Ok (document ms))
document_at v es seen has = ap read seen ∙ ap (λ b. if b then read_typed (members_view es) else (read_members (members_view es) no_members >>= λ ms. Ok (document ms))) has

-- ---- code with its scope

swapped : (a b : Bool) → a && b ≡ b && a
swapped true true = refl
swapped true false = refl
swapped false true = refl
swapped false false = refl

abbrev pub read_pair : Json × Json → Result Value Error
read_pair p = read_scoped p.0 p.1

-- `first` says that the code comes first, and `second` that it comes last
abbrev pair_if : (first second : Bool) (j i : Json) → Result (Json × Json) Error
pair_if first second j i = if first then Ok (j, i) else if second then Ok (i, j) else Err NotExtendedJson

scoped_if : (first second : Bool) (j i : Json) → (if first then read_scoped j i else if second then read_scoped i j else Err NotExtendedJson) ≡ (pair_if first second j i >>= read_pair)
scoped_if true second j i = refl
scoped_if false true j i = refl
scoped_if false false j i = refl

-- an object with more than one member is code with its scope, or nothing
pub typed_scoped : (ms : List Entry) → 2 ≤ length ms → read_typed (members_view ms) ≡ (bodies_in (key_of of_code) scope_key (members_view ms) >>= read_pair)
typed_scoped [] h = absurd (omega (arith, h))
typed_scoped (m ∷ []) h = absurd (omega (arith, h))
typed_scoped (m ∷ n ∷ []) h =
    let j = value_view m.1 in
    let i = value_view n.1 in
    let first = is_code_and_scope m.0.now n.0.now in
    ap (λ (b : Bool). if first then read_scoped j i else if b then read_scoped i j else Err NotExtendedJson) (swapped (bytes_eq n.0.now (key_of of_code)) (bytes_eq m.0.now scope_key))
    ∙ scoped_if first (bytes_eq m.0.now scope_key && bytes_eq n.0.now (key_of of_code)) j i
typed_scoped (m ∷ n ∷ o ∷ ms) h = refl

pub pair_fails : (e : Error) (ms : List Entry) → 2 ≤ length ms → Fails e (bodies_in (key_of of_code) scope_key (members_view ms)) → Fails e (read_typed (members_view ms))
pair_fails e ms h fails = Fails-along e _ _ (typed_scoped ms h) (Fails-bind e (bodies_in (key_of of_code) scope_key (members_view ms)) read_pair fails)

pub scoped_of : (ms : List Entry) (j i : Json) → 2 ≤ length ms → bodies_in (key_of of_code) scope_key (members_view ms) ≡ Ok (j, i) → read_typed (members_view ms) ≡ read_scoped j i
scoped_of ms j i h is = typed_scoped ms h ∙ ap (λ x. x >>= read_pair) is

pub text_fails : (e : Error) (j i : Json) → Fails e (text_of j) → Fails e (read_scoped j i)
text_fails e j i fails = Fails-bind e (text_of j) (λ t. read_scope i >>= λ o. Ok (code_and_scope t o)) fails

pub scoped_ok : (j i : Json) (s : List ℕ) (o : Option Members) → text_of j ≡ Ok s → read_scope i ≡ Ok o → read_scoped j i ≡ Ok (code_and_scope s o)
scoped_ok j i s o code scope = rw (code, scope) refl

pub scoped_fails : (e : Error) (j i : Json) (s : List ℕ) → text_of j ≡ Ok s → Fails e (read_scope i) → Fails e (read_scoped j i)
scoped_fails e j i s code scope = rw code (Fails-bind e (read_scope i) (λ o. Ok (code_and_scope s o)) scope)
