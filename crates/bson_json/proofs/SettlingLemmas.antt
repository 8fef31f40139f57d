-- Members and items of which nothing is to be settled, one turn after the other.
use Rattle.std.proofs.Common.{◌≡◌, ◌+◌, ◌<◌, List, [], ◌∷◌, ◌++◌, Bool, true, false, Option, Some, None, Result, Ok, Err, IfOk, IsTrue, ℕ, append_assoc, append-nil, drop, get_or, length, take, unwrap_or, refl, sym, ap, ap₂, ◌∙◌, subst}
use Rattle.std.specs.Prelude.{if◌then◌else◌}
use Rattle.std.proofs.lemmas.List.{drop_more}
use Rattle.std.proofs.Math.Seq.{drop-append_seam, take-append_seam}
use Rattle.std.specs.Borrow.{Bor}
use Rattle.std.specs.List.{list_any}
use Rattle.std.specs.Str.{bytes_eq}
use Rattle.std.proofs.lemmas.Bool.{or_from, or_parts}
use Rattle.bson_base.specs.Value.{Value, scalar, array, document, Items, no_items, item, Members, no_members, member, look_up, value_kind, without}
use Rattle.bson_base.proofs.MemberLemmas.{without_absent}
use Rattle.bson_bytes.specs.Met.{IsNew}
use Rattle.bson_bytes.specs.Spells.{SpellsValue, settle, settle_items, settle_value}
use Rattle.bson_meaning.specs.Views.{IsItemsRest, IsRest, view_scalar}
use Rattle.bson_raw.specs.Convert.{SpellsRawValue}
use Rattle.bson_raw.specs.Raw as raw
use Rattle.bson_raw.specs.Raw.{RawValue, ref_value}
use Rattle.bson_raw.specs.View.{parts_of}
use Rattle.bson_raw.specs.Walk.{steps_from}
use Rattle.bson_raw.specs.declared.bson_ref.RawBsonRef.{RawBsonRef}
use Rattle.bson_raw.specs.declared.bson_ref.RawBsonRef.TheVariants as views
use Rattle.bson_raw.specs.declared.element.RawElement.{RawElement}
use Rattle.bson_json.specs.Settling.{IsNoRegex, ShowsSettled, SpellsSettled, SpellsSettledItems}
use Rattle.bson_json.specs.Straight.{IsLeaf}
use Rattle.bson_json.specs.declared.unwritten.Unwritten.{Unwritten}

-- ---- values

pub leaf_settled : (r : RawBsonRef) → IsNoRegex r → IsLeaf (ref_value r) → ShowsSettled (ref_value r)
leaf_settled (views.RegularExpression x) other leaf = absurd other
leaf_settled (views.Document x) other leaf = absurd leaf
leaf_settled (views.Array x) other leaf = absurd leaf
leaf_settled (views.JavaScriptCodeWithScope x) other leaf = absurd leaf
leaf_settled r other leaf = (scalar (view_scalar r), refl, refl)

-- what is known of the members goes on to the document
pub document_settled : (S : Type 0) (bytes : List ℕ) (r : Result Bool Unwritten) → IfOk r (λ b. IsTrue b → SpellsSettled (drop 4 bytes) × S) → IfOk r (λ b. IsTrue b → ShowsSettled (raw.document bytes) × S)
document_settled S bytes (Ok b) h = λ told. let s = h told in ((document s.0.0, (s.0.0, s.0.1, refl), ap document s.0.2), s.1)
document_settled S bytes (Err e) h = tt

pub array_settled : (S : Type 0) (bytes : List ℕ) (r : Result Bool Unwritten) → IfOk r (λ b. IsTrue b → SpellsSettledItems (drop 4 bytes) × S) → IfOk r (λ b. IsTrue b → ShowsSettled (raw.array bytes) × S)
array_settled S bytes (Ok b) h = λ told. let s = h told in ((array s.0.0, (s.0.0, s.0.1, refl), ap array s.0.2), s.1)
array_settled S bytes (Err e) h = tt

pub nothing_settled : (P : Type 0) (r : Result Bool Unwritten) → IfOk r (λ b. b ≡ false) → IfOk r (λ b. IsTrue b → P)
nothing_settled P (Ok b) h = λ told. let both : true ≡ false = sym told ∙ h in absurd (cc)
nothing_settled P (Err e) h = tt

-- a value without a key
pub no_key_met : (P : Type 0) (keys : List (Bor (List ℕ))) (r : Result Bool Unwritten) → IfOk r (λ b. IsTrue b → P) → IfOk r (λ b. IsTrue b → P × (keys ≡ keys))
no_key_met P keys (Ok b) h = λ told. (h told, refl)
no_key_met P keys (Err e) h = tt

-- an element's payload spells a value of which nothing is to be settled
abbrev pub SettledPayload : RawElement → Type 0
SettledPayload x = (v : Value) × (value_kind v ≡ (parts_of x).tag) × SpellsValue (parts_of x).payload v × (settle_value v ≡ v)

pub payload_settled : (x : RawElement) (r : RawValue) → ((v : Value) → SpellsRawValue r v → (value_kind v ≡ (parts_of x).tag) × SpellsValue (parts_of x).payload v) → ShowsSettled r → SettledPayload x
payload_settled x r spelled shown = let p = spelled shown.0 shown.1 in (shown.0, p.0, p.1, shown.2)

-- ---- keys

pub new_more : (k : List ℕ) (keys : List (Bor (List ℕ))) (i : ℕ) (d : Bor (List ℕ)) → i < length keys → bytes_eq (get_or keys i d).now k ≡ false → IsNew k (drop (i + 1) keys) → IsNew k (drop i keys)
new_more k keys i d within other new =
    subst (IsNew k) (sym (drop_more keys i d within)) (or_from (bytes_eq (get_or keys i d).now k) (list_any (λ (q : Bor (List ℕ)). bytes_eq q.now k) (drop (i + 1) keys)) other new)

-- ---- members

-- no member has any of the keys
abbrev pub AreApart : List (Bor (List ℕ)) → Members → Type 0
AreApart [] ms = Unit {0}
AreApart (met ∷ keys) ms = (look_up met.now ms ≡ None) × AreApart keys ms

-- nothing is to be settled of the members that are left, and none of them has a key that was met
abbrev pub SettledLeft : Option (List ℕ) → List (Bor (List ℕ)) → Type 0
SettledLeft left met = (rest : Members) × IsRest left rest × (settle rest ≡ rest) × AreApart met rest

all_apart : (keys : List (Bor (List ℕ))) → AreApart keys no_members
all_apart [] = tt
all_apart (met ∷ keys) = (refl, all_apart keys)

apart_front : (keys : List (Bor (List ℕ))) (last : Bor (List ℕ)) (ms : Members) → AreApart (keys ++ last ∷ []) ms → AreApart keys ms × (look_up last.now ms ≡ None)
apart_front [] last ms all = (tt, all.0)
apart_front (met ∷ keys) last ms all = let more = apart_front keys last ms all.1 in ((all.0, more.0), more.1)

apart_more : (keys : List (Bor (List ℕ))) (k : List ℕ) (v : Value) (ms : Members) → IsNew k keys → AreApart keys ms → AreApart keys (member k v ms)
apart_more [] k v ms new rest = tt
apart_more (met ∷ keys) k v ms new rest =
    let n = or_parts (bytes_eq met.now k) (list_any (λ (q : Bor (List ℕ)). bytes_eq q.now k) keys) new in
    (ap (λ (b : Bool). if b then Some v else look_up met.now ms) n.0 ∙ rest.0, apart_more keys k v ms n.1 rest.1)

settled_member : (k : List ℕ) (v : Value) (ms : Members) → settle_value v ≡ v → settle ms ≡ ms → look_up k ms ≡ None → settle (member k v ms) ≡ member k v ms
settled_member k v ms value rest none =
    let absent : look_up k (settle ms) ≡ None = ap (look_up k) rest ∙ none in
    ap (λ (o : Option Value). member k (unwrap_or o (settle_value v)) (without k (settle ms))) absent
    ∙ ap (λ (w : Value). member k w (without k (settle ms))) value
    ∙ ap (λ (ns : Members). member k v (without k ns)) rest ∙ ap (member k v) (without_absent k ms none)

rest_more : (s t : Option (List ℕ)) (x : RawElement) (v : Value) (rest : Members) → steps_from s (Some (Ok x)) t → value_kind v ≡ (parts_of x).tag → SpellsValue (parts_of x).payload v
    → IsRest t rest → IsRest s (member (parts_of x).key v rest)
rest_more None t x v rest step kind spelled left = let bad = step.0 in absurd cc
rest_more (Some bytes) t x v rest step kind spelled left = (parts_of x, x.frame.rest.now, step.0, refl, kind, spelled, subst (λ l. IsRest l rest) step.1 left)

-- the keys that were met of the document, behind those of the documents around it, and what follows if nothing is to be settled of what is left
abbrev pub SettledSoFar : List ℕ → Option (List ℕ) → List (Bor (List ℕ)) → List (Bor (List ℕ)) → Type 0
SettledSoFar elements left front met = (own : List (Bor (List ℕ))) × (met ≡ front ++ own) × (SettledLeft left own → SpellsSettled elements)

pub none_met : (elements : List ℕ) (left : Option (List ℕ)) (front : List (Bor (List ℕ))) → left ≡ Some elements → SettledSoFar elements left front front
none_met elements left front is = ([], sym (append-nil front), λ l. (l.0, subst (λ o. IsRest o l.0) is l.1, l.2))

member_settled : (elements : List ℕ) (s t : Option (List ℕ)) (x : RawElement) (k : Bor (List ℕ)) (own : List (Bor (List ℕ))) → steps_from s (Some (Ok x)) t → k.now ≡ (parts_of x).key
    → SettledPayload x → IsNew k.now own → (SettledLeft s own → SpellsSettled elements) → SettledLeft t (own ++ k ∷ []) → SpellsSettled elements
member_settled elements s t x k own step is p new to l =
    let key = (parts_of x).key in
    let all = apart_front own k l.0 l.3 in
    let none : look_up key l.0 ≡ None = ap (λ q. look_up q l.0) (sym is) ∙ all.1 in
    to (
      member key p.0 l.0,
      rest_more s t x p.0 l.0 step p.1 p.2 l.1,
      settled_member key p.0 l.0 p.3 l.2 none,
      apart_more own key p.0 l.0 (subst (λ q. IsNew q own) is new) all.0,
    )

pub one_more_met : (elements : List ℕ) (s t : Option (List ℕ)) (x : RawElement) (k : Bor (List ℕ)) (front met same after : List (Bor (List ℕ))) (outer : ℕ) → steps_from s (Some (Ok x)) t → k.now ≡ (parts_of x).key
    → SettledPayload x → outer ≡ length front → same ≡ met → IsNew k.now (drop outer same) → after ≡ same ++ k ∷ [] → SettledSoFar elements s front met → SettledSoFar elements t front after
one_more_met elements s t x k front met same after outer step is p start kept new added so =
    let own = so.0 in
    let parts : same ≡ front ++ own = kept ∙ so.1 in
    let here : drop outer same ≡ own = ap (λ n. drop n same) start ∙ ap (drop (length front)) parts ∙ drop-append_seam front own in
    (own ++ k ∷ [], added ∙ ap (λ ks. ks ++ k ∷ []) parts ∙ append_assoc front own (k ∷ []), λ l. member_settled elements s t x k own step is p (subst (IsNew k.now) here new) so.2 l)

pub all_met : (elements : List ℕ) (s t : Option (List ℕ)) (front met after : List (Bor (List ℕ))) (outer : ℕ) → steps_from s None t → outer ≡ length front → after ≡ take outer met
    → SettledSoFar elements s front met → SpellsSettled elements × (after ≡ front)
all_met elements s t front met after outer step start cut so =
    let back : after ≡ front = cut ∙ ap (λ n. take n met) start ∙ ap (take (length front)) so.1 ∙ take-append_seam front so.0 in
    (whole s step so.2, back)
  where
    whole : (s : Option (List ℕ)) → steps_from s None t → (SettledLeft s so.0 → SpellsSettled elements) → SpellsSettled elements
    whole None step to = to (no_members, refl, refl, all_apart so.0)
    whole (Some bytes) step to = to (no_members, step.0, refl, all_apart so.0)

-- ---- items

-- nothing is to be settled of the items that are left
abbrev pub SettledItemsLeft : Option (List ℕ) → Type 0
SettledItemsLeft left = (rest : Items) × IsItemsRest left rest × (settle_items rest ≡ rest)

items_rest_more : (s t : Option (List ℕ)) (x : RawElement) (v : Value) (rest : Items) → steps_from s (Some (Ok x)) t → value_kind v ≡ (parts_of x).tag → SpellsValue (parts_of x).payload v
    → IsItemsRest t rest → IsItemsRest s (item v rest)
items_rest_more None t x v rest step kind spelled left = let bad = step.0 in absurd cc
items_rest_more (Some bytes) t x v rest step kind spelled left = (parts_of x, x.frame.rest.now, step.0, kind, spelled, subst (λ l. IsItemsRest l rest) step.1 left)

-- no key is kept of the documents in an array, and what follows if nothing is to be settled of what is left
abbrev pub SettledItemsSoFar : List ℕ → Option (List ℕ) → List (Bor (List ℕ)) → List (Bor (List ℕ)) → Type 0
SettledItemsSoFar elements left front met = (met ≡ front) × (SettledItemsLeft left → SpellsSettledItems elements)

pub no_item_met : (elements : List ℕ) (left : Option (List ℕ)) (front : List (Bor (List ℕ))) → left ≡ Some elements → SettledItemsSoFar elements left front front
no_item_met elements left front is = (refl, λ l. (l.0, subst (λ o. IsItemsRest o l.0) is l.1, l.2))

pub item_settled : (elements : List ℕ) (s t : Option (List ℕ)) (x : RawElement) (front met after : List (Bor (List ℕ))) → steps_from s (Some (Ok x)) t → SettledPayload x → after ≡ met
    → SettledItemsSoFar elements s front met → SettledItemsSoFar elements t front after
item_settled elements s t x front met after step p kept so = (kept ∙ so.0, λ l. so.1 (item p.0 l.0, items_rest_more s t x p.0 l.0 step p.1 p.2 l.1, ap₂ item p.3 l.2))

pub items_settled : (elements : List ℕ) (s t : Option (List ℕ)) (front met : List (Bor (List ℕ))) → steps_from s None t → SettledItemsSoFar elements s front met → SpellsSettledItems elements × (met ≡ front)
items_settled elements None t front met step so = (so.1 (no_items, refl, refl), so.0)
items_settled elements (Some bytes) t front met step so = (so.1 (no_items, step.0, refl), so.0)
