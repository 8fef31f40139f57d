-- What a path leads to, and the best of it.
use Rattle.std.proofs.Common.{◌≡◌, ◌↔◌, ◌∙◌, ℕ, ◌+◌, ◌≤◌, List, [], ◌∷◌, ◌++◌, drop, length, Bool, true, false, cond, IsTrue, String, string_bytes, Option, Some, None, Ok, Err, refl, sym, ap, subst, arith, lit<}
use Rattle.std.specs.Prelude.{if◌then◌else◌, unwrap_or}
use Rattle.std.specs.Ordering.{is_lt}
use Rattle.std.specs.declared.alloc.Global.{Global}
use Rattle.std.specs.declared.cmp.Ordering.{Ordering}
use Rattle.bson_base.specs.Value.{Value, scalar, null, undefined, array, document, scoped_code, Items, Members, no_members, member, look_up, members_levels}
use Rattle.bson_bytes.specs.Encode.{encode, members_size}
use Rattle.bson_bytes.proofs.LengthLemmas.{encode_length}
use Rattle.bson_frame.specs.declared.error.Error.{Error}
use Rattle.bson_order.specs.Order.{order}
use Rattle.bson_raw.specs.declared.bson_ref.RawBsonRef.{RawBsonRef}
use Rattle.bson_raw.specs.declared.bson_ref.RawBsonRef.TheVariants as views
use Rattle.bson_raw.specs.declared.element.RawElement.{RawElement}
use Rattle.bson_raw.specs.View.{parts_of}
use Rattle.bson_raw.specs.Walk.{steps_from}
use Rattle.store_question.specs.Filters.{path_of}
use Rattle.store_question.specs.Views.{ComesBack, ComeBack}
use Rattle.store_question.proofs.LookUpLemmas.{IsAhead, no_fault}
use Rattle.store_model.specs.Filter.{pairs, under_places}
use Rattle.store_question.proofs.AskLemmas.{IsNoDocument}
use Rattle.store_question.proofs.WalkLemmas.{next_step, at_start, last}
use Rattle.store_question.specs.Reads.{Found, HoldsItems, OfElement, Shows}
use Rattle.store_pipeline.specs.Order.{best, better, each_of, into_item, itself, led_to, opened, or_undefined, place_or_all, turned, under}

-- ---- null and undefined

null_back : ComesBack (scalar null)
null_back = record { clean = (tt, tt); sound = record { ranged = tt; distinct = tt }; short = lit< tt }

undefined_back : ComesBack (scalar undefined)
undefined_back = record { clean = (tt, tt); sound = record { ranged = tt; distinct = tt }; short = lit< tt }

pub null_found : Found views.Null (scalar null)
null_found = record { encodes = refl; back = null_back; low = omega arith }

pub undefined_found : Found views.Undefined (scalar undefined)
undefined_found = record { encodes = refl; back = undefined_back; low = omega arith }

-- ---- the best of several

pub best_more : (d : Bool) (o : Option Value) (vs ws : List Value) → best d o (vs ++ ws) ≡ best d (best d o vs) ws
best_more d o [] ws = refl
best_more d o (v ∷ vs) ws = best_more d (Some (better d o v)) vs ws

pub shown_as : (d : Bool) (res : Option RawBsonRef) (o : Option Value) (vs ws : List Value) → vs ≡ ws → Shows res (best d o ws) → Shows res (best d o vs)
shown_as d res o vs ws e h = subst (λ (xs : List Value). Shows res (best d o xs)) (sym e) h

-- a value for nothing that was met, or one that goes before it
pub first_met : (d : Bool) (o : Option Value) (raw : RawBsonRef) (v : Value) → o ≡ None → Found raw v → Shows (Some raw) (best d o (itself v))
first_met d o raw v e f = (v, ap (λ (x : Option Value). Some (better d x v)) e, f)

module _ (d : Bool) (o : Option Value) (raw other : RawBsonRef) (v : Value) (r : Ordering) (f : Found raw v) (s : Shows (Some other) o) (told : (v w : Value) → Found raw v → Found other w → r ≡ turned d (order v w)) where
  weighed : best d o (itself v) ≡ Some (cond (is_lt (turned d (order v s.0))) v s.0)
  weighed = ap (λ (x : Option Value). Some (better d x v)) s.1

  pub goes_first : is_lt r ≡ true → Shows (Some raw) (best d o (itself v))
  goes_first t = (v, weighed ∙ ap (λ b. Some (cond b v s.0)) (sym (ap is_lt (told v s.0 f s.2)) ∙ t), f)

  pub stays_first : is_lt r ≡ false → Shows (Some other) (best d o (itself v))
  stays_first t = (s.0, weighed ∙ ap (λ b. Some (cond b v s.0)) (sym (ap is_lt (told v s.0 f s.2)) ∙ t), s.2)

-- ---- steps of a path

empty_path : (path : List (String Global)) → length path ≡ 0 → path ≡ []
empty_path [] e = refl
empty_path (k ∷ ks) e = absurd (omega (arith, e))

pub led_over : (opens : Bool) (path : List (String Global)) (v : Value) → length path ≡ 0 → led_to opens (path_of path) v ≡ (if opens then opened v else itself v)
led_over opens path v e = ap (λ (p : List (String Global)). led_to opens (path_of p) v) (empty_path path e)

module _ (opens : Bool) (path : List (String Global)) (key : String Global) (rest : List (String Global)) (k : List ℕ) (v : Value) (e : path ≡ key ∷ rest) (named : k ≡ string_bytes key) where
  abbrev on : Value → List Value
  on = led_to true (path_of rest)

  stepped : led_to opens (path_of path) v ≡ led_to opens (k ∷ path_of rest) v
  stepped = ap (λ (p : List (String Global)). led_to opens (path_of p) v) e ∙ sym (ap (λ (n : List ℕ). led_to opens (n ∷ path_of rest) v) named)

  pub led_document : (ms : Members) → v ≡ document ms → led_to opens (path_of path) v ≡ under (led_to true (path_of rest)) (look_up k (pairs v))
  led_document ms is = stepped ∙ ap (led_to opens (k ∷ path_of rest)) is ∙ sym (ap (λ (x : Value). under on (look_up k (pairs x))) is)

  pub led_array : (vs : Items) → Some v ≡ Some (array vs) → led_to opens (path_of path) v ≡ place_or_all (led_to false (path_of rest)) (each_of (into_item k (led_to true (path_of rest))) (under_places 0 vs)) (look_up k (pairs v))
  led_array vs is =
      let same : v ≡ array vs = cc in
      stepped ∙ ap (led_to opens (k ∷ path_of rest)) same ∙ sym (ap (λ (x : Value). place_or_all (led_to false (path_of rest)) (each_of (into_item k on) (under_places 0 vs)) (look_up k (pairs x))) same)

  other : (w : Value) → IsNoDocument w → HoldsItems None (Some w) → led_to opens (k ∷ path_of rest) w ≡ itself (scalar null)
  other (scalar s) d a = refl
  other (array vs) d a = absurd a
  other (document ms) d a = absurd d
  other (scoped_code t ms) d a = refl

  pub led_other : IsNoDocument v → HoldsItems None (Some v) → led_to opens (path_of path) v ≡ itself (scalar null)
  led_other d a = stepped ∙ other v d a

pub under_some : (on : Value → List Value) (o : Option Value) (w : Value) → o ≡ Some w → under on o ≡ on w
under_some on o w e = ap (under on) e

pub under_none : (on : Value → List Value) (o : Option Value) → o ≡ None → under on o ≡ itself (scalar null)
under_none on o e = ap (under on) e

pub place_some : (here : Value → List Value) (others : List Value) (o : Option Value) (w : Value) → o ≡ Some w → place_or_all here others o ≡ here w
place_some here others o w e = ap (place_or_all here others) e

pub place_none : (here : Value → List Value) (others : List Value) (o : Option Value) → o ≡ None → place_or_all here others o ≡ others
place_none here others o e = ap (place_or_all here others) e

pub item_document : (k : List ℕ) (on : Value → List Value) (v : Value) (ms : Members) → v ≡ document ms → into_item k on v ≡ under on (look_up k (pairs v))
item_document k on v ms e = ap (into_item k on) e ∙ sym (ap (λ (x : Value). under on (look_up k (pairs x))) e)

pub item_other : (k : List ℕ) (on : Value → List Value) (v : Value) → IsNoDocument v → into_item k on v ≡ itself (scalar null)
item_other k on (scalar s) d = refl
item_other k on (array vs) d = refl
item_other k on (document ms) d = absurd d
item_other k on (scoped_code t ms) d = refl

-- ---- the end of a path

pub opened_array : (v : Value) (vs : Items) → Some v ≡ Some (array vs) → opened v ≡ or_undefined (each_of itself (under_places 0 vs))
opened_array v vs is = let same : v ≡ array vs = cc in ap opened same

pub opened_other : (v : Value) → HoldsItems None (Some v) → opened v ≡ itself v
opened_other (scalar s) a = refl
opened_other (array vs) a = absurd a
opened_other (document ms) a = refl
opened_other (scoped_code t ms) a = refl

pub no_items : (bytes : List ℕ) (ms : Members) (b : Bool) → bytes ≡ encode ms → (IsTrue b ↔ (length bytes ≡ 5)) → IsTrue b ↔ (ms ≡ no_members)
no_items bytes ms b is told = (λ t. empty ms (sym (encode_length ms) ∙ sym (ap length is) ∙ told.0 t), λ e. told.1 (ap length is ∙ ap (λ (x : Members). length (encode x)) e ∙ encode_length no_members))
  where
    empty : (xs : Members) → members_size xs + 5 ≡ 5 → xs ≡ no_members
    empty no_members h = refl
    empty (member k v more) h = absurd (omega (arith, h))

pub none_inside : (ms : Members) → ms ≡ no_members → or_undefined (each_of itself ms) ≡ itself (scalar undefined)
none_inside ms e = ap (λ (x : Members). or_undefined (each_of itself x)) e

pub some_inside : (ms : Members) → (ms ≡ no_members → ⊥) → or_undefined (each_of itself ms) ≡ each_of itself ms
some_inside no_members n = absurd (n refl)
some_inside (member k v ms) n = refl

-- ---- over the items of an array

module _ (on : Value → List Value) (d : Bool) where
  -- the best of all is the best of what was met so far and of those that are left
  pub record BestLeft (whole : Members) (o : Option Value) (s : Option (List ℕ)) (so_far : Option RawBsonRef) : Type 0 where
    pub rest : Members
    pub ahead : IsAhead s rest
    pub back : ComeBack rest
    pub low : members_levels rest ≤ 200
    pub met : Option Value
    pub shown : Shows so_far met
    pub same : best d o (each_of on whole) ≡ best d met (each_of on rest)

  pub left_start : (bytes : List ℕ) (whole : Members) (o : Option Value) (s : Option (List ℕ)) (so_far : Option RawBsonRef) → bytes ≡ encode whole → s ≡ Some (drop 4 bytes) → ComeBack whole → members_levels whole ≤ 200 → Shows so_far o → BestLeft whole o s so_far
  left_start bytes whole o s so_far is from back low shown = record { rest = whole; ahead = at_start bytes whole s is from; back = back; low = low; met = o; shown = shown; same = refl }

  pub left_more : (whole : Members) (o : Option Value) (s t : Option (List ℕ)) (so_far now : Option RawBsonRef) (x : RawElement) → steps_from s (Some (Ok x)) t → BestLeft whole o s so_far
      → ((p : Option Value) → Shows so_far p → OfElement (parts_of x) (λ k v. Shows now (best d p (on v)))) → BestLeft whole o t now
  left_more whole o s t so_far now x step l told =
      let one = next_step s t x l.rest step l.ahead l.back in
      let low : members_levels (member (parts_of x).key one.value one.more) ≤ 200 = subst (λ (ms : Members). members_levels ms ≤ 200) one.is l.low in
      record {
        rest = one.more;
        ahead = one.ahead;
        back = one.others;
        low = omega (arith, low);
        met = best d l.met (on one.value);
        shown = told l.met l.shown one.value one.written one.back (omega (arith, low));
        same = l.same ∙ ap (λ (ms : Members). best d l.met (each_of on ms)) one.is ∙ best_more d l.met (on one.value) (each_of on one.more);
      }

  pub left_fault : (whole : Members) (o : Option Value) (s t : Option (List ℕ)) (so_far : Option RawBsonRef) (x : Error) → steps_from s (Some (Err x)) t → BestLeft whole o s so_far → ⊥
  left_fault whole o s t so_far x step l = no_fault s t x l.rest step l.ahead l.back

  pub left_end : (whole : Members) (o : Option Value) (s t : Option (List ℕ)) (so_far : Option RawBsonRef) → steps_from s None t → BestLeft whole o s so_far → Shows so_far (best d o (each_of on whole))
  left_end whole o s t so_far step l =
      let none = last s t l.rest step l.ahead l.back in
      subst (λ (p : Option Value). Shows so_far p) (sym (l.same ∙ ap (λ (ms : Members). best d l.met (each_of on ms)) none)) l.shown

-- ---- the value in the end

pub value_shown : (raw : RawBsonRef) (o : Option Value) → Shows (Some raw) o → Found raw (unwrap_or o (scalar null))
value_shown raw o s = subst (λ (x : Option Value). Found raw (unwrap_or x (scalar null))) (sym s.1) s.2

pub null_shown : (o : Option Value) → Shows None o → Found views.Null (unwrap_or o (scalar null))
null_shown o s = subst (λ (x : Option Value). Found views.Null (unwrap_or x (scalar null))) (sym s) null_found
