-- What paths lead to: that it comes back from its bytes, and the items of an array one after the other.
use Rattle.std.proofs.Common.{◌≡◌, ◌∙◌, ℕ, suc, List, [], ◌∷◌, ◌++◌, length, map, String, string_bytes, Option, Some, None, option_and_then, option_map, Result, Ok, Err, IfOk, append-nil, refl, sym, ap, subst, arith}
use Rattle.std.proofs.lemmas.List.{map-append}
use Rattle.std.specs.List.{cons_option, filter_map}
use Rattle.std.specs.Prelude.{unwrap_or}
use Rattle.std.specs.declared.alloc.AllocError.{AllocError}
use Rattle.std.specs.declared.alloc.Global.{Global}
use Rattle.bson_base.specs.Kinds.{IsCleanScalar, IsRangedScalar}
use Rattle.bson_base.specs.Value.{Scalar, Value, scalar, null, array, document, scoped_code, Items, no_items, item, Members, look_up}
use Rattle.bson_model.specs.View.{items_of, view}
use Rattle.bson_model.specs.declared.bson.Bson.{Bson}
use Rattle.store_pipeline.specs.Counted.{Adds}
use Rattle.store_pipeline.specs.Distinct.{each_of}
use Rattle.store_question.specs.Filters.{path_of}
use Rattle.store_model.specs.Filter.{Path, pairs, under_places}
use Rattle.store_question.proofs.AskLemmas.{IsNoDocument}
use Rattle.store_question.specs.Reads.{HoldsItems}
use Rattle.store_pipeline.specs.Bodies.{IsBody}
use Rattle.store_update.specs.Arrays.{values}
use Rattle.store_pipeline.proofs.AccumulatedLemmas.{array_faithful, null_faithful, scalar_faithful}
use Rattle.store_pipeline.proofs.FaithfulLemmas.{items_faithful, of_body, under as found_faithful}
use Rattle.store_pipeline.specs.Faithful.{IsFaithful}
use Rattle.store_pipeline.specs.Operands.{inside, led_to, under}
use Rattle.store_pipeline.specs.Taken.{AllFaithful, IfAnyIsFaithful, IsTree, IsTreeIfAny, through}

-- ---- items

pub put_first : {A : Type 0} (o : Option A) (xs : List A) → cons_option o [] ++ xs ≡ cons_option o xs
put_first None xs = refl
put_first (Some x) xs = refl

pub each_found : (k : List ℕ) (on : Value → Option Value) (i : ℕ) (vs : Items) → each_of (through k on) (under_places i vs) ≡ filter_map (under k on) (values vs)
each_found k on i no_items = refl
each_found k on i (item v vs) = put_first (under k on v) (each_of (through k on) (under_places (suc i) vs)) ∙ ap (cons_option (under k on v)) (each_found k on (suc i) vs)

-- ---- that it comes back

pub with_found : (o : Option Value) (vs : List Value) → IfAnyIsFaithful o → AllFaithful vs → AllFaithful (cons_option o vs)
with_found None vs h k = k
with_found (Some v) vs h k = (h, k)

module _ (k : List ℕ) (on : Value → Option Value) (f : (v : Value) → IsFaithful v → IfAnyIsFaithful (on v)) where
  on_faithful : (o : Option Value) → IfAnyIsFaithful o → IfAnyIsFaithful (option_and_then on o)
  on_faithful None h = tt
  on_faithful (Some v) h = f v h

  inside_faithful : (v : Value) → IsFaithful v → IfAnyIsFaithful (inside k v)
  inside_faithful (document ms) h = by (look_up k ms) refl
    where
      by : (o : Option Value) → look_up k ms ≡ o → IfAnyIsFaithful o
      by None e = tt
      by (Some v) e = found_faithful k ms v e h
  inside_faithful (scalar s) h = tt
  inside_faithful (array vs) h = tt
  inside_faithful (scoped_code t ms) h = tt

  under_faithful : (v : Value) → IsFaithful v → IfAnyIsFaithful (under k on v)
  under_faithful v h = on_faithful (inside k v) (inside_faithful v h)

  all_under : (vs : List Value) → AllFaithful vs → AllFaithful (filter_map (under k on) vs)
  all_under [] h = tt
  all_under (v ∷ vs) h = with_found (under k on v) (filter_map (under k on) vs) (under_faithful v h.0) (all_under vs h.1)

pub led_faithful : (p : Path) (v : Value) → IsFaithful v → IfAnyIsFaithful (led_to p v)
led_faithful [] v h = h
led_faithful (k ∷ p) (array vs) h = array_faithful (filter_map (under k (led_to p)) (values vs)) (all_under k (led_to p) (led_faithful p) (values vs) (items_faithful vs h.sound.ranged h.sound.distinct h.settled))
led_faithful (k ∷ p) (document ms) h = under_faithful k (led_to p) (led_faithful p) (document ms) h
led_faithful (k ∷ p) (scalar s) h = tt
led_faithful (k ∷ p) (scoped_code t ms) h = tt

-- ---- steps of a path

abbrev pub Returned : Result (Option Bson) AllocError → Option Value → Type 0
Returned r o = IfOk r (λ found. option_map view found ≡ o)

empty_path : (path : List (String Global)) → length path ≡ 0 → path ≡ []
empty_path [] e = refl
empty_path (k ∷ ks) e = absurd (omega (arith, e))

pub led_over : (path : List (String Global)) (v w : Value) → length path ≡ 0 → w ≡ v → Some w ≡ led_to (path_of path) v
led_over path v w e is = ap Some is ∙ sym (ap (λ (p : List (String Global)). led_to (path_of p) v) (empty_path path e))

module _ (path : List (String Global)) (key : String Global) (rest : List (String Global)) (k : List ℕ) (v : Value) (e : path ≡ key ∷ rest) (named : k ≡ string_bytes key) where
  stepped : led_to (path_of path) v ≡ led_to (k ∷ path_of rest) v
  stepped = ap (λ (p : List (String Global)). led_to (path_of p) v) e ∙ sym (ap (λ (n : List ℕ). led_to (n ∷ path_of rest) v) named)

  -- into the items of an array
  pub led_array : (vs : Items) (w : Value) → Some v ≡ Some (array vs) → w ≡ array (items_of (each_of (through k (led_to (path_of rest))) (under_places 0 vs))) → Some w ≡ led_to (path_of path) v
  led_array vs w is made =
      let same : v ≡ array vs = cc in
      ap Some made ∙ ap (λ (xs : List Value). Some (array (items_of xs))) (each_found k (led_to (path_of rest)) 0 vs) ∙ sym (stepped ∙ ap (led_to (k ∷ path_of rest)) same)

  other : (w : Value) → HoldsItems None (Some w) → under k (led_to (path_of rest)) w ≡ led_to (k ∷ path_of rest) w
  other (scalar s) a = refl
  other (array vs) a = absurd a
  other (document ms) a = refl
  other (scoped_code t ms) a = refl

  pub led_other : (r : Result (Option Bson) AllocError) → HoldsItems None (Some v) → Returned r (under k (led_to (path_of rest)) v) → Returned r (led_to (path_of path) v)
  led_other r a is = subst (λ (o : Option Value). Returned r o) (other v a ∙ sym stepped) is

pub inside_document : (k : List ℕ) (v : Value) (ms : Members) → v ≡ document ms → look_up k (pairs v) ≡ inside k v
inside_document k v ms e = ap (λ x. look_up k (pairs x)) e ∙ sym (ap (inside k) e)

pub inside_none : (k : List ℕ) (v : Value) → IsNoDocument v → None ≡ inside k v
inside_none k (scalar s) d = refl
inside_none k (array vs) d = refl
inside_none k (document ms) d = absurd d
inside_none k (scoped_code t ms) d = refl

pub under_some : (k : List ℕ) (on : Value → Option Value) (v w : Value) (r : Result (Option Bson) AllocError) → inside k v ≡ Some w → Returned r (on w) → Returned r (under k on v)
under_some k on v w r at is = subst (λ (o : Option Value). Returned r o) (sym (ap (option_and_then on) at)) is

pub under_none : (k : List ℕ) (on : Value → Option Value) (v : Value) → inside k v ≡ None → None ≡ under k on v
under_none k on v at = sym (ap (option_and_then on) at)

-- ---- items that are added

one_added : (old new : List Bson) (b : Bson) (k : List ℕ) (on : Value → Option Value) (place : List ℕ) (v : Value) → Some (view b) ≡ under k on v → new ≡ old ++ b ∷ [] → Adds old new (through k on place v)
one_added old new b k on place v is more = ap (map view) more ∙ map-append view old (b ∷ []) ∙ ap (λ o. map view old ++ cons_option o []) is

none_added : (old : List Bson) (k : List ℕ) (on : Value → Option Value) (place : List ℕ) (v : Value) → None ≡ under k on v → Adds old old (through k on place v)
none_added old k on place v is = sym (append-nil (map view old)) ∙ ap (λ o. map view old ++ cons_option o []) is

pub found_added : (old new : List Bson) (found : Option Bson) (b : Bson) (k : List ℕ) (on : Value → Option Value) (place : List ℕ) (v : Value) → option_map view found ≡ under k on v → found ≡ Some b → new ≡ old ++ b ∷ [] → Adds old new (through k on place v)
found_added old new found b k on place v is there more = one_added old new b k on place v (sym (ap (option_map view) there) ∙ is) more

pub none_found : (old : List Bson) (found : Option Bson) (k : List ℕ) (on : Value → Option Value) (place : List ℕ) (v : Value) → option_map view found ≡ under k on v → found ≡ None → Adds old old (through k on place v)
none_found old found k on place v is none = none_added old k on place v (sym (ap (option_map view) none) ∙ is)

-- ---- what is taken

pub path_taken : (p slice : List (String Global)) (body : List ℕ) (d : Members) (r : Result (Option Bson) AllocError) → slice ≡ p → IsBody body d → Returned r (led_to (path_of slice) (document d)) → IfOk r (λ found. IsTreeIfAny found (led_to (path_of p) (document d)))
path_taken p slice body d (Ok found) lent is e = (subst (λ (l : List (String Global)). option_map view found ≡ led_to (path_of l) (document d)) lent e, led_faithful (path_of p) (document d) (of_body body d is))
path_taken p slice body d (Err x) lent is e = tt

pub scalar_taken : (b : Bson) (s : Scalar) → view b ≡ scalar s → IsRangedScalar s → IsCleanScalar s → IsTreeIfAny (Some b) (Some (scalar s))
scalar_taken b s seen ranged clean = (ap Some seen, scalar_faithful s ranged clean)

pub key_there : (found : Option Bson) (o : Option Value) (b : Bson) → found ≡ Some b → IsTreeIfAny found o → IsTree b (unwrap_or o (scalar null))
key_there found None b e t = let bad : Some b ≡ None = sym e ∙ by found t.0 in absurd cc
  where
    by : (f : Option Bson) → option_map view f ≡ None → f ≡ None
    by None h = refl
    by (Some x) h = absurd cc
key_there found (Some v) b e t = let same : Some (view b) ≡ Some v = sym (ap (option_map view) e) ∙ t.0 in (let is : view b ≡ v = cc in is, t.1)

pub key_absent : (found : Option Bson) (o : Option Value) (b : Bson) → found ≡ None → view b ≡ scalar null → IsTreeIfAny found o → IsTree b (unwrap_or o (scalar null))
key_absent found None b e seen t = (seen, null_faithful)
key_absent found (Some v) b e seen t = let bad : None ≡ Some v = sym (ap (option_map view) e) ∙ t.0 in absurd cc

-- the tree of a value alone
pub tree_alone : (b : Bson) (v : Value) → Adds [] (b ∷ []) (v ∷ []) → view b ≡ v
tree_alone b v a = let same : view b ∷ [] ≡ v ∷ [] = a in cc
