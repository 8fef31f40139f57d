-- Pairs with distinct keys, put one after the other, make their own list.
use Rattle.std.proofs.Common.{◌≡◌, List, [], ◌∷◌, ◌++◌, map, Bool, true, false, cond, Option, Some, None, bytes_eq, String, Global, refl, ap, ◌∙◌, sym, subst, append_assoc, append-nil}
use Rattle.std.specs.List.{IsDistinct}
use Rattle.std.specs.Map.{keys_of}
use Rattle.std.specs.Option.{option_map}
use Rattle.bson_base.specs.Value.{Value, item, member, MembersHaveDistinctKeys}
use Rattle.bson_model.specs.Extend.{put_all}
use Rattle.bson_model.specs.Keyed.{Key, get, put}
use Rattle.bson_model.specs.Rest.{owned_member}
use Rattle.bson_model.specs.View.{view, items_of, members_of}
use Rattle.bson_model.specs.declared.bson.Bson.{Bson}
use Rattle.bson_model.proofs.DistinctLemmas.{none_there}
use Rattle.bson_model.proofs.EqualLemmas.{look_up-members_of}
use Rattle.bson_meaning.specs.Meaning.{norm, norm_items, norm_members, asc, asc_items}
use Rattle.bson_meaning.specs.Pairs.{normal_pair}
use Rattle.bson_base.proofs.MemberLemmas.{equal_keys, same_key}

-- the keys are distinct, on this level
abbrev pub KeysOnce : List (Key × Value) → Type 0
KeysOnce [] = Unit {0}
KeysOnce (p ∷ ps) = (get p.0 ps ≡ None) × KeysOnce ps

pub keys_once : (ps : List (Key × Value)) → IsDistinct bytes_eq (keys_of ps) → KeysOnce ps
unfolding IsDistinct
keys_once [] h = tt
keys_once (p ∷ ps) h = (sym (look_up-members_of p.0 ps) ∙ none_there p.0 ps h.0, keys_once ps h.1)

pub tops_once : (ps : List (Key × Value)) → MembersHaveDistinctKeys (members_of ps) → KeysOnce ps
tops_once [] h = tt
tops_once (p ∷ ps) h = (sym (look_up-members_of p.0 ps) ∙ h.0, tops_once ps h.2)

-- ---- another value under each key

module _ (f : Value → Value) where
  abbrev pub changed : List (Key × Value) → List (Key × Value)
  changed ps = map (λ p. (p.0, f p.1)) ps

  chosen : (b : Bool) (v : Value) (o : Option Value) → cond b (Some (f v)) (option_map f o) ≡ option_map f (cond b (Some v) o)
  chosen true v o = refl
  chosen false v o = refl

  pub get_changed : (k : Key) (ps : List (Key × Value)) → get k (changed ps) ≡ option_map f (get k ps)
  get_changed k [] = refl
  get_changed k (p ∷ ps) = ap (cond (bytes_eq k p.0) (Some (f p.1))) (get_changed k ps) ∙ chosen (bytes_eq k p.0) p.1 (get k ps)

  pub once_changed : (ps : List (Key × Value)) → KeysOnce ps → KeysOnce (changed ps)
  once_changed [] h = tt
  once_changed (p ∷ ps) h = (get_changed p.0 ps ∙ ap (option_map f) h.0, once_changed ps h.1)

-- ---- put one after the other

turned_about : (k l : Key) → bytes_eq k l ≡ false → bytes_eq l k ≡ false
turned_about k l e = by (bytes_eq l k) refl
  where
    by : (b : Bool) → bytes_eq l k ≡ b → b ≡ false
    by true f = let same : l ≡ k = equal_keys l k f in let t : bytes_eq k l ≡ true = subst (λ m. bytes_eq k m ≡ true) (sym same) (same_key k) in cc
    by false f = refl

-- a key after the list isn't that of its first pair
first_other : (q : Key) (ps : List (Key × Value)) (p : Key × Value) (rest : List (Key × Value)) → get q (ps ++ p ∷ rest) ≡ None → bytes_eq q p.0 ≡ false
first_other q [] p rest h = by (bytes_eq q p.0) h
  where
    by : (b : Bool) → cond b (Some p.1) (get q rest) ≡ None → b ≡ false
    by true e = cc
    by false e = refl
first_other q (r ∷ ps) p rest h = by (first_other q ps p rest) (bytes_eq q r.0) h
  where
    by : (get q (ps ++ p ∷ rest) ≡ None → bytes_eq q p.0 ≡ false) → (b : Bool) → cond b (Some r.1) (get q (ps ++ p ∷ rest)) ≡ None → bytes_eq q p.0 ≡ false
    by more true e = cc
    by more false e = more e

not_before : (ps : List (Key × Value)) (p : Key × Value) (rest : List (Key × Value)) → KeysOnce (ps ++ p ∷ rest) → get p.0 ps ≡ None
not_before [] p rest h = refl
not_before (r ∷ ps) p rest h = ap (λ b. cond b (Some r.1) (get p.0 ps)) (turned_about r.0 p.0 (first_other r.0 ps p rest h.0)) ∙ not_before ps p rest h.1

put_new : (k : Key) (v : Value) (ps : List (Key × Value)) → get k ps ≡ None → put k v ps ≡ ps ++ (k, v) ∷ []
put_new k v [] h = refl
put_new k v (p ∷ ps) h = by (put_new k v ps) (bytes_eq k p.0) h
  where
    by : (get k ps ≡ None → put k v ps ≡ ps ++ (k, v) ∷ []) → (b : Bool) → cond b (Some p.1) (get k ps) ≡ None → cond b ((p.0, v) ∷ ps) (p ∷ put k v ps) ≡ p ∷ (ps ++ (k, v) ∷ [])
    by more true e = cc
    by more false e = ap (λ l. p ∷ l) (more e)

pub put_all_once : (xs : List (String Global × Bson)) (ps : List (Key × Value)) → KeysOnce (ps ++ map owned_member xs) → put_all xs ps ≡ ps ++ map owned_member xs
put_all_once [] ps h = sym (append-nil ps)
put_all_once (x ∷ xs) ps h =
    let p : Key × Value = owned_member x in
    let new : put p.0 p.1 ps ≡ ps ++ p ∷ [] = put_new p.0 p.1 ps (not_before ps p (map owned_member xs) h) in
    let joined : (ps ++ p ∷ []) ++ map owned_member xs ≡ ps ++ p ∷ map owned_member xs = append_assoc ps (p ∷ []) (map owned_member xs) in
    ap (put_all xs) new ∙ put_all_once xs (ps ++ p ∷ []) (subst KeysOnce (sym joined) h) ∙ joined

-- ---- in the words of the tree

pub normal_members : (ps : List (Key × Value)) → members_of (map normal_pair ps) ≡ norm_members (members_of ps)
normal_members [] = refl
normal_members (p ∷ ps) = ap (member p.0 (norm p.1)) (normal_members ps)

pub normal_items : (vs : List Bson) → items_of (map (λ b. norm (view b)) vs) ≡ norm_items (items_of (map view vs))
normal_items [] = refl
normal_items (v ∷ vs) = ap (item (norm (view v))) (normal_items vs)

pub sorted_items : (vs : List Bson) → items_of (map (λ b. asc (view b)) vs) ≡ asc_items (items_of (map view vs))
sorted_items [] = refl
sorted_items (v ∷ vs) = ap (item (asc (view v))) (sorted_items vs)

-- ---- a loop that makes a list item by item

pub finished : {A B : Type 0} (f : A → B) (done : List B) (rest all : List A) → done ++ map f rest ≡ map f all → rest ≡ [] → done ≡ map f all
finished f done rest all h e = sym (append-nil done) ∙ ap (λ xs. done ++ map f xs) (sym e) ∙ h
