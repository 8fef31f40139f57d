-- The members of an object, put in one after the other, are those of the pairs with their keys ascending.
use Rattle.std.proofs.Common.{◌≡◌, List, [], ◌∷◌, Bool, true, false, Option, Some, None, refl, ap, ◌∙◌, sym, subst}
use Rattle.std.specs.Prelude.{bytes_eq, option_map, option_and_then}
use Rattle.std.specs.List.{AllByRecursion, IsDistinct}
use Rattle.std.specs.List.Sorted.{IsPermutation, IsStrictlySortedBy}
use Rattle.std.proofs.lemmas.List.Sorted.{IsPermutation-map, IsPermutation-sym}
use Rattle.std.proofs.lemmas.Map.Keys.{IsDistinct-from_sorted, IsDistinct-head, IsDistinct-IsPermutation, IsDistinct-tail, sorted_head, sorted_tail}
use Rattle.std.proofs.lemmas.Map.Text.{is_eq-slice_cmp}
use Rattle.std.specs.Map.{keys_of}
use Rattle.std.specs.Ordering.{match_ordering, ordering_reverse}
use Rattle.std.specs.FinMap.{slice_cmp-IsAntisymmetric, nat_cmp-IsAntisymmetric}
use Rattle.std.specs.FinMap.Entries.{put as place, by_order}
use Rattle.std.specs.declared.cmp.Ordering.{Ordering}
use Rattle.std.specs.declared.cmp.Ordering.TheVariants.{Less, Equal, Greater}
use Rattle.std.proofs.lemmas.Cmp.{nat_list_cmp_total}
use Rattle.serde_json.specs.Data as json
use Rattle.serde_json.specs.Data.{Data, Members, no_members, member}
use Rattle.bson_base.specs.Value.{Value, Members as Tree, no_members as none, member as one}
use Rattle.bson_base.proofs.MemberLemmas.{key_turned, same_key}
use Rattle.bson_pairs.specs.Ascending.{key_cmp, same_ascending}
use Rattle.bson_model.specs.JsonWrite.{write, write_members}
use Rattle.bson_model.specs.Keyed.{Key, ascending}
use Rattle.bson_model.specs.View.{members_of}
use Rattle.bson_model.specs.declared.extjson.ser.Mode.TheVariants.{Canonical}
use Rattle.bson_json.specs.InOrder.{Pairs, pairs_in}
use Rattle.bson_meaning.proofs.PutLemmas.{keys_once}
use Rattle.bson_meaning.proofs.SortedPairLemmas.{found_alike}

-- the trees of pairs, in their order
abbrev pub write_pairs : Pairs → Option Members
write_pairs [] = Some no_members
write_pairs (p ∷ ps) = option_and_then (λ j. option_map (member p.0 j) (write_pairs ps)) (write Canonical p.1)

-- ---- the order of keys

tied : (k l : Key) → key_cmp k l ≡ Equal → k ≡ l
tied = slice_cmp-IsAntisymmetric nat_cmp-IsAntisymmetric

after : (k l : Key) → key_cmp k l ≡ Less → key_cmp l k ≡ Greater
after k l e = nat_list_cmp_total.antisymm l k ∙ ap ordering_reverse e

turned : (k l : Key) → key_cmp k l ≡ Greater → key_cmp l k ≡ Less
turned k l e = nat_list_cmp_total.antisymm l k ∙ ap ordering_reverse e

unequal : (k l : Key) → bytes_eq k l ≡ false → key_cmp k l ≡ Equal → ⊥
unequal k l h e = let same : bytes_eq k l ≡ true = subst (λ m. bytes_eq k m ≡ true) (tied k l e) (same_key k) in cc

-- ---- members of a tree put in one after the other

abbrev With : Key → Data → Key → Data → Members → Ordering → Members
With k d l e js o = match_ordering o (member k d (member l e js)) (member l d js) (member l e (json.put k d js))

-- one before l and l itself, put in either order
commute : (k l : Key) (d e : Data) → key_cmp k l ≡ Less → (js : Members) → json.put k d (json.put l e js) ≡ json.put l e (json.put k d js)
commute k l d e h no_members = ap (With k d l e no_members) h ∙ sym (ap (With l e k d no_members) (after k l h))
commute k l d e h (member m f js) = by (commute k l d e h js) (key_cmp l m) (key_cmp k m) refl refl
  where
    before : key_cmp l k ≡ Greater
    before = after k l h

    first : json.put l e (member k d (member m f js)) ≡ member k d (json.put l e (member m f js))
    first = ap (With l e k d (member m f js)) before

    by : json.put k d (json.put l e js) ≡ json.put l e (json.put k d js) → (o p : Ordering) → key_cmp l m ≡ o → key_cmp k m ≡ p
        → json.put k d (With l e m f js o) ≡ json.put l e (With k d m f js p)
    by r Less Less a b = ap (With k d l e (member m f js)) h ∙ ap (member k d) (sym (ap (With l e m f js) a)) ∙ sym first
    by r Equal Less a b = ap (With k d m e js) b ∙ ap (member k d) (sym (ap (With l e m f js) a)) ∙ sym first
    by r Greater Less a b = ap (With k d m f (json.put l e js)) b ∙ ap (member k d) (sym (ap (With l e m f js) a)) ∙ sym first
    by r Greater Equal a b = ap (With k d m f (json.put l e js)) b ∙ sym (ap (With l e m d js) a)
    by r Greater Greater a b = ap (With k d m f (json.put l e js)) b ∙ ap (member m f) r ∙ sym (ap (With l e m f (json.put k d js)) a)
    by r Less Equal a b = let x : key_cmp k m ≡ Less = nat_list_cmp_total.trans k l m h a in cc
    by r Less Greater a b = let x : key_cmp k m ≡ Less = nat_list_cmp_total.trans k l m h a in cc
    by r Equal Equal a b = let x : key_cmp k m ≡ Less = ap (key_cmp k) (sym (tied l m a)) ∙ h in cc
    by r Equal Greater a b = let x : key_cmp k m ≡ Less = ap (key_cmp k) (sym (tied l m a)) ∙ h in cc

-- keys that differ, in either order
either_order : (k l : Key) (d e : Data) → bytes_eq k l ≡ false → (js : Members) → json.put k d (json.put l e js) ≡ json.put l e (json.put k d js)
either_order k l d e h js = by (key_cmp k l) refl
  where
    by : (o : Ordering) → key_cmp k l ≡ o → json.put k d (json.put l e js) ≡ json.put l e (json.put k d js)
    by Less f = commute k l d e f js
    by Equal f = absurd (unequal k l h f)
    by Greater f = sym (commute l k e d (turned k l f) js)

-- ---- distinct keys

abbrev Apart : Key → List (Key × Value) → Type 0
Apart k [] = Unit {0}
Apart k (p ∷ ps) = (bytes_eq k p.0 ≡ false) × Apart k ps

abbrev StandOnce : List (Key × Value) → Type 0
StandOnce [] = Unit {0}
StandOnce (p ∷ ps) = Apart p.0 ps × StandOnce ps

apart : (k : Key) (ps : List (Key × Value)) → AllByRecursion (λ y. bytes_eq k y ≡ false) (keys_of ps) → Apart k ps
apart k [] h = tt
apart k (p ∷ ps) h = (h.0, apart k ps h.1)

once : (ps : List (Key × Value)) → IsDistinct bytes_eq (keys_of ps) → StandOnce ps
once [] h = tt
once (p ∷ ps) h = (apart p.0 ps (IsDistinct-head bytes_eq p.0 (keys_of ps) h), once ps (IsDistinct-tail bytes_eq p.0 (keys_of ps) h))

apart_place : (q k : Key) (v : Value) (ps : List (Key × Value)) → bytes_eq q k ≡ false → Apart q ps → Apart q (place key_cmp k v ps)
apart_place q k v [] e h = (e, tt)
apart_place q k v (p ∷ ps) e h = by (apart_place q k v ps e h.1) (key_cmp k p.0)
  where
    by : Apart q (place key_cmp k v ps) → (o : Ordering) → Apart q (by_order o ((k, v) ∷ p ∷ ps) ((p.0, v) ∷ ps) (p ∷ place key_cmp k v ps))
    by more Less = (e, h)
    by more Equal = h
    by more Greater = (h.0, more)

apart_ascending : (q : Key) (ps : List (Key × Value)) → Apart q ps → Apart q (ascending ps)
apart_ascending q [] h = tt
apart_ascending q (p ∷ ps) h = apart_place q p.0 p.1 (ascending ps) h.0 (apart_ascending q ps h.1)

-- ---- pairs ascending

put_first : (k l : Key) → key_cmp k l ≡ Less → (o p : Option Data) (q : Option Members)
    → option_and_then (λ j. option_map (member k j) (option_and_then (λ i. option_map (member l i) q) p)) o
    ≡ option_and_then (λ j. option_map (json.put k j) (option_and_then (λ i. option_map (member l i) q) p)) o
put_first k l e (Some j) (Some i) (Some js) = sym (ap (λ x. Some (With k j l i js x)) e)
put_first k l e (Some j) (Some i) None = refl
put_first k l e (Some j) None q = refl
put_first k l e None p q = refl

put_later : (k l : Key) → key_cmp k l ≡ Greater → (o p : Option Data) (q : Option Members)
    → option_and_then (λ i. option_map (member l i) (option_and_then (λ j. option_map (json.put k j) q) o)) p
    ≡ option_and_then (λ j. option_map (json.put k j) (option_and_then (λ i. option_map (member l i) q) p)) o
put_later k l e (Some j) (Some i) (Some js) = sym (ap (λ x. Some (With k j l i js x)) e)
put_later k l e (Some j) (Some i) None = refl
put_later k l e (Some j) None q = refl
put_later k l e None (Some i) q = refl
put_later k l e None None q = refl

placed : (k : Key) (v : Value) (ps : List (Key × Value)) → Apart k ps
    → write_pairs (place key_cmp k v ps) ≡ option_and_then (λ j. option_map (json.put k j) (write_pairs ps)) (write Canonical v)
placed k v [] h = refl
placed k v (p ∷ ps) h = by (placed k v ps h.1) (key_cmp k p.0) refl
  where
    by : write_pairs (place key_cmp k v ps) ≡ option_and_then (λ j. option_map (json.put k j) (write_pairs ps)) (write Canonical v)
        → (o : Ordering) → key_cmp k p.0 ≡ o
        → write_pairs (by_order o ((k, v) ∷ p ∷ ps) ((p.0, v) ∷ ps) (p ∷ place key_cmp k v ps))
        ≡ option_and_then (λ j. option_map (json.put k j) (write_pairs (p ∷ ps))) (write Canonical v)
    by more Less e = put_first k p.0 e (write Canonical v) (write Canonical p.1) (write_pairs ps)
    by more Equal e = absurd (unequal k p.0 h.0 e)
    by more Greater e = ap (λ w. option_and_then (λ i. option_map (member p.0 i) w) (write Canonical p.1)) more ∙ put_later k p.0 e (write Canonical v) (write Canonical p.1) (write_pairs ps)

-- ---- pairs put in from the last to the first

then_alike : {A B : Type 0} (o : Option A) (f g : A → Option B) → ((a : A) → f a ≡ g a) → option_and_then f o ≡ option_and_then g o
then_alike (Some a) f g h = h a
then_alike None f g h = refl

through : {A B C : Type 0} (o : Option A) (f : A → Option C) (g : A → Option B) (h : B → C) → ((a : A) → f a ≡ option_map h (g a)) → option_and_then f o ≡ option_map h (option_and_then g o)
through (Some a) f g h is = is a
through None f g h is = refl

moved : (k : Key) (j : Data) (ps : List (Key × Value)) → Apart k ps → (found : Members)
    → write_members Canonical (members_of ps) (json.put k j found) ≡ option_map (json.put k j) (write_members Canonical (members_of ps) found)
moved k j [] h found = refl
moved k j (p ∷ ps) h found =
    through (write Canonical p.1) (λ i. write_members Canonical (members_of ps) (json.put p.0 i (json.put k j found))) (λ i. write_members Canonical (members_of ps) (json.put p.0 i found)) (json.put k j)
    (λ i. ap (write_members Canonical (members_of ps)) (sym (either_order k p.0 j i h.0 found)) ∙ moved k j ps h.1 (json.put p.0 i found))

in_turn : (ps : List (Key × Value)) → StandOnce ps → write_pairs (ascending ps) ≡ write_members Canonical (members_of ps) no_members
in_turn [] h = refl
in_turn (p ∷ ps) h =
    placed p.0 p.1 (ascending ps) (apart_ascending p.0 ps h.0)
    ∙ then_alike (write Canonical p.1) (λ j. option_map (json.put p.0 j) (write_pairs (ascending ps))) (λ j. write_members Canonical (members_of ps) (json.put p.0 j no_members))
    (λ j. ap (option_map (json.put p.0 j)) (in_turn ps h.1) ∙ sym (moved p.0 j ps h.0 no_members))

written_ascending : (ps : List (Key × Value)) → IsDistinct bytes_eq (keys_of ps) → write_pairs (ascending ps) ≡ write_members Canonical (members_of ps) no_members
written_ascending ps h = in_turn ps (once ps h)

-- ---- pairs in another order, with their keys ascending

-- keys that rise are distinct
pub rising_once : (ks : List Key) → IsStrictlySortedBy key_cmp ks → IsDistinct bytes_eq ks
rising_once ks up = subst (λ (e : Key → Key → Bool). IsDistinct e ks) (λ i x y. is_eq-slice_cmp x y i) (IsDistinct-from_sorted key_cmp ks up)

in_front : (p : Key × Value) (ps : Pairs) → AllByRecursion (λ y. key_cmp p.0 y ≡ Less) (keys_of ps) → place key_cmp p.0 p.1 ps ≡ p ∷ ps
in_front p [] below = refl
in_front p (q ∷ ps) below = ap (λ o. by_order o ((p.0, p.1) ∷ q ∷ ps) ((q.0, p.1) ∷ ps) (q ∷ place key_cmp p.0 p.1 ps)) below.0

ascending_already : (ps : Pairs) → IsStrictlySortedBy key_cmp (keys_of ps) → ascending ps ≡ ps
ascending_already [] up = refl
ascending_already (p ∷ ps) up = ap (place key_cmp p.0 p.1) (ascending_already ps (sorted_tail key_cmp p.0 (keys_of ps) up)) ∙ in_front p ps (sorted_head key_cmp p.0 (keys_of ps) up)

written_moved : (ps qs : Pairs) → IsPermutation ps qs → IsStrictlySortedBy key_cmp (keys_of qs) → write_pairs qs ≡ write_members Canonical (members_of ps) no_members
written_moved ps qs moved_so up =
    let once' = rising_once (keys_of qs) up in
    let once_so = IsDistinct-IsPermutation bytes_eq key_turned (keys_of qs) (keys_of ps) (IsPermutation-map (λ p. p.0) qs ps (IsPermutation-sym ps qs moved_so)) once' in
    let alike = same_ascending qs ps (λ q. found_alike ps qs moved_so (keys_once ps once_so) (keys_once qs once') q) in
    ap write_pairs (sym (ascending_already qs up) ∙ alike) ∙ written_ascending ps once_so

whole : (ms : Tree) → members_of (pairs_in ms) ≡ ms
whole none = refl
whole (one k v ms) = ap (one k v) (whole ms)

-- the members of a document are written as its pairs are, once their keys ascend
pub written_in_order : (ms : Tree) (ps : Pairs) → IsPermutation (pairs_in ms) ps → IsStrictlySortedBy key_cmp (keys_of ps) → write_pairs ps ≡ write_members Canonical ms no_members
written_in_order ms ps moved_so up = written_moved (pairs_in ms) ps moved_so up ∙ ap (λ ns. write_members Canonical ns no_members) (whole ms)
