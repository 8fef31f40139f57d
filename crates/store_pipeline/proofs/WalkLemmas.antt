-- What a path leads to, put behind what was met.
use Rattle.std.proofs.Common.{◌≡◌, ◌∙◌, ℕ, ◌≤◌, List, [], ◌∷◌, ◌++◌, drop, length, map, true, false, if◌then◌else◌, String, string_bytes, Option, Some, None, Result, Ok, Err, OnOk, append-nil, append_assoc, refl, sym, ap, subst, arith}
use Rattle.std.proofs.lemmas.List.{map-append}
use Rattle.std.specs.Str.{bytes_eq}
use Rattle.std.specs.declared.alloc.AllocError.{AllocError}
use Rattle.std.specs.declared.alloc.Global.{Global}
use Rattle.bson_base.specs.Value.{Value, scalar, array, document, scoped_code, Items, Members, member, look_up, members_levels}
use Rattle.bson_bytes.specs.Encode.{encode}
use Rattle.bson_bytes.specs.Spells.{settle_value}
use Rattle.bson_bytes.proofs.OneTreeLemmas.{one_items, one_list}
use Rattle.bson_bytes.proofs.SettledLemmas.{stays_value}
use Rattle.bson_frame.specs.declared.error.Error.{Error}
use Rattle.bson_model.specs.View.{view}
use Rattle.bson_model.specs.declared.bson.Bson.{Bson}
use Rattle.bson_raw.specs.Convert.{SpellsRawValue, IsBsonOf}
use Rattle.bson_raw.specs.Raw as raws
use Rattle.bson_raw.specs.Raw.{RawValue, ref_value}
use Rattle.bson_raw.specs.declared.bson_ref.RawBsonRef.{RawBsonRef}
use Rattle.bson_raw.specs.declared.element.RawElement.{RawElement}
use Rattle.bson_raw.specs.View.{parts_of}
use Rattle.bson_raw.specs.Walk.{steps_from}
use Rattle.store_pipeline.specs.Counted.{Adds}
use Rattle.store_pipeline.specs.Distinct.{at_end, each_of, into_document, itself, led_to, through, under}
use Rattle.store_question.specs.Filters.{path_of}
use Rattle.store_question.specs.Views.{ComeBack}
use Rattle.store_question.proofs.LookUpLemmas.{IsAhead, no_fault}
use Rattle.store_model.specs.Filter.{pairs, under_places}
use Rattle.store_question.proofs.AskLemmas.{IsNoDocument}
use Rattle.store_question.proofs.ValueLemmas.{found_spells}
use Rattle.store_question.proofs.WalkLemmas.{next_step, at_start, last}
use Rattle.store_question.specs.Reads.{Found, HoldsItems, OfElement}

-- ---- lists of trees

pub adds_nothing : (old : List Bson) → Adds old old []
adds_nothing old = sym (append-nil (map view old))

pub adds_none : (old : List Bson) (vs : List Value) → vs ≡ [] → Adds old old vs
adds_none old vs e = subst (λ (xs : List Value). Adds old old xs) (sym e) (adds_nothing old)

pub adds_both : (old mid new : List Bson) (vs ws : List Value) → Adds old mid vs → Adds mid new ws → Adds old new (vs ++ ws)
adds_both old mid new vs ws a b = b ∙ ap (λ (xs : List Value). xs ++ ws) a ∙ append_assoc (map view old) vs ws

pub adds_as : (r : Result (Unit {0}) AllocError) (old new : List Bson) (vs ws : List Value) → vs ≡ ws → OnOk r (Adds old new ws) → OnOk r (Adds old new vs)
adds_as r old new vs ws e h = subst (λ (xs : List Value). OnOk r (Adds old new xs)) (sym e) h

pub adds_on : (r : Result (Unit {0}) AllocError) (old mid new : List Bson) (vs ws : List Value) → Adds old mid vs → OnOk r (Adds mid new ws) → OnOk r (Adds old new (vs ++ ws))
adds_on (Ok x) old mid new vs ws a b = adds_both old mid new vs ws a b
adds_on (Err e) old mid new vs ws a b = tt

one_raw : (r : RawValue) (v w : Value) → SpellsRawValue r v → SpellsRawValue r w → v ≡ w
one_raw (raws.leaf s) v w h k = h ∙ sym k
one_raw (raws.array bs) v w h k = h.2 ∙ ap array (one_items (drop 4 bs) h.0 k.0 h.1 k.1) ∙ sym k.2
one_raw (raws.document bs) v w h k = h.2 ∙ ap document (one_list (drop 4 bs) h.0 k.0 h.1 k.1) ∙ sym k.2
one_raw (raws.scoped_code t bs) v w h k = h.2 ∙ ap (scoped_code t) (one_list (drop 4 bs) h.0 k.0 h.1 k.1) ∙ sym k.2

tree_of : (raw : RawBsonRef) (v : Value) (b : Bson) → Found raw v → IsBsonOf (ref_value raw) b → view b ≡ v
tree_of raw v b f h = h.2 ∙ ap settle_value (one_raw (ref_value raw) h.0 v h.1 (found_spells raw v f)) ∙ stays_value v f.back.clean f.back.sound.ranged f.back.sound.distinct

pub adds_one : (raw : RawBsonRef) (v : Value) (b : Bson) (old new : List Bson) → Found raw v → IsBsonOf (ref_value raw) b → new ≡ old ++ b ∷ [] → Adds old new (v ∷ [])
adds_one raw v b old new f h is = ap (map view) is ∙ map-append view old (b ∷ []) ∙ ap (λ x. map view old ++ x ∷ []) (tree_of raw v b f h)

pub first_added : (old new : List Bson) (vs : List Value) → old ≡ [] → Adds old new vs → map view new ≡ vs
first_added old new vs e a = a ∙ ap (λ (xs : List Bson). map view xs ++ vs) e

-- ---- steps of a path

empty_path : (path : List (String Global)) → length path ≡ 0 → path ≡ []
empty_path [] e = refl
empty_path (k ∷ ks) e = absurd (omega (arith, e))

pub led_over : (path : List (String Global)) (v : Value) → length path ≡ 0 → led_to (path_of path) v ≡ at_end v
led_over path v e = ap (λ (p : List (String Global)). led_to (path_of p) v) (empty_path path e)

module _ (path : List (String Global)) (key : String Global) (rest : List (String Global)) (k : List ℕ) (v : Value) (e : path ≡ key ∷ rest) (named : k ≡ string_bytes key) where
  stepped : led_to (path_of path) v ≡ led_to (k ∷ path_of rest) v
  stepped = ap (λ (p : List (String Global)). led_to (path_of p) v) e ∙ sym (ap (λ (n : List ℕ). led_to (n ∷ path_of rest) v) named)

  pub led_document : (ms : Members) → v ≡ document ms → led_to (path_of path) v ≡ under (led_to (path_of rest)) (look_up k (pairs v))
  led_document ms is = stepped ∙ ap (led_to (k ∷ path_of rest)) is ∙ sym (ap (λ (x : Value). under (led_to (path_of rest)) (look_up k (pairs x))) is)

  pub led_array : (vs : Items) → Some v ≡ Some (array vs) → led_to (path_of path) v ≡ each_of (through k (led_to (path_of rest))) (under_places 0 vs)
  led_array vs is = let same : v ≡ array vs = cc in stepped ∙ ap (led_to (k ∷ path_of rest)) same

  other : (w : Value) → IsNoDocument w → HoldsItems None (Some w) → led_to (k ∷ path_of rest) w ≡ []
  other (scalar s) d a = refl
  other (array vs) d a = absurd a
  other (document ms) d a = absurd d
  other (scoped_code t ms) d a = refl

  pub led_other : IsNoDocument v → HoldsItems None (Some v) → led_to (path_of path) v ≡ []
  led_other d a = stepped ∙ other v d a

pub under_some : (on : Value → List Value) (o : Option Value) (w : Value) → o ≡ Some w → under on o ≡ on w
under_some on o w e = ap (under on) e

pub under_none : (on : Value → List Value) (o : Option Value) → o ≡ None → under on o ≡ []
under_none on o e = ap (under on) e

pub into_it : (k : List ℕ) (on : Value → List Value) (v : Value) (ms : Members) → v ≡ document ms → into_document k on v ≡ under on (look_up k (pairs v))
into_it k on v ms e = ap (into_document k on) e ∙ sym (ap (λ (x : Value). under on (look_up k (pairs x))) e)

pub not_into : (k : List ℕ) (on : Value → List Value) (v : Value) → IsNoDocument v → into_document k on v ≡ []
not_into k on (scalar s) d = refl
not_into k on (array vs) d = refl
not_into k on (document ms) d = absurd d
not_into k on (scoped_code t ms) d = refl

module _ (k : List ℕ) (on : Value → List Value) (place : List ℕ) (v : Value) where
  pub through_here : bytes_eq place k ≡ true → through k on place v ≡ into_document k on v ++ on v
  through_here e = ap (λ b. into_document k on v ++ (if b then on v else [])) e

  pub through_not : bytes_eq place k ≡ false → through k on place v ≡ into_document k on v
  through_not e = ap (λ b. into_document k on v ++ (if b then on v else [])) e ∙ append-nil (into_document k on v)

-- ---- the end of a path

pub at_end_array : (v : Value) (vs : Items) → Some v ≡ Some (array vs) → at_end v ≡ each_of itself (under_places 0 vs)
at_end_array v vs is = let same : v ≡ array vs = cc in ap at_end same

pub at_end_other : (v : Value) → HoldsItems None (Some v) → at_end v ≡ v ∷ []
at_end_other (scalar s) a = refl
at_end_other (array vs) a = absurd a
at_end_other (document ms) a = refl
at_end_other (scoped_code t ms) a = refl

-- ---- over the items of an array

module _ (on : List ℕ → Value → List Value) where
  -- what those before led to was put behind
  pub record AddsLeft (whole : Members) (old : List Bson) (s : Option (List ℕ)) (now : List Bson) : Type 0 where
    pub rest : Members
    pub ahead : IsAhead s rest
    pub back : ComeBack rest
    pub low : members_levels rest ≤ 200
    pub met : List Value
    pub added : Adds old now met
    pub same : each_of on whole ≡ met ++ each_of on rest

  pub left_start : (bytes : List ℕ) (whole : Members) (old : List Bson) (s : Option (List ℕ)) → bytes ≡ encode whole → s ≡ Some (drop 4 bytes) → ComeBack whole → members_levels whole ≤ 200 → AddsLeft whole old s old
  left_start bytes whole old s is from back low = record { rest = whole; ahead = at_start bytes whole s is from; back = back; low = low; met = []; added = adds_nothing old; same = refl }

  pub left_more : (whole : Members) (old : List Bson) (s t : Option (List ℕ)) (now new : List Bson) (x : RawElement) → steps_from s (Some (Ok x)) t → AddsLeft whole old s now
      → OfElement (parts_of x) (λ k v. Adds now new (on k v)) → AddsLeft whole old t new
  left_more whole old s t now new x step l told =
      let one = next_step s t x l.rest step l.ahead l.back in
      let k = (parts_of x).key in
      let low : members_levels (member k one.value one.more) ≤ 200 = subst (λ (ms : Members). members_levels ms ≤ 200) one.is l.low in
      record {
        rest = one.more;
        ahead = one.ahead;
        back = one.others;
        low = omega (arith, low);
        met = l.met ++ on k one.value;
        added = adds_both old now new l.met (on k one.value) l.added (told one.value one.written one.back (omega (arith, low)));
        same = l.same ∙ ap (λ (ms : Members). l.met ++ each_of on ms) one.is ∙ sym (append_assoc l.met (on k one.value) (each_of on one.more));
      }

  pub left_fault : (whole : Members) (old : List Bson) (s t : Option (List ℕ)) (now : List Bson) (x : Error) → steps_from s (Some (Err x)) t → AddsLeft whole old s now → ⊥
  left_fault whole old s t now x step l = no_fault s t x l.rest step l.ahead l.back

  pub left_end : (whole : Members) (old : List Bson) (s t : Option (List ℕ)) (now : List Bson) → steps_from s None t → AddsLeft whole old s now → Adds old now (each_of on whole)
  left_end whole old s t now step l =
      let none = last s t l.rest step l.ahead l.back in
      subst (λ (xs : List Value). Adds old now xs) (sym (l.same ∙ ap (λ (ms : Members). l.met ++ each_of on ms) none ∙ append-nil l.met)) l.added
