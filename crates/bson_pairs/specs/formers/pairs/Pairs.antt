-- `Pairs` as a type that may hold the type that holds it, by its values.
use Rattle.std.specs.Prelude.{◌≡◌, List, [], ◌∷◌, map, length, String, Bool, ◌&&◌, Option, Some, None}
use Rattle.std.specs.List.{zip, list_all}
use Rattle.std.specs.Option.{option_eq, option_map}
use Rattle.std.specs.declared.cmp.PartialEq as eq
use Rattle.std.specs.declared.hash.Hash as hash
use mathlib.Core.Path.{refl, sym, ap, ◌∙◌}
use mathlib.Core.Former.{Former, one_more, this, const, pair, list, via, children}
use native.Mathlib.Nat.{ℕ_set}
use native.Mathlib.Omega.{arith}
use lib.ListN.{length-map}
use denote.RattleType.{RattleType}
use denote.HoleLaws.{Alike}
use denote.HolePlaces.{Recodes, struct_places, laid}
use denote.Hole.Carrier.{listed}
use denote.Hole.Fix.{over}
use denote.Param.Weighed.{Weighed, most}
use denote.Model.Placed.{held, view_places_where}
use base.Stored.{gcons, code_map, coded×}
use Rattle.std.specs.formers.vec.Vec as vec
use Rattle.std.specs.declared.alloc.Global.{Global}
use Rattle.std.specs.contracts.alloc.Global as global
use Rattle.std.specs.contracts.impls.GlobalAllocator.TheImpl.{ghosts}
use Rattle.std.specs.Map.{values_of}
use Rattle.bson_pairs.specs.Entries.{entry, on_value, entries_puts, values_listed}
use Rattle.bson_pairs.specs.Keyed.{Key, key_code, key_bytes, get}
use Rattle.bson_pairs.specs.Over.{get-over, keys_of-over}
use Rattle.bson_pairs.specs.Same.{same_at, pairs_eq}
use Rattle.bson_pairs.specs.Ascending.{pairs_writes, pairs_writes-over}
use Rattle.bson_pairs.specs.declared.pairs.Pairs.TheInside.{Inside}
use Rattle.bson_pairs.specs.declared.pairs.Pairs.TheView.{view, invariant}
use Rattle.bson_pairs.specs.contracts.pairs.Pairs as C
use Rattle.bson_pairs.specs.contracts.pairs.Pairs.TheInside as I

abbrev pub the_former : Former {0} → Former {0}
the_former g = list (entry g Key)

abbrev pub the_weighed : {g : Former {0}} → Weighed g → Weighed (the_former g)
the_weighed w = record { weight = λ X μ c. most (w.weight X μ) (values_of c); puts = λ X μ c. entries_puts w Key X μ c }

pub the_empty : List (Key × ⊥)
the_empty = []

abbrev pub the_items : (X : Type 0) → List (Key × X) → List X
the_items X d = values_of d

pub the_items_listed : (X : Type 0) (d : List (Key × X)) → listed _ (children (the_former this) X d) ≡ the_items X d
the_items_listed X d = values_listed Key X d

abbrev Keys : Type 0
Keys = List (String Global)

abbrev fields : Former {0}
fields = via (pair (const Keys) (vec.the_former this Global)) Inside (λ X a. (a.keys, a.values)) (λ X v. record { keys = v.0; values = v.1 }) (λ X a. refl) (λ X v. refl)

zip-map : {X Y : Type 0} (h : X → Y) (ks : List Key) (vs : List X) → zip ks (map h vs) ≡ map (on_value h) (zip ks vs)
zip-map h [] vs = refl
zip-map h (k ∷ ks) [] = refl
zip-map h (k ∷ ks) (v ∷ vs) = ap (λ l. (k, h v) ∷ l) (zip-map h ks vs)

zip-held : (X : Type 0) (ks : List Key) (vs : List X) → length vs ≡ length ks → held (list (entry this Key)) X (zip ks vs) ≡ held (list this) X vs
zip-held X [] [] e = refl
zip-held X [] (v ∷ vs) e = absurd (omega arith)
zip-held X (k ∷ ks) [] e = absurd (omega arith)
zip-held X (k ∷ ks) (v ∷ vs) e = λ i. (one_more (zip-held X ks vs (omega arith) i).0, (v, (zip-held X ks vs (omega arith) i).1))

module _ (R R' : RattleType) (h : R.Denot → R'.Denot) where
  pub the_places : Alike R R' h → Alike (C.the_row R) (C.the_row R') ((the_former this).map R.Denot R'.Denot h)
  the_places a = view_places_where fields (the_former this) (λ X. view X)
      (λ X Y k u. zip-map k (key_bytes u.keys) u.values.items)
      (λ X u. length u.values.items ≡ length u.keys) (λ X Y k u e. sym (length-map u.values.items k) ∙ e)
      (λ X u e. zip-held X (key_bytes u.keys) u.values.items (e ∙ sym (length-map u.keys _)))
      R.Denot R'.Denot h (C.the_row R).coded (C.the_row R').coded
      (invariant R.Denot) (invariant R'.Denot) (λ u. ℕ_set _ _) (λ u. ℕ_set _ _)
      (λ u e. length-map u.values.items h ∙ e) (λ u e. sym (length-map u.values.items h) ∙ e) (λ u e. e)
      (over (I.the_row R)) (over (I.the_row R'))
      (struct_places (I.the_type R) (I.the_type R') (λ n. n, (vec.mapped h, tt)) _ (λ d. refl) refl
      ((refl, (λ n. refl, λ n. refl)), (laid _ _ _ (vec.the_places global.the_row ghosts R R' h a), tt)))

  pub the_codes_placed : Recodes R R' h → Recodes (C.the_row R) (C.the_row R') ((the_former this).map R.Denot R'.Denot h)
  the_codes_placed e es = sym (code_map (coded× key_code R.coded).code (coded× key_code R'.coded).code (on_value h) (λ x. λ i. gcons (key_code.code x.0) (sym (e x.1) i)) es)

module _ {X Y : Type 0} (h : X → Y) where
  agreed : (E : Y → Y → Bool) (p q : Option X) → option_eq E (option_map h p) (option_map h q) ≡ option_eq (λ a b. E (h a) (h b)) p q
  agreed E None None = refl
  agreed E None (Some y) = refl
  agreed E (Some x) None = refl
  agreed E (Some x) (Some y) = refl

  pub pairs_eq-map : (E : Y → Y → Bool) (ps qs : List (Key × X)) → pairs_eq E (map (on_value h) ps) (map (on_value h) qs) ≡ pairs_eq (λ a b. E (h a) (h b)) ps qs
  pairs_eq-map E ps qs =
      let here : (k : Key) → same_at E (map (on_value h) ps) (map (on_value h) qs) k ≡ same_at (λ a b. E (h a) (h b)) ps qs k
      = λ k. (λ i. option_eq E (get-over h k ps i) (get-over h k qs i)) ∙ agreed E (get k ps) (get k qs) in
      λ i. list_all (λ k. here k i) (keys_of-over h ps i) && list_all (λ k. here k i) (keys_of-over h qs i)

pub the_eq_natural : (X Y : Type 0) (h : X → Y) (V : eq.Ghosts Y) (ps qs : List (Key × X)) → pairs_eq V.eq ((the_former this).map X Y h ps) ((the_former this).map X Y h qs) ≡ pairs_eq (λ a b. V.eq (h a) (h b)) ps qs
the_eq_natural X Y h V ps qs = pairs_eq-map h V.eq ps qs

pub the_hash_input_natural : (X Y : Type 0) (h : X → Y) (V : hash.Ghosts Y) (V' : eq.Ghosts Y) (ps : List (Key × X)) → pairs_writes V.hash_input ((the_former this).map X Y h ps) ≡ pairs_writes (λ a. V.hash_input (h a)) ps
the_hash_input_natural X Y h V V' ps = pairs_writes-over h V.hash_input ps

pub ruleset naturals = (pairs_eq-map, pairs_writes-over)
