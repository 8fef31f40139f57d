-- Documents that are put in groups, one after the other.
use Rattle.std.proofs.Common.{◌≡◌, ◌∙◌, ◌+◌, ◌<◌, ◌≤◌, ◌||◌, ℕ, List, [], ◌∷◌, ◌++◌, Bor, Vec, length, get_or, map, set, take, Bool, true, false, cond, Result, Ok, Err, OnOk, append-nil, refl, sym, ap, subst, arith}
use Rattle.std.proofs.lemmas.Cmp.{tied_itself}
use Rattle.std.proofs.lemmas.List.{map-append, take_all, take_more}
use Rattle.std.proofs.lemmas.List.Elements.{filter-append}
use Rattle.std.specs.List.{HoldsAt, filter, insert, list_any}
use Rattle.std.specs.List.Sorted.{IsBinarySearchResult, IsStrictlySortedBy}
use Rattle.std.specs.Ordering.{eq_by_cmp, is_eq}
use Rattle.std.specs.declared.alloc.AllocError.{AllocError}
use Rattle.std.specs.declared.alloc.Global.{Global}
use Rattle.std.specs.declared.cmp.Ordering.{Ordering}
use Rattle.std.specs.declared.cmp.Ordering.TheVariants.{Less, Equal, Greater}
use Rattle.bson_base.specs.Value.{Members, Value, no_members}
use Rattle.bson_model.specs.View.{view}
use Rattle.bson_model.specs.declared.bson.Bson.{Bson}
use Rattle.bson_order.proofs.MeaningLemmas.{total_order}
use Rattle.bson_order.specs.Order.{order}
use Rattle.store_pipeline.proofs.SortedCountLemmas.{all_new, all_set, at_mapped, gap_found, map_insert, map_long, map_set}
use Rattle.store_pipeline.proofs.OnceLemmas.{gap_apart, gap_none, none_met, once_again, once_new}
use Rattle.store_pipeline.specs.Once.{IsEachOnce}
use Rattle.store_model.specs.Reading.{Documents}
use Rattle.store_pipeline.proofs.PlaceLemmas.{zip_at, zip_long, zip_more}
use Rattle.store_pipeline.specs.Bodies.{AreBodies, AreLent, IsBody}
use Rattle.store_pipeline.specs.Faithful.{IsFaithful}
use Rattle.store_pipeline.specs.Grouped.{AreGrouped, IsGroup, key_of}
use Rattle.store_pipeline.specs.Groups.{of_key}
use Rattle.store_pipeline.specs.Operands.{key_in}
use Rattle.store_pipeline.specs.Taken.{IsTree}
use Rattle.store_pipeline.specs.declared.grouping.KeyGroup.{KeyGroup}
use Rattle.store_pipeline.specs.declared.stage.Operand.{Operand}

no_groups : (o : Operand) → AreGrouped o [] []
unfolding IsStrictlySortedBy
no_groups o = record { once = record { rises = tt; first = tt; every = tt }; each = tt }

-- ---- the documents of a key, with one document more

module _ (o : Operand) (ds : Documents) (d : Members) (k : Value) where
  of_more : of_key o k (ds ++ d ∷ []) ≡ of_key o k ds ++ of_key o k (d ∷ [])
  of_more = filter-append (λ e. eq_by_cmp order k (key_in o e)) ds (d ∷ [])

  of_same : order k (key_in o d) ≡ Equal → of_key o k (ds ++ d ∷ []) ≡ of_key o k ds ++ d ∷ []
  of_same e = of_more ∙ ap (λ r. of_key o k ds ++ cond (is_eq r) (d ∷ []) []) e

  of_other : (order k (key_in o d) ≡ Equal → ⊥) → of_key o k (ds ++ d ∷ []) ≡ of_key o k ds
  of_other n = of_more ∙ ap (λ l. of_key o k ds ++ l) (by (order k (key_in o d)) refl) ∙ append-nil (of_key o k ds)
    where
      by : (r : Ordering) → order k (key_in o d) ≡ r → cond (is_eq r) (d ∷ []) [] ≡ []
      by Less e = refl
      by Equal e = absurd (n e)
      by Greater e = refl

of_none : (o : Operand) (k : Value) (ds : Documents) → list_any (eq_by_cmp order k) (map (key_in o) ds) ≡ false → of_key o k ds ≡ []
of_none o k [] n = refl
of_none o k (d ∷ ds) n = by (eq_by_cmp order k (key_in o d)) n (of_none o k ds)
  where
    by : (b : Bool) → (b || list_any (eq_by_cmp order k) (map (key_in o) ds)) ≡ false → (list_any (eq_by_cmp order k) (map (key_in o) ds) ≡ false → of_key o k ds ≡ []) → cond b (d ∷ of_key o k ds) (of_key o k ds) ≡ []
    by true m rest = absurd cc
    by false m rest = rest m

-- ---- one document more

module _ (o : Operand) (ds : Documents) (d : Members) (gs : List KeyGroup) (h : AreGrouped o ds gs) where
  abbrev key : Value
  key = key_in o d

  abbrev keys : List Value
  keys = map (key_in o) ds

  keyed : (ks : List Value) → IsEachOnce order (keys ++ key ∷ []) ks → IsEachOnce order (map (key_in o) (ds ++ d ∷ [])) ks
  keyed ks e = subst (λ (xs : List Value). IsEachOnce order xs ks) (sym (map-append (key_in o) ds (d ∷ []))) e

  stays : (g : KeyGroup) → (order (key_of g) key ≡ Equal → ⊥) → IsGroup o ds g → IsGroup o (ds ++ d ∷ []) g
  stays g n p = (p.0, subst (λ (es : Documents). AreLent g.bodies.items es) (sym (of_other o ds d (key_of g) n)) p.1)

  grows : (old new : KeyGroup) → order (key_of old) key ≡ Equal → key_of new ≡ key_of old → ((es : Documents) → AreLent old.bodies.items es → AreLent new.bodies.items (es ++ d ∷ [])) → IsGroup o ds old → IsGroup o (ds ++ d ∷ []) new
  grows old new e named more p = (
    subst IsFaithful (sym named) p.0,
    subst (λ (k : Value). AreLent new.bodies.items (of_key o k (ds ++ d ∷ []))) (sym named)
        (subst (λ (es : Documents). AreLent new.bodies.items es) (sym (of_same o ds d (key_of old) e)) (more (of_key o (key_of old) ds) p.1)),
  )

  pub in_group : (i : ℕ) (at new : KeyGroup) → i < length gs → HoldsAt (λ g. order (key_of g) key ≡ Equal) gs i → key_of new ≡ key_of (get_or gs i at)
      → ((es : Documents) → AreLent (get_or gs i at).bodies.items es → AreLent new.bodies.items (es ++ d ∷ [])) → AreGrouped o (ds ++ d ∷ []) (set gs i new)
  in_group i at new low equal named more = record {
    once = subst (λ (ks : List Value). IsEachOnce order (map (key_in o) (ds ++ d ∷ [])) ks) (sym (map_set key_of gs i at new low named))
        (keyed (map key_of gs) (once_again order total_order key keys (map key_of gs) h.once i key (let long = map_long key_of gs in omega (arith, low, long)) (at_mapped key_of (λ k. order k key ≡ Equal) gs i key low equal)));
    each = all_set key_of order total_order key (IsGroup o ds) (IsGroup o (ds ++ d ∷ [])) gs i at new low h.once.rises (equal at)
        (grows (get_or gs i at) new (equal at) named more) stays h.each;
  }

  pub new_group : (i : ℕ) (new : KeyGroup) → i ≤ length gs → IsBinarySearchResult (λ g. order (key_of g) key) gs (Err i) → key_of new ≡ key → IsFaithful key → AreLent new.bodies.items (d ∷ []) → AreGrouped o (ds ++ d ∷ []) (insert gs i new)
  new_group i new low found named sound lent =
      let gap = gap_found key_of order total_order key gs i h.once.rises low found in
      let long = map_long key_of gs in
      let below : i ≤ length (map key_of gs) = omega (arith, low, long) in
      let none = none_met order total_order key keys (map key_of gs) h.once.every (gap_none order total_order key (map key_of gs) (gap_apart order total_order key (map key_of gs) i below gap)) in
      let itself : order key key ≡ Equal = tied_itself total_order key in
      let alone : of_key o key (ds ++ d ∷ []) ≡ d ∷ [] = of_same o ds d key itself ∙ ap (λ l. l ++ d ∷ []) (of_none o key ds none) in
      record {
        once = subst (λ (ks : List Value). IsEachOnce order (map (key_in o) (ds ++ d ∷ [])) ks) (ap (insert (map key_of gs) i) (sym named) ∙ sym (map_insert key_of gs i new))
            (keyed (insert (map key_of gs) i key) (once_new order total_order key keys (map key_of gs) h.once i below gap));
        each = all_new key_of order total_order key (IsGroup o ds) (IsGroup o (ds ++ d ∷ [])) gs i new low gap
            (subst IsFaithful (sym named) sound, subst (λ (k : Value). AreLent new.bodies.items (of_key o k (ds ++ d ∷ []))) (sym named) (subst (λ (es : Documents). AreLent new.bodies.items es) (sym alone) lent)) stays h.each;
      }

pub lent_last : (old new : List (Bor (List ℕ))) (body : Bor (List ℕ)) (ds : Documents) (d : Members) → new ≡ old ++ body ∷ [] → IsBody body.now d → AreLent old ds → AreLent new (ds ++ d ∷ [])
lent_last old new body ds d is here are = subst (λ (l : List (Bor (List ℕ))). AreLent l (ds ++ d ∷ [])) (sym is) (zip_more (λ b e. IsBody b.now e) old ds body d are here)

-- the same as the code has it, with the groups lent and the key as a tree
module _ (o : Operand) (ds : Documents) (d : Members) (gs slice : List KeyGroup) (b : Bson) (body : List ℕ) (h : AreGrouped o ds gs) (tree : IsTree b (key_in o d)) (is : IsBody body d) (lent : slice ≡ gs) (i : ℕ) where
  pub put_again : (old new : KeyGroup) (r : Result (Unit {0}) AllocError) → i < length slice → HoldsAt (λ g. order (key_of g) (view b) ≡ Equal) slice i → old ≡ get_or gs i old
      → OnOk r ((key_of new ≡ key_of old) × ((es : Documents) (e : Members) → IsBody body e → AreLent old.bodies.items es → AreLent new.bodies.items (es ++ e ∷ []))) → OnOk r (AreGrouped o (ds ++ d ∷ []) (set gs i new))
  put_again old new (Ok x) low equal at told =
      in_group o ds d gs h i old new (let long = ap length lent in omega (arith, low, long))
      (subst (λ (k : Value). HoldsAt (λ g. order (key_of g) k ≡ Equal) gs i) tree.0 (subst (λ (l : List KeyGroup). HoldsAt (λ g. order (key_of g) (view b) ≡ Equal) l i) lent equal))
      (subst (λ (g : KeyGroup). key_of new ≡ key_of g) at told.0)
      (subst (λ (g : KeyGroup). (es : Documents) → AreLent g.bodies.items es → AreLent new.bodies.items (es ++ d ∷ [])) at (λ es. told.1 es d is))
  put_again old new (Err x) low equal at told = tt

  pub put_new : (new : KeyGroup) (items : List KeyGroup) → i ≤ length slice → IsBinarySearchResult (λ g. order (key_of g) (view b)) slice (Err i)
      → (key_of new ≡ view b) × ((e : Members) → IsBody body e → AreLent new.bodies.items (e ∷ [])) → items ≡ insert gs i new → AreGrouped o (ds ++ d ∷ []) items
  put_new new items low found one put =
      subst (λ (l : List KeyGroup). AreGrouped o (ds ++ d ∷ []) l) (sym put)
      (new_group o ds d gs h i new (let long = ap length lent in omega (arith, low, long))
      (subst (λ (k : Value). IsBinarySearchResult (λ g. order (key_of g) k) gs (Err i)) tree.0 (subst (λ (l : List KeyGroup). IsBinarySearchResult (λ g. order (key_of g) (view b)) l (Err i)) lent found))
      (one.0 ∙ tree.0) tree.1 (one.1 d is))

-- ---- all documents

pub groups_begin : (o : Operand) (ds : Documents) (groups : List KeyGroup) → groups ≡ [] → AreGrouped o (take 0 ds) groups
groups_begin o [] groups is = subst (λ (gs : List KeyGroup). AreGrouped o [] gs) (sym is) (no_groups o)
groups_begin o (d ∷ ds) groups is = subst (λ (gs : List KeyGroup). AreGrouped o [] gs) (sym is) (no_groups o)

module _ (o : Operand) (bodies : List (Vec ℕ Global)) (ds : Documents) (are : AreBodies bodies ds) (i : ℕ) where
  pub group_more : (body : Vec ℕ Global) (bytes : List ℕ) (key : Bson) (old new : List KeyGroup) → i < length bodies → body ≡ get_or bodies i body → bytes ≡ body.items → ((d : Members) → IsBody bytes d → IsTree key (key_in o d))
      → ((p : Operand) (es : Documents) (d : Members) → AreGrouped p es old → IsBody bytes d → IsTree key (key_in p d) → AreGrouped p (es ++ d ∷ []) new)
      → AreGrouped o (take i ds) old → AreGrouped o (take (i + 1) ds) new
  group_more body bytes key old new low at shown keyed put before =
      let long = zip_long (λ b e. IsBody b.items e) bodies ds are in
      let d : Members = get_or ds i no_members in
      let is : IsBody bytes d = subst (λ (x : List ℕ). IsBody x d) (sym shown) (subst (λ (b : Vec ℕ Global). IsBody b.items d) (sym at) (zip_at (λ b e. IsBody b.items e) i bodies ds body no_members are low)) in
      subst (λ (es : Documents). AreGrouped o es new) (sym (take_more ds i no_members (omega (arith, low, long)))) (put o (take i ds) d before is (keyed d is))

  pub group_all : (groups : List KeyGroup) → length bodies ≤ i → AreGrouped o (take i ds) groups → AreGrouped o ds groups
  group_all groups end before =
      let long = zip_long (λ b d. IsBody b.items d) bodies ds are in
      subst (λ (es : Documents). AreGrouped o es groups) (take_all i ds (omega (arith, end, long))) before
