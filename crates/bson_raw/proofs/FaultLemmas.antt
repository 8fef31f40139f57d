-- Elements with a fault spell no tree.
use Rattle.std.proofs.Common.{◌≡◌, ℕ, List, drop, Option, Some, None, Result, Ok, Err, MatchResult, IfErr, Vec, Global, ◌⊎◌, inl, inr, refl, sym, subst}
use Rattle.bson_base.specs.declared.spec.ElementType.{ElementType}
use Rattle.bson_base.specs.Value.{Scalar, double, scalar_kind, Value, scalar, array, document, scoped_code, Items, no_items, item, Members, no_members, member, value_kind}
use Rattle.bson_bytes.specs.Spells.{SpellsValue, SpellsItems, SpellsMembers, IsFaulty}
use Rattle.bson_frame.specs.declared.error.ErrorKind.{ErrorKind}
use Rattle.bson_frame.specs.declared.error.Error.{Error}
use Rattle.bson_frame.specs.Frame.{Element, IsFirstFrame}
use Rattle.bson_frame.specs.Payload.{IsFaultless}
use Rattle.bson_frame.specs.View.{fault_key}
use Rattle.bson_model.specs.declared.bson.Bson.{Bson}
use Rattle.bson_model.specs.declared.document.Document.{Document}
use Rattle.bson_raw.specs.Raw as raws
use Rattle.bson_raw.specs.Raw.{RawValue}
use Rattle.bson_raw.specs.Convert.{SpellsRawValue, elements_of, HasFaultInside, Way, here, past, into, elements_in, IsFirstFault, HasFault, HasFaultIn, IsValueOf, MeansItems, ConvertsMembers, ConvertsItems, ConvertsValue, TellsFault}
use Rattle.bson_raw.proofs.ProgressLemmas.{told_on}
use Rattle.bson_raw.proofs.WalkLemmas.{FramesAreOne}
use Rattle.bson_bytes.proofs.OneTreeLemmas.{end_no_frame}

-- a payload that spells a value has no fault of its own
pub no_fault : (tag : ElementType) (payload : List ℕ) (v : Value) → value_kind v ≡ tag → SpellsValue payload v → IsFaultless tag payload
no_fault tag payload (scalar s) kind spells = subst (λ (t : ElementType). IsFaultless t payload) kind spells.0
no_fault tag payload (array vs) kind spells = subst (λ (t : ElementType). IsFaultless t payload) kind (λ k h. h)
no_fault tag payload (document ms) kind spells = subst (λ (t : ElementType). IsFaultless t payload) kind (λ k h. h)
no_fault tag payload (scoped_code t ms) kind spells = subst (λ (k : ElementType). IsFaultless k payload) kind spells.0

pub nothing_inside : (payload : List ℕ) (s : Scalar) → elements_in (scalar_kind s) payload ≡ None
nothing_inside payload (double n) = refl
nothing_inside payload _ = refl

abbrev IsInside : List ℕ → Type 0
IsInside inner = ((ms : Members) × SpellsMembers inner ms) ⊎ ((vs : Items) × SpellsItems inner vs)

in_members : (a inner : List ℕ) (ms : Members) → Some a ≡ Some inner → SpellsMembers a ms → IsInside inner
in_members a inner ms e h = let same : a ≡ inner = cc in inl (ms, subst (λ b. SpellsMembers b ms) same h)

in_items : (a inner : List ℕ) (vs : Items) → Some a ≡ Some inner → SpellsItems a vs → IsInside inner
in_items a inner vs e h = let same : a ≡ inner = cc in inr (vs, subst (λ b. SpellsItems b vs) same h)

inside_spells : (payload inner : List ℕ) (v : Value) → elements_in (value_kind v) payload ≡ Some inner → SpellsValue payload v → IsInside inner
inside_spells payload inner (scalar s) is spells = let none = nothing_inside payload s in absurd (cc)
inside_spells payload inner (array vs) is spells = in_items _ inner vs is spells
inside_spells payload inner (document ms) is spells = in_members _ inner ms is spells
inside_spells payload inner (scoped_code t ms) is spells = in_members _ inner ms is spells.2

not_inside : (inner : List ℕ) → IsInside inner → ((ms : Members) → SpellsMembers inner ms → ⊥) → ((vs : Items) → SpellsItems inner vs → ⊥) → ⊥
not_inside inner (inl (ms, h)) f g = f ms h
not_inside inner (inr (vs, h)) f g = g vs h

-- the element's payload spells a value
abbrev pub IsSpelled : Element → Type 0
IsSpelled e = (v : Value) × (value_kind v ≡ e.tag) × SpellsValue e.payload v

module _ (one : FramesAreOne) where
  pub members_front : (bytes : List ℕ) (e : Element) (rest : List ℕ) → IsFirstFrame bytes e rest → (ms : Members) → SpellsMembers bytes ms → IsSpelled e × ((after : Members) × SpellsMembers rest after)
  members_front bytes e rest first no_members h = absurd (end_no_frame bytes e rest h first)
  members_front bytes e rest first (member k v ms) h =
      let same = one bytes h.0 e h.1 rest h.2 first in
      (subst IsSpelled same.0 (v, h.4, h.5), (ms, subst (λ (b : List ℕ). SpellsMembers b ms) same.1 h.6))

  items_front : (bytes : List ℕ) (e : Element) (rest : List ℕ) → IsFirstFrame bytes e rest → (vs : Items) → SpellsItems bytes vs → IsSpelled e × ((after : Items) × SpellsItems rest after)
  items_front bytes e rest first no_items h = absurd (end_no_frame bytes e rest h first)
  items_front bytes e rest first (item v vs) h =
      let same = one bytes h.0 e h.1 rest h.2 first in
      (subst IsSpelled same.0 (v, h.3, h.4), (vs, subst (λ (b : List ℕ). SpellsItems b vs) same.1 h.5))

  inside_front : (e : Element) (inner : List ℕ) → elements_in e.tag e.payload ≡ Some inner → IsSpelled e → IsInside inner
  inside_front e inner is (v, kind, spells) = inside_spells e.payload inner v (subst (λ (t : ElementType). elements_in t e.payload ≡ Some inner) (sym kind) is) spells

  mutual
    pub spells_no_members : (way : Way) (bytes : List ℕ) (key : Option (List ℕ)) (kind : ErrorKind) → IsFirstFault bytes way key kind → (ms : Members) → SpellsMembers bytes ms → ⊥
    spells_no_members here bytes None kind fault no_members h = fault.0 h
    spells_no_members here bytes None kind fault (member k v ms) h = fault.1.no_frame h.0 h.1 h.2
    spells_no_members here bytes (Some key) kind (e, rest, first, is, fault) ms h =
        let front = (members_front bytes e rest first ms h).0 in
        no_fault e.tag e.payload front.0 front.1 front.2 kind fault
    spells_no_members (past way) bytes key kind (e, rest, v, first, same, spells, fault) ms h =
        let after = (members_front bytes e rest first ms h).1 in
        spells_no_members way rest key kind fault after.0 after.1
    spells_no_members (into way) bytes key kind (e, rest, inner, first, faultless, is, fault) ms h =
        not_inside inner (inside_front e inner is (members_front bytes e rest first ms h).0) (spells_no_members way inner key kind fault) (spells_no_items way inner key kind fault)

    spells_no_items : (way : Way) (bytes : List ℕ) (key : Option (List ℕ)) (kind : ErrorKind) → IsFirstFault bytes way key kind → (vs : Items) → SpellsItems bytes vs → ⊥
    spells_no_items here bytes None kind fault no_items h = fault.0 h
    spells_no_items here bytes None kind fault (item v vs) h = fault.1.no_frame h.0 h.1 h.2
    spells_no_items here bytes (Some key) kind (e, rest, first, is, fault) vs h =
        let front = (items_front bytes e rest first vs h).0 in
        no_fault e.tag e.payload front.0 front.1 front.2 kind fault
    spells_no_items (past way) bytes key kind (e, rest, v, first, same, spells, fault) vs h =
        let after = (items_front bytes e rest first vs h).1 in
        spells_no_items way rest key kind fault after.0 after.1
    spells_no_items (into way) bytes key kind (e, rest, inner, first, faultless, is, fault) vs h =
        not_inside inner (inside_front e inner is (items_front bytes e rest first vs h).0) (spells_no_members way inner key kind fault) (spells_no_items way inner key kind fault)

  -- the elements inside a payload that spells a value have no fault
  pub inside_faulty : (e : Element) (inner : List ℕ) → elements_in e.tag e.payload ≡ Some inner → IsSpelled e → (way : Way) (key : Option (List ℕ)) (kind : ErrorKind) → IsFirstFault inner way key kind → ⊥
  inside_faulty e inner is spelled way key kind fault = not_inside inner (inside_front e inner is spelled) (spells_no_members way inner key kind fault) (spells_no_items way inner key kind fault)

  pub no_document : (bytes inner : List ℕ) (result : Result Document Error) → inner ≡ drop 4 bytes → ConvertsMembers inner result → IfErr result (TellsFault (λ _ _. IsFaulty bytes))
  no_document bytes inner (Ok d) is h = tt
  no_document bytes inner (Err x) is h =
      told_on (HasFault inner) (λ _ _. IsFaulty bytes) (λ key kind fault ms spells. spells_no_members fault.0 inner key kind fault.1 ms (subst (λ (b : List ℕ). SpellsMembers b ms) (sym is) spells)) (fault_key x) x.kind h

  pub no_array : (bytes inner : List ℕ) (result : Result (Vec Bson Global) Error) → inner ≡ drop 4 bytes → ConvertsItems inner result → IfErr result (TellsFault (λ _ _. (items : Items) → MeansItems bytes items → ⊥))
  no_array bytes inner (Ok a) is h = tt
  no_array bytes inner (Err x) is h =
      told_on (HasFault inner) (λ _ _. (items : Items) → MeansItems bytes items → ⊥)
      (λ key kind fault items means. spells_no_items fault.0 inner key kind fault.1 means.0 (subst (λ (b : List ℕ). SpellsItems b means.0) (sym is) means.2)) (fault_key x) x.kind h

  pub no_value : (e : Element) (result : Result Bson Error) → MatchResult result (IsValueOf e) (TellsFault (HasFaultIn e)) → IfErr result (TellsFault (λ _ _. (v : Value) → value_kind v ≡ e.tag → SpellsValue e.payload v → ⊥))
  no_value e (Ok b) h = tt
  no_value e (Err x) h = told_on (HasFaultIn e) (λ _ _. (v : Value) → value_kind v ≡ e.tag → SpellsValue e.payload v → ⊥) (λ key kind fault v same spells. by v same spells kind key fault) (fault_key x) x.kind h
    where
      by : (v : Value) → value_kind v ≡ e.tag → SpellsValue e.payload v → (kind : ErrorKind) (key : Option (List ℕ)) → HasFaultIn e key kind → ⊥
      by v same spells kind key (inl (is, fault)) = no_fault e.tag e.payload v same spells kind fault
      by v same spells kind key (inr (inner, faultless, is, (way, fault))) =
          not_inside inner (inside_front e inner is (v, same, spells)) (spells_no_members way inner key kind fault) (spells_no_items way inner key kind fault)

  inside_stands : (r : RawValue) (inner : List ℕ) (v : Value) → elements_of r ≡ Some inner → SpellsRawValue r v → IsInside inner
  inside_stands (raws.leaf s) inner v is h = absurd (cc)
  inside_stands (raws.array bs) inner v is (vs, spells, same) = in_items _ inner vs is spells
  inside_stands (raws.document bs) inner v is (ms, spells, same) = in_members _ inner ms is spells
  inside_stands (raws.scoped_code t bs) inner v is (ms, spells, same) = in_members _ inner ms is spells

  pub no_tree : (r : RawValue) (result : Result Bson Error) → ConvertsValue r result → IfErr result (TellsFault (λ _ _. (v : Value) → SpellsRawValue r v → ⊥))
  no_tree r (Ok b) h = tt
  no_tree r (Err x) h = told_on (HasFaultInside r) (λ _ _. (v : Value) → SpellsRawValue r v → ⊥) (λ key kind fault v stands. by v stands kind key fault) (fault_key x) x.kind h
    where
      by : (v : Value) → SpellsRawValue r v → (kind : ErrorKind) (key : Option (List ℕ)) → HasFaultInside r key kind → ⊥
      by v stands kind key (inner, is, (way, fault)) = not_inside inner (inside_stands r inner v is stands) (spells_no_members way inner key kind fault) (spells_no_items way inner key kind fault)
