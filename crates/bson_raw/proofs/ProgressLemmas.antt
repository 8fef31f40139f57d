-- How far the conversion of elements has come.
use Rattle.std.proofs.Common.{◌≡◌, ◌≢◌, ℕ, ◌+◌, ◌≤◌, List, [], ◌∷◌, ◌++◌, length, map, Bool, false, Option, None, inl, inr, refl, sym, ap, ◌∙◌, subst, arith}
use Rattle.std.proofs.lemmas.List.{length-append}
use Rattle.bson_base.specs.Value.{Value, Items, no_items, item, Members, no_members, member, put, value_kind}
use Rattle.bson_bytes.specs.Spells.{SpellsValue, SpellsItems, SpellsMembers, settle_value, settle_items, settle}
use Rattle.bson_frame.specs.declared.error.ErrorKind.{ErrorKind}
use Rattle.bson_frame.specs.declared.error.ErrorKind.TheVariants.{MalformedValue, Utf8EncodingError, OutOfMemory}
use Rattle.bson_frame.specs.declared.error.Error.{Error}
use Rattle.bson_frame.specs.View.{fault_key}
use Rattle.std.specs.Prelude.{IsTrue}
use Rattle.bson_frame.specs.Frame.{Element, IsFirstFrame, IsStructuralFault}
use Rattle.bson_model.specs.declared.bson.Bson.{Bson}
use Rattle.bson_model.specs.View.{view, items_of}
use Rattle.bson_raw.specs.Convert.{here, past, into, HasFault, HasFaultIn, Told, TellsFault}
use Rattle.bson_raw.proofs.SettleLemmas.{put_all, put_all_settles}

-- a frame has two bytes more than its payload and what follows it
pub frame_longer : (bytes : List ℕ) (e : Element) (rest : List ℕ) → IsFirstFrame bytes e rest → length e.payload + length rest + 2 ≤ length bytes
frame_longer bytes e rest h =
    let len : length bytes ≡ length e.key + (length e.payload + length rest) + 2 = ap length h.parts ∙ simp length-append (omega arith) in
    omega (arith, len)

-- ---- faults

-- a fault of the rest is one of the whole
abbrev pub LeadsOn : List ℕ → List ℕ → Type 0
LeadsOn bytes rest = (key : Option (List ℕ)) (kind : ErrorKind) → HasFault rest key kind → HasFault bytes key kind

-- the first frame's value is faulty
pub fault_in_first : (bytes : List ℕ) (e : Element) (rest : List ℕ) → IsFirstFrame bytes e rest → (key : Option (List ℕ)) (kind : ErrorKind) → HasFaultIn e key kind → HasFault bytes key kind
fault_in_first bytes e rest first key kind (inl (is, fault)) = subst (λ (k : Option (List ℕ)). HasFault bytes k kind) (sym is) (here, (e, rest, first, refl, fault))
fault_in_first bytes e rest first key kind (inr (inner, faultless, is, (way, fault))) = (into way, (e, rest, inner, first, faultless, is, fault))

pub past_first : (bytes : List ℕ) (e : Element) (rest : List ℕ) (v : Value) → IsFirstFrame bytes e rest → value_kind v ≡ e.tag → SpellsValue e.payload v → LeadsOn bytes rest
past_first bytes e rest v first kind spells key fault_kind (way, fault) = (past way, (e, rest, v, first, kind, spells, fault))

pub told_on : (A B : Option (List ℕ) → ErrorKind → Type 0) → ((key : Option (List ℕ)) (kind : ErrorKind) → A key kind → B key kind) → (key : Option (List ℕ)) (kind : ErrorKind) → Told A key kind → Told B key kind
told_on A B f key MalformedValue h = f key MalformedValue h
told_on A B f key Utf8EncodingError h = f key Utf8EncodingError h
told_on A B f key OutOfMemory h = h

pub told : (A : Option (List ℕ) → ErrorKind → Type 0) (key : Option (List ℕ)) (kind : ErrorKind) → key ≡ None → A None kind → Told A key kind
told A key MalformedValue is h = subst (λ (k : Option (List ℕ)). A k MalformedValue) (sym is) h
told A key Utf8EncodingError is h = subst (λ (k : Option (List ℕ)). A k Utf8EncodingError) (sym is) h
told A key OutOfMemory is h = is

-- no frame where one must be
pub no_frame : (bytes rest : List ℕ) (x : Error) → LeadsOn bytes rest → rest ≢ 0 ∷ [] → IsStructuralFault rest x.kind × (fault_key x ≡ None) → TellsFault (HasFault bytes) x
no_frame bytes rest x on more h = told (HasFault bytes) (fault_key x) x.kind h.1 (on None x.kind (here, (more, h.0)))

-- a fault in the value of an element
pub faulty_element : (bytes rest : List ℕ) (e : Element) (after : List ℕ) (x : Error) → LeadsOn bytes rest → IsFirstFrame rest e after → TellsFault (HasFaultIn e) x → TellsFault (HasFault bytes) x
faulty_element bytes rest e after x on first h = told_on (HasFaultIn e) (HasFault bytes) (λ key kind fault. on key kind (fault_in_first rest e after first key kind fault)) (fault_key x) x.kind h

pub untrue : (b : Bool) → b ≡ false → IsTrue b → ⊥
untrue b e h = cc

-- ---- members

-- what the rest spells, put after what was read, is what all spell, settled; and a fault of the rest is one of all
pub record MembersTo (bytes rest : List ℕ) (d : Members) : Type 0 where
  pub forth : (ms : Members) → SpellsMembers rest ms → (all : Members) × SpellsMembers bytes all × (put_all d ms ≡ settle all)
  pub faults : LeadsOn bytes rest
  pub shorter : length rest ≤ length bytes

pub members_start : (bytes : List ℕ) → MembersTo bytes bytes no_members
members_start bytes = record {
  forth = λ ms h. (ms, h, put_all_settles ms);
  faults = λ key kind h. h;
  shorter = omega arith;
}

pub members_done : (bytes rest : List ℕ) (d : Members) → MembersTo bytes rest d → rest ≡ 0 ∷ [] → (ms : Members) × SpellsMembers bytes ms × (d ≡ settle ms)
members_done bytes rest d p is = p.forth no_members is

pub members_more : (bytes rest : List ℕ) (d new : Members) (e : Element) (after : List ℕ) (v : Value) → MembersTo bytes rest d → IsFirstFrame rest e after → value_kind v ≡ e.tag → SpellsValue e.payload v
    → new ≡ put e.key (settle_value v) d → MembersTo bytes after new
members_more bytes rest d new e after v p first kind value is = record {
  forth = λ ms h. let all = p.forth (member e.key v ms) (e, after, first, refl, kind, value, h) in (all.0, all.1, ap (λ q. put_all q ms) is ∙ all.2);
  faults = λ key k h. p.faults key k (past_first rest e after v first kind value key k h);
  shorter = omega (arith, p.shorter, frame_longer rest e after first);
}

-- ---- the same of items

abbrev pub joined : List Value → Items → Items
joined [] vs = vs
joined (x ∷ xs) vs = item x (joined xs vs)

joined_none : (xs : List Value) → joined xs no_items ≡ items_of xs
joined_none [] = refl
joined_none (x ∷ xs) = ap (item x) (joined_none xs)

joined_more : (xs : List Bson) (b : Bson) (vs : Items) → joined (map view (xs ++ b ∷ [])) vs ≡ joined (map view xs) (item (view b) vs)
joined_more [] b vs = refl
joined_more (x ∷ xs) b vs = ap (item (view x)) (joined_more xs b vs)

pub record ItemsTo (bytes rest : List ℕ) (out : List Bson) : Type 0 where
  pub forth : (vs : Items) → SpellsItems rest vs → (all : Items) × SpellsItems bytes all × (joined (map view out) (settle_items vs) ≡ settle_items all)
  pub faults : LeadsOn bytes rest
  pub shorter : length rest ≤ length bytes

pub items_done : (bytes rest : List ℕ) (out : List Bson) → ItemsTo bytes rest out → rest ≡ 0 ∷ [] → (vs : Items) × SpellsItems bytes vs × (items_of (map view out) ≡ settle_items vs)
items_done bytes rest out p is = let all = p.forth no_items is in (all.0, all.1, sym (joined_none (map view out)) ∙ all.2)

pub items_more : (bytes rest : List ℕ) (out new : List Bson) (e : Element) (after : List ℕ) (b : Bson) (v : Value) → ItemsTo bytes rest out → IsFirstFrame rest e after → value_kind v ≡ e.tag → SpellsValue e.payload v
    → view b ≡ settle_value v → new ≡ out ++ b ∷ [] → ItemsTo bytes after new
items_more bytes rest out new e after b v p first kind value seen is = record {
  forth = λ vs h. let all = p.forth (item v vs) (e, after, first, kind, value, h) in
      (all.0, all.1, ap (λ (q : List Bson). joined (map view q) (settle_items vs)) is ∙ joined_more out b (settle_items vs) ∙ ap (λ (w : Value). joined (map view out) (item w (settle_items vs))) seen ∙ all.2);
  faults = λ key k h. p.faults key k (past_first rest e after v first kind value key k h);
  shorter = omega (arith, p.shorter, frame_longer rest e after first);
}
