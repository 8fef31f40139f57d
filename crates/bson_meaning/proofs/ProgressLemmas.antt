-- How far the test of elements has come.
use Rattle.std.proofs.Common.{◌≡◌, ℕ, ◌+◌, ◌≤◌, List, [], ◌∷◌, ◌++◌, drop, refl, ap, sym, ◌∙◌, subst, arith, add-one}
use Rattle.bson_base.specs.Value.{Value, Items, no_items, item, Members, no_members, member, value_kind, levels, items_levels, members_levels}
use Rattle.bson_bytes.specs.Spells.{SpellsValue, SpellsItems, SpellsMembers}
use Rattle.bson_bytes.proofs.OneTreeLemmas.{end_no_frame}
use Rattle.bson_frame.specs.Frame.{Element, IsFirstFrame}
use Rattle.bson_frame.proofs.FrameLemmas.{frame_is_one}
use Rattle.bson_meaning.specs.Gate.{Leads, Nests, HoldsDocument}

-- Frames lead from the elements to this rest. If the rest spells something, all elements spell something that ends in
-- it; and what all spell ends in something that the rest spells.
pub record Progress (body rest : List ℕ) (inner : ℕ) : Type 0 where
  pub leads : (es : List Element) × Leads body es rest
  pub spelled : (ps : Members) → SpellsMembers rest ps → members_levels ps ≤ inner → (qs : Members) × SpellsMembers body qs × (members_levels qs ≤ inner)
  pub only : (qs : Members) → SpellsMembers body qs → (ps : Members) × SpellsMembers rest ps

pub progress_start : (body : List ℕ) (inner : ℕ) → Progress body body inner
progress_start body inner = record {
  leads = ([], refl);
  spelled = λ ps h low. (ps, h, low);
  only = λ qs h. (qs, h);
}

leads_more : (body mid rest : List ℕ) (es : List Element) (e : Element) → Leads body es mid → IsFirstFrame mid e rest → Leads body (es ++ e ∷ []) rest
leads_more body mid rest [] e is first = (rest, subst (λ b. IsFirstFrame b e rest) (sym is) first, refl)
leads_more body mid rest (g ∷ es) e leads first = (leads.0, leads.1, leads_more leads.0 mid rest es e leads.2 first)

pub progress_more : (body mid rest : List ℕ) (inner : ℕ) (e : Element) (v : Value) → Progress body mid inner → IsFirstFrame mid e rest → value_kind v ≡ e.tag → SpellsValue e.payload v → levels v ≤ inner → Progress body rest inner
progress_more body mid rest inner e v so_far first kind value low = record {
  leads = (so_far.leads.0 ++ e ∷ [], leads_more body mid rest so_far.leads.0 e so_far.leads.1 first);
  spelled = λ ps h more. so_far.spelled (member e.key v ps) (e, rest, first, refl, kind, value, h) (omega (arith, low, more));
  only = λ qs h. rest_of (so_far.only qs h).0 (so_far.only qs h).1;
}
  where
    rest_of : (ps : Members) → SpellsMembers mid ps → (ps : Members) × SpellsMembers rest ps
    rest_of no_members h = absurd (end_no_frame mid e rest h first)
    rest_of (member l w ps) h = let same = frame_is_one mid h.0 e h.1 rest h.2 first in (ps, subst (λ r. SpellsMembers r ps) same.1 h.6)

pub progress_done : (body rest : List ℕ) (inner : ℕ) → Progress body rest inner → rest ≡ 0 ∷ [] → (ps : Members) × SpellsMembers body ps × (members_levels ps ≤ inner)
progress_done body rest inner so_far is = so_far.spelled no_members is (omega arith)

pub progress_no_frame : (body rest : List ℕ) (inner : ℕ) → Progress body rest inner → (rest ≡ 0 ∷ [] → ⊥) → ((e : Element) (next : List ℕ) → IsFirstFrame rest e next → ⊥) → (qs : Members) → SpellsMembers body qs → ⊥
progress_no_frame body rest inner so_far more none qs h = at_rest (so_far.only qs h).0 (so_far.only qs h).1
  where
    at_rest : (ps : Members) → SpellsMembers rest ps → ⊥
    at_rest no_members is = more is
    at_rest (member l w ps) h = none h.0 h.1 h.2

pub progress_no_value : (body mid rest : List ℕ) (inner : ℕ) (e : Element) → Progress body mid inner → IsFirstFrame mid e rest → ((v : Value) → value_kind v ≡ e.tag → SpellsValue e.payload v → ⊥) → (qs : Members) → SpellsMembers body qs → ⊥
progress_no_value body mid rest inner e so_far first none qs h = at_rest (so_far.only qs h).0 (so_far.only qs h).1
  where
    at_rest : (ps : Members) → SpellsMembers mid ps → ⊥
    at_rest no_members is = end_no_frame mid e rest is first
    at_rest (member l w ps) h =
        let same = frame_is_one mid h.0 e h.1 rest h.2 first in
        none w (h.4 ∙ ap (λ f. f.tag) same.0) (subst (λ f. SpellsValue f.payload w) same.0 h.5)

pub progress_nests : (body mid rest : List ℕ) (inner : ℕ) (e : Element) (held : List ℕ) → Progress body mid inner → IsFirstFrame mid e rest → HoldsDocument e.tag e.payload held → Nests inner (drop 4 held) → Nests (inner + 1) body
unfolding Nests
progress_nests body mid rest inner e held so_far first holds inside = rw add-one (so_far.leads.0, mid, e, rest, held, so_far.leads.1, first, holds, inside)

-- ---- items are elements whose keys don't count

pub items_of_members : (bytes : List ℕ) (ms : Members) → SpellsMembers bytes ms → (vs : Items) × SpellsItems bytes vs × (items_levels vs ≡ members_levels ms)
items_of_members bytes no_members h = (no_items, h, refl)
items_of_members bytes (member k v ms) h =
    let more = items_of_members h.1 ms h.6 in
    (item v more.0, (h.0, h.1, h.2, h.4, h.5, more.1), omega (arith, more.2))

pub members_of_items : (bytes : List ℕ) (vs : Items) → SpellsItems bytes vs → (ms : Members) × SpellsMembers bytes ms × (members_levels ms ≡ items_levels vs)
members_of_items bytes no_items h = (no_members, h, refl)
members_of_items bytes (item v vs) h =
    let more = members_of_items h.1 vs h.5 in
    (member h.0.key v more.0, (h.0, h.1, h.2, refl, h.3, h.4, more.1), omega (arith, more.2))
