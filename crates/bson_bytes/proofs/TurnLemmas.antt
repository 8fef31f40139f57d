-- One turn over elements.
use Rattle.std.proofs.Common.{arith, ◌≡◌, ℕ, suc, List, [], ◌∷◌, ◌++◌, Bool, true, false, Decides, Option, Some, None, unwrap_or, refl, sym, ap, ◌∙◌, ◌+◌, add-one, subst}
use Rattle.std.specs.Prelude.{if◌then◌else◌, decimal as digits}
use Rattle.std.specs.Borrow.{Bor}
use Rattle.std.specs.List.{list_any}
use mathlib.Core.Bool.{true≢false}
use Rattle.std.specs.Str.{bytes_eq}
use Rattle.std.proofs.lemmas.Slice.Eq.{bytes_eq-Decides}
use Rattle.bson_base.specs.Tags.{tag_byte}
use Rattle.bson_base.specs.Value.{Value, value_kind, no_items, item, Members, no_members, member, look_up, without}
use Rattle.bson_bytes.specs.Encode.{cstring_of, value_bytes, items_bytes, members_bytes}
use Rattle.bson_bytes.specs.Spells.{SpellsValue, SpellsItems, SpellsMembers, settle_value, settle_items, settle}
use Rattle.bson_bytes.proofs.OneTreeLemmas.{end_no_frame}
use Rattle.bson_frame.specs.Frame.{Element, IsFirstFrame}
use Rattle.bson_frame.proofs.FrameLemmas.{frame_is_one}
use Rattle.bson_bytes.specs.Written.{AreAbsent, AreItemsSpelled, AreItemsWritten, AreSpelled, AreWritten, IsAbsent, IsFirstUnder, IsSpelled, IsWritten, IsWrittenUnder}
use Rattle.bson_bytes.proofs.SpellingLemmas.{element_parts}
use Rattle.bson_base.proofs.MemberLemmas.{without_absent}
use Rattle.std.proofs.lemmas.Bool.{or_parts}

-- ---- absent keys

pub end_absent : (k bytes : List ℕ) → bytes ≡ 0 ∷ [] → IsAbsent k bytes
end_absent k bytes is no_members h = refl
end_absent k bytes is (member l v ms) h = absurd (end_no_frame bytes h.0 h.1 is h.2)

other_key : (k l : List ℕ) (v : Value) (ms : Members) → (l ≡ k → ⊥) → look_up k ms ≡ None → look_up k (member l v ms) ≡ None
other_key k l v ms other none = by (bytes_eq k l) (bytes_eq-Decides k l)
  where
    by : (b : Bool) → Decides b (k ≡ l) → (if b then Some v else look_up k ms) ≡ None
    by true told = absurd (other (sym (told.0 refl)))
    by false told = none

pub absent_more : (k bytes next : List ℕ) (e : Element) → IsFirstFrame bytes e next → (e.key ≡ k → ⊥) → IsAbsent k next → IsAbsent k bytes
absent_more k bytes next e first other rest no_members h = refl
absent_more k bytes next e first other rest (member l v ms) h =
    let same = frame_is_one bytes h.0 e h.1 next h.2 first in
    let key : l ≡ e.key = h.3 ∙ ap (λ (f : Element). f.key) same.0 in
    other_key k l v ms (λ is. other (sym key ∙ is)) (rest ms (subst (λ (r : List ℕ). SpellsMembers r ms) same.1 h.6))

-- ---- the keys that were met

pub end_absent_all : (keys : List (Bor (List ℕ))) (bytes : List ℕ) → bytes ≡ 0 ∷ [] → AreAbsent keys bytes
end_absent_all [] bytes is = tt
end_absent_all (met ∷ keys) bytes is = (end_absent met.now bytes is, end_absent_all keys bytes is)

pub absent_all_more : (keys : List (Bor (List ℕ))) (bytes next : List ℕ) (e : Element) → IsFirstFrame bytes e next
    → list_any (λ (met : Bor (List ℕ)). bytes_eq met.now e.key) keys ≡ false → AreAbsent keys next → AreAbsent keys bytes
absent_all_more [] bytes next e first new rest = tt
absent_all_more (met ∷ keys) bytes next e first new rest =
    let n = or_parts (bytes_eq met.now e.key) (list_any (λ (k : Bor (List ℕ)). bytes_eq k.now e.key) keys) new in
    (absent_more met.now bytes next e first (λ is. true≢false (sym ((bytes_eq-Decides met.now e.key).1 (sym is)) ∙ n.0)) rest.0, absent_all_more keys bytes next e first n.1 rest.1)

pub absent_front : (keys : List (Bor (List ℕ))) (last : Bor (List ℕ)) (bytes : List ℕ) → AreAbsent (keys ++ last ∷ []) bytes → AreAbsent keys bytes × IsAbsent last.now bytes
absent_front [] last bytes all = (tt, all.0)
absent_front (met ∷ keys) last bytes all = let more = absent_front keys last bytes all.1 in ((all.0, more.0), more.1)

-- ---- the first of a key

pub first_here : (k bytes next : List ℕ) (e : Element) → IsFirstFrame bytes e next → e.key ≡ k → IsFirstUnder k bytes e
first_here k bytes next e first key no_members h = absurd (end_no_frame bytes e next h first)
first_here k bytes next e first key (member l v ms) h =
    let same = frame_is_one bytes h.0 e h.1 next h.2 first in
    let l_is : k ≡ l = sym (h.3 ∙ ap (λ (f : Element). f.key) same.0 ∙ key) in
    (v, at_key k l v ms l_is, h.4 ∙ ap (λ (f : Element). f.tag) same.0, subst (λ (f : Element). SpellsValue f.payload v) same.0 h.5)
  where
    at_key : (k l : List ℕ) (v : Value) (ms : Members) → k ≡ l → look_up k (member l v ms) ≡ Some v
    at_key k l v ms is = ap (λ (b : Bool). if b then Some v else look_up k ms) ((bytes_eq-Decides k l).1 is)

pub first_behind : (k bytes next : List ℕ) (e f : Element) → IsFirstFrame bytes e next → (e.key ≡ k → ⊥) → IsFirstUnder k next f → IsFirstUnder k bytes f
first_behind k bytes next e f first other rest no_members h = absurd (end_no_frame bytes e next h first)
first_behind k bytes next e f first other rest (member l v ms) h =
    let same = frame_is_one bytes h.0 e h.1 next h.2 first in
    let key : l ≡ e.key = h.3 ∙ ap (λ (g : Element). g.key) same.0 in
    let r = rest ms (subst (λ (b : List ℕ). SpellsMembers b ms) same.1 h.6) in
    (r.0, passed k l v ms (λ is. other (sym key ∙ is)) ∙ r.1, r.2, r.3)
  where
    passed : (k l : List ℕ) (v : Value) (ms : Members) → (l ≡ k → ⊥) → look_up k (member l v ms) ≡ look_up k ms
    passed k l v ms other = by (bytes_eq k l) (bytes_eq-Decides k l)
      where
        by : (b : Bool) → Decides b (k ≡ l) → (if b then Some v else look_up k ms) ≡ look_up k ms
        by true told = absurd (other (sym (told.0 refl)))
        by false told = refl

pub under : (k elements : List ℕ) (e : Element) → IsFirstUnder k elements e → IsWritten e.tag e.payload → (ms : Members) → SpellsMembers elements ms → IsWrittenUnder k ms e
under k elements e first written ms h =
    let f = first ms h in
    (f.0, f.1, f.2, (written f.0 f.2 f.3).1)

-- ---- members

settled : (k : List ℕ) (v : Value) (ms : Members) → settle_value v ≡ v → settle ms ≡ ms → look_up k ms ≡ None → settle (member k v ms) ≡ member k v ms
settled k v ms value rest none =
    let absent : look_up k (settle ms) ≡ None = ap (look_up k) rest ∙ none in
    ap (λ (o : Option Value). member k (unwrap_or o (settle_value v)) (without k (settle ms))) absent
    ∙ ap (λ (w : Value). member k w (without k (settle ms))) value
    ∙ ap (λ (ns : Members). member k v (without k ns)) rest ∙ ap (member k v) (without_absent k ms none)

-- an element whose payload and whose rest are written
module _ (bytes next : List ℕ) (e : Element) (first : IsFirstFrame bytes e next) (k : List ℕ) (v : Value) (more : List ℕ)
    (key : e.key ≡ k) (tag : value_kind v ≡ e.tag) (payload : e.payload ≡ value_bytes v) (rest : next ≡ more ++ 0 ∷ []) where
  joined : bytes ≡ (tag_byte (value_kind v) ∷ (cstring_of k ++ (value_bytes v ++ more))) ++ 0 ∷ []
  joined =
      first.parts
      ∙ ap (λ t. tag_byte t ∷ (e.key ++ 0 ∷ (e.payload ++ next))) (sym tag)
      ∙ ap (λ (x : List ℕ). tag_byte (value_kind v) ∷ (x ++ 0 ∷ (e.payload ++ next))) key
      ∙ ap (λ (x : List ℕ). tag_byte (value_kind v) ∷ (k ++ 0 ∷ (x ++ next))) payload
      ∙ ap (λ (x : List ℕ). tag_byte (value_kind v) ∷ (k ++ 0 ∷ (value_bytes v ++ x))) rest
      ∙ sym (element_parts (tag_byte (value_kind v)) k (value_bytes v) more)

pub end_written : (bytes : List ℕ) → bytes ≡ 0 ∷ [] → AreWritten bytes
end_written bytes is no_members h = (refl, h)
end_written bytes is (member l v ms) h = absurd (end_no_frame bytes h.0 h.1 is h.2)

pub written_more : (bytes next : List ℕ) (e : Element) → IsFirstFrame bytes e next → IsWritten e.tag e.payload → IsAbsent e.key next → AreWritten next → AreWritten bytes
written_more bytes next e first payload absent rest no_members h = absurd (end_no_frame bytes e next h first)
written_more bytes next e first payload absent rest (member l v ms) h =
    let same = frame_is_one bytes h.0 e h.1 next h.2 first in
    let key : l ≡ e.key = h.3 ∙ ap (λ (f : Element). f.key) same.0 in
    let tag : value_kind v ≡ e.tag = h.4 ∙ ap (λ (f : Element). f.tag) same.0 in
    let value = payload v tag (subst (λ (f : Element). SpellsValue f.payload v) same.0 h.5) in
    let behind = subst (λ (r : List ℕ). SpellsMembers r ms) same.1 h.6 in
    let more = rest ms behind in
    let none : look_up l ms ≡ None = ap (λ (k : List ℕ). look_up k ms) key ∙ absent ms behind in
    (settled l v ms value.0 more.0 none, joined bytes next e first l v (members_bytes ms) (sym key) tag value.1 more.1)

-- ---- items

pub end_items_written : (i : ℕ) (bytes : List ℕ) → bytes ≡ 0 ∷ [] → AreItemsWritten i bytes
end_items_written i bytes is no_items h = (refl, h)
end_items_written i bytes is (item v vs) h = absurd (end_no_frame bytes h.0 h.1 is h.2)

pub items_written_more : (i : ℕ) (bytes next : List ℕ) (e : Element) → IsFirstFrame bytes e next → IsWritten e.tag e.payload → e.key ≡ digits i → AreItemsWritten (i + 1) next → AreItemsWritten i bytes
items_written_more i bytes next e first payload key rest no_items h = absurd (end_no_frame bytes e next h first)
items_written_more i bytes next e first payload key rest (item v vs) h =
    let same = frame_is_one bytes h.0 e h.1 next h.2 first in
    let tag : value_kind v ≡ e.tag = h.3 ∙ ap (λ (f : Element). f.tag) same.0 in
    let value = payload v tag (subst (λ (f : Element). SpellsValue f.payload v) same.0 h.4) in
    let more = (subst (λ (j : ℕ). AreItemsWritten j next) (add-one i) rest) vs (subst (λ (r : List ℕ). SpellsItems r vs) same.1 h.5) in
    let items : settle_items (item v vs) ≡ item v vs = ap (λ (w : Value). item w (settle_items vs)) value.0 ∙ ap (item v) more.0 in
    (items, joined bytes next e first (digits i) v (items_bytes (suc i) vs) key tag value.1 more.1)

-- ---- what is spelled

pub end_spelled : (bytes : List ℕ) (inner : ℕ) → bytes ≡ 0 ∷ [] → AreSpelled bytes inner
end_spelled bytes inner is = (no_members, is, omega arith)

pub spelled_more : (bytes next : List ℕ) (inner : ℕ) (e : Element) → IsFirstFrame bytes e next → IsSpelled e.tag e.payload inner → AreSpelled next inner → AreSpelled bytes inner
spelled_more bytes next inner e first p rest = (member e.key p.0 rest.0, (e, next, first, refl, p.1, p.2, rest.1), omega (arith, p.3, rest.2))

pub end_items_spelled : (bytes : List ℕ) (inner : ℕ) → bytes ≡ 0 ∷ [] → AreItemsSpelled bytes inner
end_items_spelled bytes inner is = (no_items, is, omega arith)

pub items_spelled_more : (bytes next : List ℕ) (inner : ℕ) (e : Element) → IsFirstFrame bytes e next → IsSpelled e.tag e.payload inner → AreItemsSpelled next inner → AreItemsSpelled bytes inner
items_spelled_more bytes next inner e first p rest = (item p.0 rest.0, (e, next, first, p.1, p.2, rest.1), omega (arith, p.3, rest.2))
