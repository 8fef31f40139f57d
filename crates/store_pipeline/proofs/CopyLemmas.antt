-- Elements that are written anew, of documents and of arrays.
use Rattle.std.proofs.Common.{◌≡◌, ◌∙◌, ℕ, suc, ◌+◌, ◌≤◌, ◌<◌, ◌^◌, List, [], ◌∷◌, ◌++◌, length, Bool, true, false, Option, Some, None, is_some, refl, sym, ap, subst, arith, append_assoc, append-nil, length-append}
use Rattle.std.specs.Prelude.{decimal as digits}
use Rattle.bson_base.specs.declared.spec.ElementType.{ElementType}
use Rattle.bson_base.specs.Tags.{tag_byte}
use Rattle.bson_base.specs.Value.{Value, Items, no_items, item, Members, no_members, member, levels, members_levels, value_kind}
use Rattle.bson_bytes.specs.Encode.{cstring_of, items_bytes, members_bytes, value_bytes}
use Rattle.bson_frame.proofs.FrameLemmas.{nothing}
use Rattle.bson_frame.specs.Frame.{Element, IsFirstFrame, HasNoFrame}
use Rattle.store_pipeline.specs.Fields.{fields, inside, item_if, items_inside, member_if, named, rests}
use Rattle.store_pipeline.specs.Views.{Appends, Grows, member_bytes, next_place}
use Rattle.store_pipeline.proofs.FieldPlaceLemmas.{not_longer_place}
use Rattle.store_question.specs.Views.{ComeBack, ComesBack, IsWrittenFor}
use Rattle.store_question.proofs.MemberLemmas.{next, none_left}
use Rattle.store_question.proofs.ProjectionLemmas.{FewCopied, element_bytes, split_front}
use Rattle.store_model.specs.Filter.{under_places, Path}

-- ---- one element

pub whole_grown : (old new : List ℕ) (tag : ElementType) (key payload : List ℕ) → new ≡ (old ++ tag_byte tag ∷ cstring_of key) ++ payload → Grows old new (length key + length payload + 2)
unfolding cstring_of
whole_grown old new tag key payload is = record {
  more = tag_byte tag ∷ (cstring_of key ++ payload);
  is = is ∙ append_assoc old (tag_byte tag ∷ cstring_of key) payload;
  few = omega (arith, length-append (key ++ 0 ∷ []) payload, length-append key (0 ∷ []));
}

pub member_if_bytes : (k : List ℕ) (o : Option Value) (ms : Members) → members_bytes (member_if k o ms) ≡ member_bytes k o ++ members_bytes ms
member_if_bytes k None ms = refl
member_if_bytes k (Some v) ms = ap (λ (x : List ℕ). tag_byte (value_kind v) ∷ x) (sym (append_assoc (cstring_of k) (value_bytes v) (members_bytes ms)))

pub item_if_bytes : (place : ℕ) (o : Option Value) (vs : Items) → items_bytes place (item_if o vs) ≡ member_bytes (digits place) o ++ items_bytes (next_place place (is_some o)) vs
item_if_bytes place None vs = refl
item_if_bytes place (Some v) vs =
    let one : suc place ≡ place + 1 = omega arith in
    ap (λ (x : List ℕ). tag_byte (value_kind v) ∷ x) (sym (append_assoc (cstring_of (digits place)) (value_bytes v) (items_bytes (suc place) vs)))
    ∙ ap (λ n. (tag_byte (value_kind v) ∷ (cstring_of (digits place) ++ value_bytes v)) ++ items_bytes n vs) one

-- appended to what is there, and what is to come behind it
appended : (old new now part tail : List ℕ) → now ≡ new ++ part → new ++ (part ++ tail) ≡ old → now ++ tail ≡ old
appended old new now part tail is e = ap (λ (x : List ℕ). x ++ tail) is ∙ append_assoc new part tail ∙ e

-- ---- how many bytes are written

-- what is appended of an element is no longer than it
pub few_more : (old new left : List ℕ) (n : ℕ) (e : Element) (rest now : List ℕ) (m : ℕ) → IsFirstFrame left e rest → FewCopied old new left n → m ≤ length e.key + length e.payload + 2 → Grows new now m → FewCopied old now rest n
few_more old new left n e rest now m f c small g =
    let whole : length left ≡ length (element_bytes e) + length rest = ap length (split_front left e rest f) ∙ length-append (element_bytes e) rest in
    let size : length (element_bytes e) ≡ length e.key + length e.payload + 2 = omega (arith, length-append e.key (0 ∷ e.payload)) in
    (c.0 ++ g.more, g.is ∙ ap (λ (x : List ℕ). x ++ g.more) c.1 ∙ append_assoc old c.0 g.more, omega (arith, length-append c.0 g.more, c.2, whole, size, g.few, small))

pub shorter : (left : List ℕ) (e : Element) (rest : List ℕ) → IsFirstFrame left e rest → length rest + 2 ≤ length left
shorter left e rest f =
    let whole : length left ≡ length (element_bytes e) + length rest = ap length (split_front left e rest f) ∙ length-append (element_bytes e) rest in
    omega (arith, whole, length-append e.key (0 ∷ e.payload))

pub placed : (place left rest n : ℕ) (b : Bool) (after : ℕ) → after ≡ next_place place b → rest + 2 ≤ left → place + left ≤ n → after + rest ≤ n
placed place left rest n true after is shorter few = omega (arith, is, shorter, few)
placed place left rest n false after is shorter few = omega (arith, is, shorter, few)

module _ (kept : Bool) (ps : List Path) (n : ℕ) where
  -- ---- the elements of a document

  -- what was written, with what is to be written of the members that are left
  pub record FieldsLeft (whole : Members) (old new left : List ℕ) : Type 0 where
    pub rest : Members
    pub ahead : left ≡ members_bytes rest ++ []
    pub back : ComeBack rest
    pub low : members_levels rest ≤ n
    pub written : new ++ members_bytes (fields kept ps rest) ≡ old ++ members_bytes (fields kept ps whole)

  pub fields_start : (whole : Members) (old left : List ℕ) → left ≡ members_bytes whole → ComeBack whole → members_levels whole ≤ n → FieldsLeft whole old old left
  fields_start whole old left is back low = record { rest = whole; ahead = is ∙ sym (append-nil (members_bytes whole)); back = back; low = low; written = refl }

  -- what is left of a field
  abbrev pub field_left : List ℕ → Value → Option Value
  field_left k v = named kept (rests k ps) v (inside kept (rests k ps) v)

  pub field_more : (whole : Members) (old new left : List ℕ) (e : Element) (rest now : List ℕ) (b : Bool) → IsFirstFrame left e rest → FieldsLeft whole old new left
      → ((v : Value) → IsWrittenFor e v → ComesBack v → levels v ≤ n → Appends e.key (field_left e.key v) b new now) → FieldsLeft whole old now rest
  field_more whole old new left e rest now b f l told =
      let one = next left e rest l.rest [] f l.ahead l.back nothing.no_frame in
      let low : members_levels (member e.key one.value one.more) ≤ n = subst (λ (ms : Members). members_levels ms ≤ n) one.is l.low in
      let part = field_left e.key one.value in
      let done = told one.value one.written one.back (omega (arith, low)) in
      record {
        rest = one.more;
        ahead = one.ahead;
        back = one.others;
        low = omega (arith, low);
        written = appended (old ++ members_bytes (fields kept ps whole)) new now (member_bytes e.key part) (members_bytes (fields kept ps one.more)) done.is
            (ap (λ (x : List ℕ). new ++ x) (sym (member_if_bytes e.key part (fields kept ps one.more))) ∙ sym (ap (λ (ms : Members). new ++ members_bytes (fields kept ps ms)) one.is) ∙ l.written);
      }

  pub fields_end : (whole : Members) (old new left : List ℕ) → HasNoFrame left → FieldsLeft whole old new left → new ≡ old ++ members_bytes (fields kept ps whole)
  fields_end whole old new left none l =
      let over : l.rest ≡ no_members = none_left left l.rest [] l.ahead l.back none in
      sym (append-nil new) ∙ sym (ap (λ (ms : Members). new ++ members_bytes (fields kept ps ms)) over) ∙ l.written

  -- ---- the elements of an array

  record NextItem (e : Element) (rest : List ℕ) (index : ℕ) (vs : Items) : Type 0 where
    pub value : Value
    pub more : Items
    pub is : vs ≡ item value more
    pub key : e.key ≡ digits index
    pub written : IsWrittenFor e value
    pub back : ComesBack value
    pub ahead : rest ≡ members_bytes (under_places (suc index) more) ++ []
    pub others : ComeBack (under_places (suc index) more)

  next_item : (left : List ℕ) (e : Element) (rest : List ℕ) (index : ℕ) (vs : Items) → IsFirstFrame left e rest → left ≡ members_bytes (under_places index vs) ++ [] → ComeBack (under_places index vs) → NextItem e rest index vs
  next_item left e rest index no_items f is back = absurd (nothing.no_frame e rest (subst (λ (x : List ℕ). IsFirstFrame x e rest) is f))
  next_item left e rest index (item v vs) f is back =
      let one = next left e rest (member (digits index) v (under_places (suc index) vs)) [] f is back nothing.no_frame in
      let whole : member (digits index) v (under_places (suc index) vs) ≡ member e.key one.value one.more = one.is in
      let value : one.value ≡ v = cc in
      let more : one.more ≡ under_places (suc index) vs = cc in
      record {
        value = v;
        more = vs;
        is = refl;
        key = cc;
        written = subst (λ (w : Value). IsWrittenFor e w) value one.written;
        back = back.1;
        ahead = one.ahead ∙ ap (λ (ms : Members). members_bytes ms ++ []) more;
        others = back.2;
      }

  -- what was written, with what is to be written of the items that are left, from this place on
  pub record ItemsLeft (whole : Items) (old new left : List ℕ) (place : ℕ) : Type 0 where
    pub index : ℕ
    pub rest : Items
    pub ahead : left ≡ members_bytes (under_places index rest) ++ []
    pub back : ComeBack (under_places index rest)
    pub low : members_levels (under_places index rest) ≤ n
    pub placed : place ≤ index
    pub small : index + length left < 2 ^ 31
    pub written : new ++ items_bytes place (items_inside kept ps rest) ≡ old ++ items_bytes 0 (items_inside kept ps whole)

  pub items_start : (whole : Items) (old left : List ℕ) → left ≡ members_bytes (under_places 0 whole) → ComeBack (under_places 0 whole) → members_levels (under_places 0 whole) ≤ n → length left < 2 ^ 31 → ItemsLeft whole old old left 0
  items_start whole old left is back low small = record { index = 0; rest = whole; ahead = is ∙ sym (append-nil (members_bytes (under_places 0 whole))); back = back; low = low; placed = omega arith; small = omega (arith, small); written = refl }

  pub item_more : (whole : Items) (old new left : List ℕ) (place : ℕ) (e : Element) (rest now key : List ℕ) (b : Bool) (after : ℕ) → IsFirstFrame left e rest → ItemsLeft whole old new left place
      → (length (digits place) ≤ length e.key → key ≡ digits place) → after ≡ next_place place b
      → ((v : Value) → IsWrittenFor e v → ComesBack v → levels v ≤ n → Appends key (inside kept ps v) b new now) → ItemsLeft whole old now rest after
  item_more whole old new left place e rest now key b after f l same to told =
      let one = next_item left e rest l.index l.rest f l.ahead l.back in
      let low : members_levels (under_places l.index (item one.value one.more)) ≤ n = subst (λ (vs : Items). members_levels (under_places l.index vs) ≤ n) one.is l.low in
      let part = inside kept ps one.value in
      let done = told one.value one.written one.back (omega (arith, low)) in
      let short : length (digits place) ≤ length e.key = subst (λ (x : List ℕ). length (digits place) ≤ length x) (sym one.key) (not_longer_place l.index place l.placed (omega (arith, l.small))) in
      let part_is : now ≡ new ++ member_bytes (digits place) part = subst (λ (k : List ℕ). now ≡ new ++ member_bytes k part) (same short) done.is in
      let goes : next_place place (is_some part) ≡ after = ap (next_place place) (sym done.told) ∙ sym to in
      record {
        index = suc l.index;
        rest = one.more;
        ahead = one.ahead;
        back = one.others;
        low = omega (arith, low);
        placed = subst (λ m. m ≤ suc l.index) (sym to) (after_place place l.index b l.placed);
        small = omega (arith, l.small, shorter left e rest f);
        written = appended (old ++ items_bytes 0 (items_inside kept ps whole)) new now (member_bytes (digits place) part) (items_bytes after (items_inside kept ps one.more)) part_is
            (ap (λ m. new ++ (member_bytes (digits place) part ++ items_bytes m (items_inside kept ps one.more))) (sym goes)
            ∙ ap (λ (x : List ℕ). new ++ x) (sym (item_if_bytes place part (items_inside kept ps one.more))) ∙ sym (ap (λ (vs : Items). new ++ items_bytes place (items_inside kept ps vs)) one.is) ∙ l.written);
      }
    where
      after_place : (place index : ℕ) (b : Bool) → place ≤ index → next_place place b ≤ suc index
      after_place place index true h = omega (arith, h)
      after_place place index false h = omega (arith, h)

  pub items_end : (whole : Items) (old new left : List ℕ) (place : ℕ) → HasNoFrame left → ItemsLeft whole old new left place → new ≡ old ++ items_bytes 0 (items_inside kept ps whole)
  items_end whole old new left place none l =
      let over = none_left left (under_places l.index l.rest) [] l.ahead l.back none in
      sym (append-nil new) ∙ sym (ap (λ (vs : Items). new ++ items_bytes place (items_inside kept ps vs)) (no_more l.index l.rest over)) ∙ l.written
    where
      no_more : (i : ℕ) (vs : Items) → under_places i vs ≡ no_members → vs ≡ no_items
      no_more i no_items e = refl
      no_more i (item v vs) e = absurd cc
