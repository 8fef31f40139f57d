-- What is written with its length put in afterwards.
use Rattle.std.proofs.Common.{◌≡◌, ℕ, zero, suc, ◌+◌, ◌^◌, ◌<◌, ◌≤◌, List, [], ◌∷◌, ◌++◌, length, map, get_or, drop, Result, OnOk, OnErr, IfErr, add-one, refl, sym, ap, ◌∙◌, subst, arith, append-nil, append_assoc, length-append}
use Rattle.std.specs.Prelude.{decimal}
use Rattle.std.proofs.Math.Seq.{drop-cons}
use Rattle.std.proofs.lemmas.Result.{on_ok_weaker, on_err_weaker, IfErr-weaker}
use Rattle.bson_base.specs.Kinds.{IsPlain, HasNo00}
use Rattle.bson_base.specs.Tags.{tag_byte}
use Rattle.bson_base.specs.Value.{Value, value_kind, array, Items, item, no_items, Members, member}
use Rattle.bson_bytes.specs.Encode.{le32, cstring_of, frame_of, scope_frame_of, text_bytes, value_bytes, value_size, items_bytes, members_bytes}
use Rattle.bson_bytes.specs.Writing.{CanBeWritten, IsWriteRefusal, RefusesWriting, StartsWith}
use Rattle.bson_bytes.proofs.ExtentLemmas.{framed_envelope}
use Rattle.bson_frame.specs.Payload.{IsEnvelope}
use Rattle.bson_bytes.proofs.WritingLemmas.{ItemsTo, MembersTo}
use Rattle.bson_frame.specs.declared.error.Error.{Error}
use Rattle.bson_frame.specs.declared.error.ErrorKind.{ErrorKind}
use Rattle.bson_frame.specs.declared.error.ErrorKind.TheVariants.{MalformedValue, Utf8EncodingError, OutOfMemory}
use Rattle.bson_frame.specs.View.{IsBare}
use Rattle.bson_model.specs.declared.bson.Bson.{Bson}
use Rattle.bson_model.specs.View.{view, items_of}

-- room for a length
abbrev pub room : List ℕ
room = 0 ∷ 0 ∷ 0 ∷ 0 ∷ []

-- the elements after the room for their length, and the final 00
pub written_in : (old begun out new body : List ℕ) → begun ≡ old ++ room → out ++ [] ≡ begun ++ body → new ≡ out ++ 0 ∷ [] → new ≡ old ++ (room ++ (body ++ 0 ∷ []))
written_in old begun out new body s e is =
    is ∙ ap (λ (x : List ℕ). x ++ 0 ∷ []) (sym (append-nil out) ∙ e ∙ ap (λ (x : List ℕ). x ++ body) s) ∙ append_assoc (old ++ room) body (0 ∷ []) ∙ append_assoc old room (body ++ 0 ∷ [])

-- with their length in its place they are a document
pub framed_ok : (r : Result (Unit {0}) Error) (old new body : List ℕ) → OnOk r (new ≡ old ++ (le32 (length (body ++ 0 ∷ []) + 4) ++ (body ++ 0 ∷ []))) → OnOk r (new ≡ old ++ frame_of body)
unfolding frame_of
framed_ok r old new body h =
    let len : length (body ++ 0 ∷ []) + 4 ≡ length body + 5 = omega (arith, length-append {A = ℕ} body (0 ∷ [])) in
    on_ok_weaker r (λ is. is ∙ ap (λ n. old ++ (le32 n ++ (body ++ 0 ∷ []))) len) h

-- a code and its scope after the room for their length
pub scoped_in : (old begun with_text new t scope : List ℕ) → begun ≡ old ++ room → with_text ≡ begun ++ text_bytes t → new ≡ with_text ++ scope → new ≡ old ++ (room ++ (text_bytes t ++ scope))
scoped_in old begun with_text new t scope s e is =
    is ∙ ap (λ (x : List ℕ). x ++ scope) (e ∙ ap (λ (x : List ℕ). x ++ text_bytes t) s) ∙ append_assoc (old ++ room) (text_bytes t) scope ∙ append_assoc old room (text_bytes t ++ scope)

pub scoped_ok : (r : Result (Unit {0}) Error) (old new t scope : List ℕ) → OnOk r (new ≡ old ++ (le32 (length (text_bytes t ++ scope) + 4) ++ (text_bytes t ++ scope))) → OnOk r (new ≡ old ++ scope_frame_of t scope)
unfolding scope_frame_of
scoped_ok r old new t scope h = h

-- if put_length had no fault, the value isn't too long
pub short_ok : (r : Result (Unit {0}) Error) (v : Value) (old whole after : List ℕ) (start : ℕ) → start ≡ length old → whole ≡ old ++ (room ++ after) → value_size v ≡ length after + 4 → IsPlain v
    → OnOk r (length whole < start + 2 ^ 31) → OnOk r (CanBeWritten v)
short_ok r v old whole after start s e n plain h =
    let l = ap length e in
    on_ok_weaker r (λ short. (plain, omega (arith, short, s, l, n, length-append {A = ℕ} old (room ++ after)))) h

-- if put_length refuses, it is
pub long_refused : (r : Result (Unit {0}) Error) (v : Value) (old whole after : List ℕ) (start : ℕ) → start ≡ length old → whole ≡ old ++ (room ++ after) → value_size v ≡ length after + 4
    → IfErr r (λ e. IsBare MalformedValue e × (start + 2 ^ 31 ≤ length whole)) → IfErr r (IsWriteRefusal (CanBeWritten v → ⊥))
long_refused r v old whole after start s e n h =
    let l = ap length e in
    let told : (f : Error) → IsBare MalformedValue f × (start + 2 ^ 31 ≤ length whole) → IsWriteRefusal (CanBeWritten v → ⊥) f = λ f b.
    let too_long : CanBeWritten v → ⊥ = λ can. omega (arith, can.1, b.1, s, l, n, length-append {A = ℕ} old (room ++ after)) in
    let is = b.0.0 in (rw is too_long, b.0.1) in
    IfErr-weaker r _ _ told h

-- and nothing from before is gone
pub begun_kept : (r : Result (Unit {0}) Error) (old whole new more : List ℕ) → whole ≡ old ++ more → OnErr r (new ≡ whole) → OnErr r (StartsWith new old)
begun_kept r old whole new more e h = on_err_weaker r (λ is. (more, is ∙ e)) h

-- what is a document's, and short, declares its own length and ends in 00
pub written_envelope : (bytes body : List ℕ) → bytes ≡ frame_of body → length body + 5 < 2 ^ 31 → IsEnvelope bytes
written_envelope bytes body e h = subst IsEnvelope (sym e) (framed_envelope body h)

-- ---- items by index

pub items_from : (xs : List Bson) (i : ℕ) (b : Bson) → i < length xs → b ≡ get_or xs i b → items_of (map view (drop i xs)) ≡ item (view b) (items_of (map view (drop (i + 1) xs)))
items_from xs i b h is = ap (λ ys. items_of (map view ys)) (drop-cons xs i b h) ∙ rw (← is, add-one)

pub no_items_left : (xs : List Bson) (i : ℕ) → length xs ≤ i → items_of (map view (drop i xs)) ≡ no_items
no_items_left [] zero h = refl
no_items_left [] (suc i) h = refl
no_items_left (x ∷ xs) zero h = absurd (omega arith)
no_items_left (x ∷ xs) (suc i) h = no_items_left xs i (omega arith)

-- the first of the items that are left, taken out
pub next_item : (whole : Items) (xs : List Bson) (i : ℕ) (b : Bson) (begun out : List ℕ) → i < length xs → b ≡ get_or xs i b → ItemsTo whole i (items_of (map view (drop i xs))) begun out
    → ItemsTo whole i (item (view b) (items_of (map view (drop (i + 1) xs)))) begun out
next_item whole xs i b begun out h is to = subst (λ vs. ItemsTo whole i vs begun out) (items_from xs i b h is) to

pub item_refused : (whole rest : Items) (i : ℕ) (v : Value) (begun out : List ℕ) (e : Error) → ItemsTo whole i (item v rest) begun out → IsWriteRefusal (CanBeWritten v → ⊥) e → IsWriteRefusal (CanBeWritten (array whole) → ⊥) e
item_refused whole rest i v begun out e to h = (weaker e.kind h.0, h.1)
  where
    weaker : (kind : ErrorKind) → RefusesWriting (CanBeWritten v → ⊥) kind → RefusesWriting (CanBeWritten (array whole) → ⊥) kind
    weaker MalformedValue never = λ can. never ((to.back can.0).0, omega (arith, can.1, to.smaller))
    weaker Utf8EncodingError never = never
    weaker OutOfMemory never = tt

pub item_written : (whole rest : Items) (i : ℕ) (v : Value) (begun out after_place now : List ℕ) → ItemsTo whole i (item v rest) begun out → after_place ≡ out ++ tag_byte (value_kind v) ∷ cstring_of (decimal i) → now ≡ after_place ++ value_bytes v → IsPlain v
    → ItemsTo whole (i + 1) rest begun now
item_written whole rest i v begun out after_place now to place is plain =
    let front = tag_byte (value_kind v) ∷ cstring_of (decimal i) in
    let one : now ++ items_bytes (i + 1) rest ≡ out ++ (front ++ (value_bytes v ++ items_bytes (i + 1) rest)) =
    ap (λ (x : List ℕ). x ++ items_bytes (i + 1) rest) (is ∙ ap (λ (x : List ℕ). x ++ value_bytes v) place) ∙ append_assoc (out ++ front) (value_bytes v) (items_bytes (i + 1) rest) ∙ append_assoc out front (value_bytes v ++ items_bytes (i + 1) rest) in
    record {
      written = one ∙ rw add-one to.written;
      forth = λ h. to.forth (plain, h);
      back = λ h. (to.back h).1;
      smaller = rw add-one (omega (arith, to.smaller));
      behind = (to.behind.0 ++ (front ++ value_bytes v), is ∙ ap (λ (x : List ℕ). x ++ value_bytes v) (place ∙ ap (λ (x : List ℕ). x ++ front) to.behind.1 ∙ append_assoc begun to.behind.0 front) ∙ append_assoc begun (to.behind.0 ++ front) (value_bytes v) ∙ ap (λ (x : List ℕ). begun ++ x) (append_assoc to.behind.0 front (value_bytes v)));
    }

-- a member is written behind its front: the first of those that are left
pub member_written : (whole left rest : Members) (k : List ℕ) (v : Value) (begun out front_out now : List ℕ) → MembersTo whole left begun out → left ≡ member k v rest → front_out ≡ out ++ tag_byte (value_kind v) ∷ cstring_of k → now ≡ front_out ++ value_bytes v → HasNo00 k → IsPlain v
    → MembersTo whole rest begun now
member_written whole left rest k v begun out front_out now before first place is named plain =
    let to : MembersTo whole (member k v rest) begun out = subst (λ (ms : Members). MembersTo whole ms begun out) first before in
    let front = tag_byte (value_kind v) ∷ cstring_of k in
    let one : now ++ members_bytes rest ≡ out ++ (front ++ (value_bytes v ++ members_bytes rest)) =
    ap (λ (x : List ℕ). x ++ members_bytes rest) (is ∙ ap (λ (x : List ℕ). x ++ value_bytes v) place) ∙ append_assoc (out ++ front) (value_bytes v) (members_bytes rest) ∙ append_assoc out front (value_bytes v ++ members_bytes rest) in
    record {
      written = one ∙ to.written;
      forth = λ h. to.forth (named, plain, h);
      back = λ h. (to.back h).2;
      smaller = omega (arith, to.smaller);
      behind = (to.behind.0 ++ (front ++ value_bytes v), is ∙ ap (λ (x : List ℕ). x ++ value_bytes v) (place ∙ ap (λ (x : List ℕ). x ++ front) to.behind.1 ∙ append_assoc begun to.behind.0 front) ∙ append_assoc begun (to.behind.0 ++ front) (value_bytes v) ∙ ap (λ (x : List ℕ). begun ++ x) (append_assoc to.behind.0 front (value_bytes v)));
    }
