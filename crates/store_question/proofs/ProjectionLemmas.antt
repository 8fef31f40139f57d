-- Elements that are copied if their keys are listed.
use Rattle.std.proofs.Common.{◌≡◌, ℕ, ◌+◌, ◌-◌, ◌≤◌, List, [], ◌∷◌, ◌++◌, length, take, drop, true, false, cond, ◌||◌, String, string_bytes, bytes_eq, refl, sym, ap, ◌∙◌, arith, append_assoc, append-nil, length-append, slice_range}
use Rattle.std.specs.declared.alloc.Global.{Global}
use Rattle.std.specs.List.{list_any}
use Rattle.std.proofs.Math.Seq.{take-append_seam}
use Rattle.bson_base.specs.Tags.{tag_byte}
use Rattle.bson_base.specs.Value.{Value, Members, no_members, member, value_kind}
use Rattle.bson_bytes.specs.Encode.{le32, cstring_of, frame_of, members_bytes}
use Rattle.bson_bytes.proofs.LengthLemmas.{framed_length}
use Rattle.bson_bytes.proofs.SpellingLemmas.{framed_inside}
use Rattle.bson_frame.proofs.FrameLemmas.{nothing}
use Rattle.bson_frame.specs.Frame.{Element, IsFirstFrame, HasNoFrame}
use Rattle.store_question.specs.Filters.{path_of}
use Rattle.store_question.specs.Views.{ComeBack, IsWrittenFor}
use Rattle.store_question.proofs.MemberLemmas.{Next, next, none_left}
use Rattle.store_model.specs.Filter.{Path}
use Rattle.store_model.specs.State.{only}

-- ---- a key in the list

pub any_mapped : (key : List ℕ) (keys : List (String Global)) → list_any (λ k. bytes_eq key (string_bytes k)) keys ≡ list_any (bytes_eq key) (path_of keys)
any_mapped key [] = refl
any_mapped key (k ∷ keys) = ap (λ b. bytes_eq key (string_bytes k) || b) (any_mapped key keys)

-- ---- an element by its bytes

abbrev pub element_bytes : Element → List ℕ
element_bytes e = tag_byte e.tag ∷ (e.key ++ 0 ∷ e.payload)

pub split_front : (bytes : List ℕ) (e : Element) (rest : List ℕ) → IsFirstFrame bytes e rest → bytes ≡ element_bytes e ++ rest
split_front bytes e rest f = f.parts ∙ sym (ap (λ (x : List ℕ). tag_byte e.tag ∷ x) (append_assoc e.key (0 ∷ e.payload) rest))

pub front_taken : (bytes front rest : List ℕ) → bytes ≡ front ++ rest → take (length bytes - length rest) bytes ≡ front
front_taken bytes front rest is =
    let l : length bytes - length rest ≡ length front = omega (arith, ap length is, length-append front rest) in
    ap (λ n. take n bytes) l ∙ ap (take (length front)) is ∙ take-append_seam front rest

member_front : (e : Element) (v : Value) (ms : Members) → IsWrittenFor e v → members_bytes (member e.key v ms) ≡ element_bytes e ++ members_bytes ms
unfolding cstring_of
member_front e v ms w =
    let tail = members_bytes ms in
    let grouped : tag_byte e.tag ∷ ((e.key ++ 0 ∷ e.payload) ++ tail) ≡ tag_byte e.tag ∷ ((e.key ++ 0 ∷ []) ++ (e.payload ++ tail)) = ap (λ (x : List ℕ). tag_byte e.tag ∷ x) (append_assoc e.key (0 ∷ e.payload) tail ∙ sym (append_assoc e.key (0 ∷ []) (e.payload ++ tail))) in
    sym (grouped ∙ ap (λ t. tag_byte t ∷ ((e.key ++ 0 ∷ []) ++ (e.payload ++ tail))) w.kind ∙ ap (λ (x : List ℕ). tag_byte (value_kind v) ∷ ((e.key ++ 0 ∷ []) ++ (x ++ tail))) w.payload)

-- ---- turns of the loop

-- what was copied, with what is to be copied of the members that are left
pub record Copying (keys : Path) (whole : Members) (old new left : List ℕ) : Type 0 where
  pub rest : Members
  pub ahead : left ≡ members_bytes rest ++ []
  pub back : ComeBack rest
  pub copied : new ++ members_bytes (only keys rest) ≡ old ++ members_bytes (only keys whole)

module _ (keys : Path) (whole : Members) (old new left : List ℕ) (e : Element) (rest : List ℕ) (f : IsFirstFrame left e rest) (c : Copying keys whole old new left) where
  one : Next e rest c.rest []
  one = next left e rest c.rest [] f c.ahead c.back nothing.no_frame

  goal_so_far : new ++ members_bytes (cond (list_any (bytes_eq e.key) keys) (member e.key one.value (only keys one.more)) (only keys one.more)) ≡ old ++ members_bytes (only keys whole)
  goal_so_far = sym (ap (λ (ms : Members). new ++ members_bytes (only keys ms)) one.is) ∙ c.copied

  pub copied_one : list_any (bytes_eq e.key) keys ≡ true → (now front : List ℕ) → front ≡ element_bytes e → now ≡ new ++ front → Copying keys whole old now rest
  copied_one listed now front is e_now = record {
    rest = one.more;
    ahead = one.ahead;
    back = one.others;
    copied =
        let tail = members_bytes (only keys one.more) in
        let told = ap (λ b. new ++ members_bytes (cond b (member e.key one.value (only keys one.more)) (only keys one.more))) (sym listed) ∙ goal_so_far in
        ap (λ (x : List ℕ). x ++ tail) (e_now ∙ ap (λ (x : List ℕ). new ++ x) is) ∙ append_assoc new (element_bytes e) tail ∙ ap (λ (x : List ℕ). new ++ x) (sym (member_front e one.value (only keys one.more) one.written)) ∙ told;
  }

  pub left_out : list_any (bytes_eq e.key) keys ≡ false → Copying keys whole old new rest
  left_out listed = record {
    rest = one.more;
    ahead = one.ahead;
    back = one.others;
    copied = ap (λ b. new ++ members_bytes (cond b (member e.key one.value (only keys one.more)) (only keys one.more))) (sym listed) ∙ goal_so_far;
  }

pub copy_end : (keys : Path) (whole : Members) (old new left : List ℕ) → HasNoFrame left → Copying keys whole old new left → new ≡ old ++ members_bytes (only keys whole)
copy_end keys whole old new left none c =
    let over : c.rest ≡ no_members = none_left left c.rest [] c.ahead c.back none in
    sym (append-nil new) ∙ sym (ap (λ (ms : Members). new ++ members_bytes (only keys ms)) over) ∙ c.copied

-- ---- how many bytes were copied

-- what was copied and what is left are together at most n bytes
abbrev pub FewCopied : List ℕ → List ℕ → List ℕ → ℕ → Type 0
FewCopied old new left n = (more : List ℕ) × (new ≡ old ++ more) × (length more + length left ≤ n)

pub few_copied : (old new left : List ℕ) (n : ℕ) (e : Element) (rest now front : List ℕ) → IsFirstFrame left e rest → FewCopied old new left n → front ≡ element_bytes e → now ≡ new ++ front → FewCopied old now rest n
few_copied old new left n e rest now front f c is e_now =
    let l : length left ≡ length front + length rest = ap length (split_front left e rest f) ∙ length-append (element_bytes e) rest ∙ ap (λ (x : List ℕ). length x + length rest) (sym is) in
    (c.0 ++ front, e_now ∙ ap (λ (x : List ℕ). x ++ front) c.1 ∙ append_assoc old c.0 front, omega (arith, length-append c.0 front, c.2, l))

pub few_left_out : (old new left : List ℕ) (n : ℕ) (e : Element) (rest : List ℕ) → IsFirstFrame left e rest → FewCopied old new left n → FewCopied old new rest n
few_left_out old new left n e rest f c =
    let l : length left ≡ length (element_bytes e) + length rest = ap length (split_front left e rest f) ∙ length-append (element_bytes e) rest in
    (c.0, c.1, omega (arith, c.2, l))

-- ---- the whole

pub body_inside : (bytes body : List ℕ) → bytes ≡ frame_of body → slice_range bytes 4 (length bytes - 1) ≡ body
body_inside bytes body is =
    let l : length bytes - 1 - 4 ≡ length body = omega (arith, ap length is, framed_length body) in
    ap (λ n. take n (drop 4 bytes)) l ∙ ap (λ (x : List ℕ). take (length body) (drop 4 x)) is ∙ ap (take (length body)) (framed_inside body) ∙ take-append_seam body (0 ∷ [])

pub framed_now : (more now : List ℕ) → now ≡ le32 (length (more ++ 0 ∷ []) + 4) ++ (more ++ 0 ∷ []) → now ≡ frame_of more
unfolding frame_of
framed_now more now is = is ∙ ap (λ n. le32 n ++ (more ++ 0 ∷ [])) (omega (arith, length-append more (0 ∷ [])))
