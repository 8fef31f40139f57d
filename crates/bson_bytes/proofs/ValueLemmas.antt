-- Payloads of each kind.
use Rattle.std.proofs.Common.{◌≡◌, ◌<◌, ℕ, List, length, take, drop, ◌-◌, false, refl, sym, ap, ◌∙◌, subst, arith}
use Rattle.std.proofs.lemmas.List.{length-drop, take_all}
use Rattle.bson_base.specs.declared.spec.ElementType.{ElementType}
use Rattle.bson_base.specs.declared.spec.ElementType.TheVariants as kinds
use Rattle.bson_base.specs.Kinds.{AreBytes}
use Rattle.bson_base.specs.Tags.{tag_byte}
use Rattle.bson_base.specs.Value.{binary, regex, scalar, array, document, scoped_code, Members}
use Rattle.bson_bytes.specs.Encode.{encode, items_bytes, members_bytes}
use Rattle.bson_bytes.specs.Spells.{Means}
use Rattle.bson_frame.specs.Payload.{IsFaultless, IsPayload}
use Rattle.bson_bytes.specs.Written.{AreItemsSpelled, AreItemsWritten, AreSpelled, AreWritten, HasOneForm, HasOrderedOptions, IsNewBinary, IsSpelled, IsWritten}
use Rattle.bson_bytes.proofs.PayloadLemmas.{binary_back, framed_back, regex_back, scalar_back}
use Rattle.bson_bytes.proofs.ScalarReadLemmas.{HasInner, scalar_read}
use Rattle.bson_bytes.proofs.OneTreeLemmas.{apart, not_array, not_document}

-- what follows the first four bytes
pub all_behind : (p : List ℕ) → take (length p - 4) (drop 4 p) ≡ drop 4 p
all_behind p = take_all (length p - 4) (drop 4 p) (omega (arith, length-drop 4 p))

-- the bytes of a document, and of an array, whose elements are written
pub document_written : (p : List ℕ) (tag : ElementType) → tag ≡ kinds.EmbeddedDocument → AreBytes p → IsPayload tag p → AreWritten (drop 4 p) → IsWritten tag p
document_written p tag is are size inside (scalar s) kind h = absurd (not_document s (kind ∙ is))
document_written p tag is are size inside (array vs) kind h = apart _ _ (ap tag_byte (kind ∙ is)) refl
document_written p tag is are size inside (scoped_code t ms) kind h = apart _ _ (ap tag_byte (kind ∙ is)) refl
document_written p tag is are size inside (document ms) kind h =
    let w = inside ms h in
    (ap document w.0, framed_back p (members_bytes ms) are (subst (λ t. IsPayload t p) is size) w.1)

pub array_written : (p : List ℕ) (tag : ElementType) → tag ≡ kinds.Array → AreBytes p → IsPayload tag p → AreItemsWritten 0 (drop 4 p) → IsWritten tag p
array_written p tag is are size inside (scalar s) kind h = absurd (not_array s (kind ∙ is))
array_written p tag is are size inside (document ms) kind h = apart _ _ (ap tag_byte (kind ∙ is)) refl
array_written p tag is are size inside (scoped_code t ms) kind h = apart _ _ (ap tag_byte (kind ∙ is)) refl
array_written p tag is are size inside (array vs) kind h =
    let w = inside vs h in
    (ap array w.0, framed_back p (items_bytes 0 vs) are (subst (λ t. IsPayload t p) is size) w.1)

pub binary_written : (p : List ℕ) (tag : ElementType) → tag ≡ kinds.Binary → AreBytes p → IsPayload tag p → IsNewBinary p → IsWritten tag p
binary_written p tag is are size new (scalar (binary s bs)) kind h = (refl, binary_back p s bs are (subst (λ t. IsPayload t p) is size) new h.1)
binary_written p tag is are size new (scalar s) kind h = apart _ _ (ap tag_byte (kind ∙ is)) refl
binary_written p tag is are size new (array vs) kind h = apart _ _ (ap tag_byte (kind ∙ is)) refl
binary_written p tag is are size new (document ms) kind h = apart _ _ (ap tag_byte (kind ∙ is)) refl
binary_written p tag is are size new (scoped_code t ms) kind h = apart _ _ (ap tag_byte (kind ∙ is)) refl

pub regex_written : (p : List ℕ) (tag : ElementType) → tag ≡ kinds.RegularExpression → IsPayload tag p → HasOrderedOptions p → IsWritten tag p
regex_written p tag is size ordered (scalar (regex q o)) kind h =
    let w = regex_back p q o (subst (λ t. IsPayload t p) is size) ordered h.1 in (ap scalar w.0, w.1)
regex_written p tag is size ordered (scalar s) kind h = apart _ _ (ap tag_byte (kind ∙ is)) refl
regex_written p tag is size ordered (array vs) kind h = apart _ _ (ap tag_byte (kind ∙ is)) refl
regex_written p tag is size ordered (document ms) kind h = apart _ _ (ap tag_byte (kind ∙ is)) refl
regex_written p tag is size ordered (scoped_code t ms) kind h = apart _ _ (ap tag_byte (kind ∙ is)) refl

pub scalar_written : (p : List ℕ) (tag : ElementType) → AreBytes p → IsPayload tag p → HasOneForm tag → IsWritten tag p
scalar_written p tag are size one (scalar s) kind h =
    let w = scalar_back p s are (subst (λ t. IsPayload t p) (sym kind) size) h.1 (subst HasOneForm (sym kind) one) in
    (ap scalar w.0, w.1)
scalar_written p tag are size one (array vs) kind h = absurd (subst HasOneForm (sym kind) one)
scalar_written p tag are size one (document ms) kind h = absurd (subst HasOneForm (sym kind) one)
scalar_written p tag are size one (scoped_code t ms) kind h = absurd (subst HasOneForm (sym kind) one)

-- ---- what is spelled

pub scalar_spelled : (p : List ℕ) (tag : ElementType) → HasInner tag ≡ false → IsPayload tag p → IsFaultless tag p → IsSpelled tag p 0
scalar_spelled p tag none size whole = let v = scalar_read tag p size whole none in (v.0, v.1, v.2, omega (arith, v.3))

-- what has no levels has no more than any number
pub deeper : (tag : ElementType) (p : List ℕ) (inner : ℕ) → IsSpelled tag p 0 → IsSpelled tag p inner
deeper tag p inner h = (h.0, h.1, h.2, omega (arith, h.3))

pub one_form_inner : (tag : ElementType) → HasOneForm tag → HasInner tag ≡ false
one_form_inner kinds.EmbeddedDocument one = absurd one
one_form_inner kinds.Array one = absurd one
one_form_inner kinds.JavaScriptCodeWithScope one = absurd one
one_form_inner _ one = refl

pub document_spelled : (p : List ℕ) (tag : ElementType) (inner : ℕ) → tag ≡ kinds.EmbeddedDocument → 0 < inner → AreSpelled (drop 4 p) (inner - 1) → IsSpelled tag p inner
document_spelled p tag inner is some h = (document h.0, sym is, h.1, omega (arith, some, h.2))

pub array_spelled : (p : List ℕ) (tag : ElementType) (inner : ℕ) → tag ≡ kinds.Array → 0 < inner → AreItemsSpelled (drop 4 p) (inner - 1) → IsSpelled tag p inner
array_spelled p tag inner is some h = (array h.0, sym is, h.1, omega (arith, some, h.2))

-- a whole document
pub form : (bytes : List ℕ) (d : Members) → AreBytes bytes → AreWritten (drop 4 bytes) → Means bytes d → bytes ≡ encode d
form bytes d are inside means =
    let w = inside means.0 means.2 in
    framed_back bytes (members_bytes means.0) are means.1 w.1 ∙ ap encode (sym (means.3 ∙ w.0))
