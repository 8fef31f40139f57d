-- Bodies of documents, and views of them.
use Rattle.std.proofs.Common.{◌≡◌, ◌∙◌, Bool, ℕ, ◌+◌, ◌<◌, ◌^◌, ◌≤◌, zero, suc, List, [], ◌∷◌, length, get_or, refl, sym, ap, subst, arith, Vec, lit<, String}
use Rattle.std.specs.declared.alloc.Global.{Global}
use Rattle.bson_base.specs.Value.{Members, no_members, document}
use Rattle.bson_bytes.specs.Encode.{encode, frame_of, members_bytes, le32}
use Rattle.bson_bytes.proofs.LengthLemmas.{encode_length, framed_length}
use Rattle.bson_bytes.proofs.WrittenLemmas.{written_envelope}
use Rattle.bson_frame.specs.Payload.{IsEnvelope}
use Rattle.bson_raw.specs.declared.bson_ref.RawBsonRef.{RawBsonRef}
use Rattle.bson_raw.specs.declared.bson_ref.RawBsonRef.TheVariants as views
use Rattle.bson_raw.specs.declared.document.RawDocument.{RawDocument}
use Rattle.bson_raw.specs.View.{bytes_of}
use Rattle.store_question.specs.Filters.{path_of}
use Rattle.store_question.specs.Reads.{Found}
use Rattle.store_pipeline.proofs.PlaceLemmas.{zip_at, zip_long}
use Rattle.store_pipeline.specs.Bodies.{AreBodies, document_at, IsBody}
use Rattle.store_pipeline.specs.Order.{sorted_by}

pub body_envelope : (bytes : List ℕ) (d : Members) → IsBody bytes d → IsEnvelope bytes
body_envelope bytes d b =
    let short = b.back.short in
    let long : length (members_bytes d) + 5 < 2 ^ 31 = omega (arith, short, framed_length (members_bytes d), encode_length d) in
    written_envelope bytes (members_bytes d) b.written long

-- the view of a body
pub viewed : (view : RawDocument) (bytes : List ℕ) (d : Members) → bytes_of view ≡ bytes → IsBody bytes d → IsBody (bytes_of view) d
viewed view bytes d e b = subst (λ (x : List ℕ). IsBody x d) (sym e) b

pub document_found : (view : RawDocument) (d : Members) → IsBody (bytes_of view) d → Found (views.Document view) (document d)
document_found view d b = record { encodes = (d, refl, b.written); back = b.back; low = b.low }

pub found_under : (raw : RawBsonRef) (slice path : List (String Global)) (descending : Bool) (d : Members) → slice ≡ path → Found raw (sorted_by (path_of slice) descending d) → Found raw (sorted_by (path_of path) descending d)
found_under raw slice path descending d e f = subst (λ (p : List (String Global)). Found raw (sorted_by (path_of p) descending d)) e f

-- ---- the body at a place

pub body_there : (bodies : List (Vec ℕ Global)) (ds : List Members) (place : ℕ) (one : Vec ℕ Global) (bytes : List ℕ) → AreBodies bodies ds → place < length bodies → one ≡ get_or bodies place one → bytes ≡ one.items → IsBody bytes (document_at ds place)
body_there bodies ds place one bytes are inside read shown =
    subst (λ (x : List ℕ). IsBody x (document_at ds place)) (ap (λ (v : Vec ℕ Global). v.items) (sym read) ∙ sym shown) (zip_at (λ b d. IsBody b.items d) place bodies ds one no_members are inside)

past : (ds : List Members) (place : ℕ) → length ds ≤ place → no_members ≡ document_at ds place
past [] place h = refl
past (d ∷ ds) zero h = absurd (omega (arith, h))
past (d ∷ ds) (suc place) h = past ds place (omega (arith, h))

empty_bytes : (5 ∷ 0 ∷ 0 ∷ 0 ∷ 0 ∷ []) ≡ encode no_members
unfolding frame_of le32
empty_bytes = refl

pub empty_there : (bodies : List (Vec ℕ Global)) (ds : List Members) (place : ℕ) (bytes : List ℕ) → AreBodies bodies ds → length bodies ≤ place → bytes ≡ 5 ∷ 0 ∷ 0 ∷ 0 ∷ 0 ∷ [] → IsBody bytes (document_at ds place)
empty_there bodies ds place bytes are h is =
    let long = zip_long (λ b d. IsBody b.items d) bodies ds are in
    subst (λ (d : Members). IsBody bytes d) (past ds place (omega (arith, h, long)))
    (record { written = is ∙ empty_bytes; back = record { clean = tt; sound = record { ranged = tt; distinct = tt }; short = lit< tt }; low = omega arith })
