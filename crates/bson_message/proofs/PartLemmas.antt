-- Documents and sections at the front of bytes.
use Rattle.std.proofs.Common.{◌≡◌, ℕ, List, ◌∷◌, ◌++◌, length, drop, get_or, refl, ap, sym, ◌∙◌, subst, arith}
use Rattle.bson_frame.proofs.FrameLemmas.{front_is_one}
use Rattle.bson_frame.proofs.PayloadLemmas.{number_front}
use Rattle.bson_frame.proofs.NameLemmas.{name_is_one, no_name, no_run, rest_is_one}
use Rattle.bson_frame.specs.Frame.{IsCstring, number}
use Rattle.bson_frame.specs.Payload.{IsEnvelope}
use Rattle.bson_frame.specs.Reader.{NameFault}
use Rattle.bson_frame.specs.declared.error.ErrorKind.{ErrorKind}
use Rattle.bson_frame.specs.declared.error.ErrorKind.TheVariants.{MalformedValue, Utf8EncodingError, OutOfMemory}
use Rattle.bson_message.specs.Parts.{Part, body, sequence, HasDocuments, HasSequence, IsCounted, IsDocument, IsPart, NoCounted, NoName, NoSequence}
use Rattle.bson_message.specs.Runs.{BeginsWith, BeginsWithNone}
use Rattle.bson_message.specs.Taking.{AreDeclared}
use Rattle.bson_message.proofs.RunLemmas.{IsOne, IsSome}

pub one_counted : (f g r s : List ℕ) → IsCounted f → IsCounted g → f ++ r ≡ g ++ s → (f ≡ g) × (r ≡ s)
one_counted f g r s a b e =
    let n : number (f ++ r) ≡ number (g ++ s) = ap number e in
    front_is_one f g r s (sym a.1 ∙ sym (number_front f r a.0) ∙ n ∙ number_front g s b.0 ∙ b.1) e

pub counted_of : (d : List ℕ) → IsEnvelope d → IsCounted d
counted_of d e = (omega (arith, e.some), sym e.declared)

pub one_message : (a b x y : List ℕ) → AreDeclared a → AreDeclared b → a ++ x ≡ b ++ y → (a ≡ b) × (x ≡ y)
one_message a b x y (p, n) (q, m) e = one_counted a b x y (omega (arith, p, n), sym n) (omega (arith, q, m), sym m) e

-- ---- documents

pub one_document : IsOne IsDocument
one_document f g r s x y (is, a) (js, b) e =
    let t = one_counted f g r s (subst IsCounted (sym is) (counted_of x a)) (subst IsCounted (sym js) (counted_of y b)) e in
    (t.1, sym is ∙ t.0 ∙ js)

pub some_document : IsSome IsDocument
some_document f x (is, a) = let l = ap length is in omega (arith, l, a.some)

pub no_document : (bytes : List ℕ) → NoCounted bytes → BeginsWithNone IsDocument bytes
no_document bytes lacks d rest (f, split, (is, e)) = lacks f rest split (subst IsCounted (sym is) (counted_of d e))

pub no_envelope : (bytes front behind : List ℕ) → bytes ≡ front ++ behind → IsCounted front → (IsEnvelope front → ⊥) → BeginsWithNone IsDocument bytes
no_envelope bytes front behind is c lacks d rest (f, split, (js, e)) =
    let t = one_counted front f behind rest c (subst IsCounted (sym js) (counted_of d e)) (sym is ∙ split) in
    lacks (subst IsEnvelope (sym (t.0 ∙ js)) e)

-- ---- sections

abbrev kind : Part → ℕ
kind (body d) = 0
kind (sequence name documents) = 1

inside : (f : List ℕ) (p : Part) → IsPart f p → (f ≡ kind p ∷ drop 1 f) × IsCounted (drop 1 f)
inside f (body d) (is, e) = (subst (λ l. l ≡ 0 ∷ drop 1 l) (sym is) refl, subst (λ l. IsCounted (drop 1 l)) (sym is) (counted_of d e))
inside f (sequence name documents) (inner, is, counted, has) = (subst (λ l. l ≡ 1 ∷ drop 1 l) (sym is) refl, subst (λ l. IsCounted (drop 1 l)) (sym is) counted)

same_part : (f g : List ℕ) (p q : Part) → f ≡ g → IsPart f p → IsPart g q → p ≡ q
same_part f g (body d) (body e) same (is, a) (js, b) = ap body (ap (drop 1) (sym is ∙ same ∙ js))
same_part f g (body d) (sequence n xs) same (is, a) (inner, js, counted, has) =
    let t : 0 ≡ 1 = ap (λ l. get_or l 0 2) (sym is ∙ same ∙ js) in absurd (omega (arith, t))
same_part f g (sequence n xs) (body e) same (inner, is, counted, has) (js, b) =
    let t : 1 ≡ 0 = ap (λ l. get_or l 0 2) (sym is ∙ same ∙ js) in absurd (omega (arith, t))
same_part f g (sequence n xs) (sequence m ys) same (inner, is, counted, (front, name, documents)) (other, js, counted2, (front2, name2, documents2)) =
    let t : inner ≡ other = ap (drop 1) (sym is ∙ same ∙ js) in
    let second : drop 4 inner ≡ m ++ 0 ∷ ys = ap (drop 4) t ∙ front2 in
    ap (λ k. sequence k xs) (name_is_one (drop 4 inner) n m xs ys name name2 front second) ∙ ap (λ l. sequence m l) (rest_is_one (drop 4 inner) n m xs ys name name2 front second)

pub one_part : IsOne IsPart
one_part f g r s x y p q e =
    let a = inside f x p in
    let b = inside g y q in
    let whole : kind x ∷ (drop 1 f ++ r) ≡ kind y ∷ (drop 1 g ++ s) = sym (ap (λ l. l ++ r) a.0) ∙ e ∙ ap (λ l. l ++ s) b.0 in
    let t = one_counted (drop 1 f) (drop 1 g) r s a.1 b.1 (ap (drop 1) whole) in
    let k : kind x ≡ kind y = ap (λ l. get_or l 0 0) whole in
    (t.1, same_part f g x y (a.0 ∙ ap (λ n. n ∷ drop 1 f) k ∙ ap (λ l. kind y ∷ l) t.0 ∙ sym b.0) p q)

pub some_part : IsSome IsPart
some_part f p h = let l = ap length (inside f p h).0 in omega (arith, l)

-- ---- why there is no section

pub name_fault : (bytes : List ℕ) (k : ErrorKind) → NameFault bytes k → NoName bytes
name_fault bytes MalformedValue h name rest c e = no_run bytes name rest h e
name_fault bytes Utf8EncodingError h name rest c e = no_name bytes name rest h c e
name_fault bytes OutOfMemory h name rest c e = h

pub no_list_name : (bytes rest : List ℕ) → rest ≡ drop 4 bytes → NoName rest → NoSequence bytes
no_list_name bytes rest is lacks name documents (e, c, ds) = lacks name documents c (is ∙ e)

pub no_list : (bytes rest name documents : List ℕ) → rest ≡ drop 4 bytes → IsCstring name → rest ≡ name ++ 0 ∷ documents → (HasDocuments documents → ⊥) → NoSequence bytes
no_list bytes rest name documents is c split lacks m others (e, d, ds) =
    lacks (subst HasDocuments (sym (rest_is_one rest name m documents others c d split (is ∙ e))) ds)

-- a section at the front of bytes has their first byte as its kind, and what it counts at their front
front_of : (bytes : List ℕ) (k : ℕ) (rest : List ℕ) (p : Part) (behind : List ℕ) → bytes ≡ k ∷ rest → BeginsWith IsPart bytes p behind → (k ≡ kind p) × ((inner : List ℕ) × (rest ≡ inner ++ behind) × IsCounted inner × IsPart (kind p ∷ inner) p)
front_of bytes k rest p behind is (f, split, part) =
    let a = inside f p part in
    let e : k ∷ rest ≡ kind p ∷ (drop 1 f ++ behind) = sym is ∙ split ∙ ap (λ l. l ++ behind) a.0 in
    (ap (λ l. get_or l 0 0) e, (drop 1 f, ap (drop 1) e, a.1, subst (λ l. IsPart l p) a.0 part))

pub no_part_body : (bytes rest : List ℕ) → bytes ≡ 0 ∷ rest → BeginsWithNone IsDocument rest → BeginsWithNone IsPart bytes
no_part_body bytes rest is lacks (body d) r begins =
    let (k, (inner, split, counted, (js, e))) = front_of bytes 0 rest (body d) r is begins in
    lacks d r (inner, split, (ap (drop 1) js, e))
no_part_body bytes rest is lacks (sequence n xs) r begins = let k : 0 ≡ 1 = (front_of bytes 0 rest (sequence n xs) r is begins).0 in absurd (omega (arith, k))

pub no_part_counted : (bytes rest : List ℕ) → bytes ≡ 1 ∷ rest → NoCounted rest → BeginsWithNone IsPart bytes
no_part_counted bytes rest is lacks p r begins =
    let (k, (inner, split, counted, part)) = front_of bytes 1 rest p r is begins in
    lacks inner r split counted

pub no_part_sequence : (bytes rest first behind : List ℕ) → bytes ≡ 1 ∷ rest → rest ≡ first ++ behind → IsCounted first → NoSequence first → BeginsWithNone IsPart bytes
no_part_sequence bytes rest first behind is cut c lacks (body d) r begins = let k : 1 ≡ 0 = (front_of bytes 1 rest (body d) r is begins).0 in absurd (omega (arith, k))
no_part_sequence bytes rest first behind is cut c lacks (sequence n xs) r begins =
    let (k, (inner, split, counted, (other, js, counted2, has))) = front_of bytes 1 rest (sequence n xs) r is begins in
    let t = one_counted first inner behind r c counted (sym cut ∙ split) in
    lacks n xs (subst (λ l. HasSequence l n xs) (sym (t.0 ∙ ap (drop 1) js)) has)

pub no_part_kind : (bytes rest : List ℕ) (k : ℕ) → bytes ≡ k ∷ rest → (k ≡ 0 → ⊥) → (k ≡ 1 → ⊥) → BeginsWithNone IsPart bytes
no_part_kind bytes rest k is zero one (body d) r begins = zero (front_of bytes k rest (body d) r is begins).0
no_part_kind bytes rest k is zero one (sequence n xs) r begins = one (front_of bytes k rest (sequence n xs) r is begins).0
