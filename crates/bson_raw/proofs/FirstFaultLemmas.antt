-- The first fault of elements is one.
use Rattle.std.proofs.Common.{◌≡◌, ℕ, ◌+◌, List, Option, Some, None, inl, inr, refl, sym, ap, ◌∙◌, subst, arith}
use Rattle.bson_base.specs.declared.spec.ElementType.{ElementType}
use Rattle.bson_base.specs.declared.spec.ElementType.TheVariants as kinds
use Rattle.bson_frame.specs.declared.error.ErrorKind.{ErrorKind}
use Rattle.bson_frame.specs.declared.error.ErrorKind.TheVariants.{MalformedValue, Utf8EncodingError, OutOfMemory}
use Rattle.bson_frame.specs.Frame.{number, Element}
use Rattle.bson_frame.specs.Payload.{IsPayloadFault, CodeFault, code_in}
use Rattle.bson_raw.specs.Convert.{Way, here, past, into, elements_in, IsFirstFault}
use Rattle.bson_raw.proofs.FaultLemmas.{no_fault, IsSpelled, inside_faulty}
use Rattle.bson_raw.proofs.WalkLemmas.{FramesAreOne, FaultsAreOne}

-- ---- a payload

two_code_faults : (payload : List ℕ) → CodeFault payload MalformedValue → CodeFault payload Utf8EncodingError → ⊥
two_code_faults payload (inl short) (long, fault) = omega (arith, short, long)
two_code_faults payload (inr (inl never)) (long, fault) = never (number (code_in payload) + 4) fault.0.0 fault.0.1
two_code_faults payload (inr (inr (there, text, misfit))) (long, fault) = fault.1 text

one_code_fault : (payload : List ℕ) (j k : ErrorKind) → CodeFault payload j → CodeFault payload k → j ≡ k
one_code_fault payload MalformedValue MalformedValue g h = refl
one_code_fault payload MalformedValue Utf8EncodingError g h = absurd (two_code_faults payload g h)
one_code_fault payload Utf8EncodingError MalformedValue g h = absurd (two_code_faults payload h g)
one_code_fault payload Utf8EncodingError Utf8EncodingError g h = refl
one_code_fault payload OutOfMemory k g h = absurd g
one_code_fault payload j OutOfMemory g h = absurd h

one_payload_fault : (tag : ElementType) (payload : List ℕ) (j k : ErrorKind) → IsPayloadFault tag payload j → IsPayloadFault tag payload k → j ≡ k
one_payload_fault kinds.String payload j k g h = g.0 ∙ sym h.0
one_payload_fault kinds.JavaScriptCode payload j k g h = g.0 ∙ sym h.0
one_payload_fault kinds.Symbol payload j k g h = g.0 ∙ sym h.0
one_payload_fault kinds.DbPointer payload j k g h = g.0 ∙ sym h.0
one_payload_fault kinds.Boolean payload j k g h = g.0 ∙ sym h.0
one_payload_fault kinds.Binary payload j k g h = g.is ∙ sym h.is
one_payload_fault kinds.JavaScriptCodeWithScope payload j k g h = one_code_fault payload j k g h
one_payload_fault _ payload j k g h = absurd g

-- ---- elements

abbrev Same : Option (List ℕ) → Option (List ℕ) → ErrorKind → ErrorKind → Type 0
Same j k m n = (j ≡ k) × (m ≡ n)

module _ (one : FramesAreOne) (kind : FaultsAreOne) where
  -- if there is a first frame
  no_structural : (bytes : List ℕ) (way : Way) (key : Option (List ℕ)) (m n : ErrorKind) → IsFirstFault bytes here None m → IsFirstFault bytes way key n → Same None key m n
  no_structural bytes here None m n g h = (refl, kind bytes m n g.1 h.1)
  no_structural bytes here (Some key) m n g h = absurd (g.1.no_frame h.0 h.1 h.2)
  no_structural bytes (past way) key m n g h = absurd (g.1.no_frame h.0 h.1 h.3)
  no_structural bytes (into way) key m n g h = absurd (g.1.no_frame h.0 h.1 h.3)

  turned : (j k : Option (List ℕ)) (m n : ErrorKind) → Same j k m n → Same k j n m
  turned j k m n s = (sym s.0, sym s.1)

  pub first_fault_is_one : (a b : Way) (bytes : List ℕ) (j k : Option (List ℕ)) (m n : ErrorKind) → IsFirstFault bytes a j m → IsFirstFault bytes b k n → Same j k m n
  first_fault_is_one here b bytes None k m n g h = no_structural bytes b k m n g h
  first_fault_is_one a here bytes j None m n g h = turned None j n m (no_structural bytes a j n m h g)
  first_fault_is_one here here bytes (Some j) (Some k) m n (e, rest, first, is, fault) (f, after, first', is', fault') =
      let same = (one bytes e f rest after first first').0 in (
        ap Some (sym is ∙ ap (λ (x : Element). x.key) same ∙ is'),
        one_payload_fault f.tag f.payload m n (subst (λ (x : Element). IsPayloadFault x.tag x.payload m) same fault) fault',
      )
  first_fault_is_one here (past b) bytes (Some j) k m n (e, rest, first, is, fault) (f, after, v, first', same_kind, spells, fault') =
      let same = (one bytes e f rest after first first').0 in
      absurd (no_fault f.tag f.payload v same_kind spells m (subst (λ (x : Element). IsPayloadFault x.tag x.payload m) same fault))
  first_fault_is_one here (into b) bytes (Some j) k m n (e, rest, first, is, fault) (f, after, inner, first', faultless, at, fault') =
      let same = (one bytes e f rest after first first').0 in
      absurd (faultless m (subst (λ (x : Element). IsPayloadFault x.tag x.payload m) same fault))
  first_fault_is_one (past a) here bytes j (Some k) m n (e, rest, v, first, same_kind, spells, fault) (f, after, first', is, fault') =
      let same = (one bytes f e after rest first' first).0 in
      absurd (no_fault e.tag e.payload v same_kind spells n (subst (λ (x : Element). IsPayloadFault x.tag x.payload n) same fault'))
  first_fault_is_one (past a) (past b) bytes j k m n (e, rest, v, first, same_kind, spells, fault) (f, after, w, first', same_kind', spells', fault') =
      let same = (one bytes f e after rest first' first).1 in
      first_fault_is_one a b rest j k m n fault (subst (λ (x : List ℕ). IsFirstFault x b k n) same fault')
  first_fault_is_one (past a) (into b) bytes j k m n (e, rest, v, first, same_kind, spells, fault) (f, after, inner, first', faultless, at, fault') =
      let same = (one bytes e f rest after first first').0 in
      absurd (inside_faulty one f inner at (subst IsSpelled same (v, same_kind, spells)) b k n fault')
  first_fault_is_one (into a) here bytes j (Some k) m n (e, rest, inner, first, faultless, at, fault) (f, after, first', is, fault') =
      let same = (one bytes f e after rest first' first).0 in
      absurd (faultless n (subst (λ (x : Element). IsPayloadFault x.tag x.payload n) same fault'))
  first_fault_is_one (into a) (past b) bytes j k m n (e, rest, inner, first, faultless, at, fault) (f, after, w, first', same_kind, spells, fault') =
      let same = (one bytes f e after rest first' first).0 in
      absurd (inside_faulty one e inner at (subst IsSpelled same (w, same_kind, spells)) a j m fault)
  first_fault_is_one (into a) (into b) bytes j k m n (e, rest, inner, first, faultless, at, fault) (f, after, inner', first', faultless', at', fault') =
      let same = (one bytes f e after rest first' first).0 in
      let both : Some inner' ≡ Some inner = sym at' ∙ ap (λ (x : Element). elements_in x.tag x.payload) same ∙ at in
      let inners : inner' ≡ inner = cc in
      first_fault_is_one a b inner j k m n fault (subst (λ (x : List ℕ). IsFirstFault x b k n) inners fault')
