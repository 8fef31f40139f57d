-- Many documents that all read have one reading: a stream of bytes, a list of trees.
use Rattle.std.proofs.Common.{◌≡◌, inl, inr, ℕ, ◌+◌, List, [], ◌∷◌, ◌++◌, length, Option, Some, None, refl, ap, ◌∙◌, sym, subst, arith, length-append}
use Rattle.serde_json.specs.Data.{Data}
use Rattle.bson_base.specs.Value.{Members}
use Rattle.bson_frame.specs.Frame.{number as declared}
use Rattle.bson_meaning.specs.Gate.{IsCounted}
use Rattle.store_model.specs.Reading.{Documents, Reading, readable, unreadable, ReadsBytes, ReadsTree, ReadsEach, IsUncut, Cuts, ReadsStream, ReadsTrees}
use Rattle.store_model.specs.declared.error.ErrorKind.{ErrorKind}
use Rattle.store_model.specs.declared.error.ErrorKind.TheVariants.{EndInside, BadLength}
use Rattle.store_model.proofs.ReadingLemmas.{one_document, not_both, one_tree}
use Rattle.bson_frame.proofs.FrameLemmas.{front_is_one}
use Rattle.bson_frame.proofs.PayloadLemmas.{number_front}

uncut_counted : (bytes p rest : List ℕ) (k : ErrorKind) → bytes ≡ p ++ rest → IsCounted p → IsUncut bytes k → ⊥
uncut_counted bytes p rest k e n h =
    let len : length bytes ≡ length p + length rest = ap length e ∙ length-append p rest in
    let num : declared bytes ≡ declared p = ap declared e ∙ number_front p rest (omega (arith, n.0, n.2)) in
    by k len num h
  where
    by : (k : ErrorKind) → length bytes ≡ length p + length rest → declared bytes ≡ declared p → IsUncut bytes k → ⊥
    by EndInside len num (inl few) = omega (arith, few, len, n.0, n.2)
    by EndInside len num (inr h) = omega (arith, h.2, len, num, n.2)
    by BadLength len num (four, inl low) = omega (arith, low, num, n.0)
    by BadLength len num (four, inr high) = omega (arith, high, num, n.1)
    by _ len num h = absurd h

cuts_alike : (bytes : List ℕ) (ps qs : List (List ℕ)) (c : Option ErrorKind) → Cuts bytes ps None → Cuts bytes qs c → (qs ≡ ps) × (c ≡ None)
cuts_alike bytes [] [] None s t = (refl, refl)
cuts_alike bytes [] [] (Some k) s t = absurd (omega (arith, t.0, ap length s))
cuts_alike bytes [] (q ∷ qs) c s (more, f, m, t) = absurd (omega (arith, ap length (sym s ∙ f), length-append q more, m.0, m.2))
cuts_alike bytes (p ∷ ps) [] None (rest, e, n, s) t = absurd (omega (arith, ap length (sym e ∙ t), length-append p rest, n.0, n.2))
cuts_alike bytes (p ∷ ps) [] (Some k) (rest, e, n, s) t = absurd (uncut_counted bytes p rest k e n t.1)
cuts_alike bytes (p ∷ ps) (q ∷ qs) c (rest, e, n, s) (more, f, m, t) =
    let l : length q ≡ length p = m.2 ∙ sym (number_front q more (omega (arith, m.0, m.2))) ∙ ap declared (sym f ∙ e) ∙ number_front p rest (omega (arith, n.0, n.2)) ∙ sym n.2 in
    let both = front_is_one q p more rest l (sym f ∙ e) in
    let i : q ≡ p = both.0 in
    let r = cuts_alike rest ps qs c s (subst (λ z. Cuts z qs c) both.1 t) in
    let j : qs ≡ ps = r.0 in
    (cc, r.1)

each_alike : {A : Type 0} (M : A → Reading → Type 0) → ((a : A) (d : Members) (b : Reading) → M a (readable d) → M a b → b ≡ readable d) → (bs : List A) (ds more : Documents) (stop : Option ErrorKind) → ReadsEach M bs None ds None
    → ReadsEach M bs None more stop → (more ≡ ds) × (stop ≡ None)
each_alike M one [] [] [] stop h r = (refl, r)
each_alike M one [] [] (e ∷ more) stop h r = absurd r
each_alike M one [] (d ∷ ds) more stop h r = absurd h
each_alike M one (a ∷ bs) [] more stop h r = absurd h
each_alike M one (a ∷ bs) (d ∷ ds) [] None h r = absurd r
each_alike M one (a ∷ bs) (d ∷ ds) [] (Some k) h r = let e : unreadable k ≡ readable d = one a d (unreadable k) h.0 r in cc
each_alike M one (a ∷ bs) (d ∷ ds) (e ∷ more) stop h r =
    let i : readable e ≡ readable d = one a d (readable e) h.0 r.0 in
    let j : e ≡ d = cc in
    let t = each_alike M one bs ds more stop h.1 r.1 in
    (ap (λ z. z ∷ more) j ∙ ap (λ z. d ∷ z) t.0, t.1)

pub bytes_alike : (bytes : List ℕ) (d : Members) (a : Reading) → ReadsBytes bytes (readable d) → ReadsBytes bytes a → a ≡ readable d
bytes_alike bytes d (readable e) h k = ap readable (one_document bytes e d k h)
bytes_alike bytes d (unreadable k) h r = absurd (not_both bytes d k h r)

stops : (ps : List (List ℕ)) (ds : Documents) (k : ErrorKind) → ReadsEach ReadsBytes ps (Some k) ds None → ⊥
stops [] [] k h = let e : ◌≡◌ {A = Option ErrorKind} None (Some k) = h in cc
stops [] (d ∷ ds) k h = h
stops (p ∷ ps) [] k h = h
stops (p ∷ ps) (d ∷ ds) k h = stops ps ds k h.1

pub streams_alike : (bytes : List ℕ) (ds more : Documents) (stop : Option ErrorKind) → ReadsStream bytes ds None → ReadsStream bytes more stop → (more ≡ ds) × (stop ≡ None)
streams_alike bytes ds more stop (ps, b, s, h) (qs, c, t, r) = by b s h
  where
    by : (b : Option ErrorKind) → Cuts bytes ps b → ReadsEach ReadsBytes ps b ds None → (more ≡ ds) × (stop ≡ None)
    by None s h = let e = cuts_alike bytes ps qs c s t in each_alike ReadsBytes bytes_alike ps ds more stop h (subst (λ z. ReadsEach ReadsBytes z None more stop) e.0 (subst (λ z. ReadsEach ReadsBytes qs z more stop) e.1 r))
    by (Some k) s h = absurd (stops ps ds k h)

pub trees_alike : (js : List Data) (ds more : Documents) (stop : Option ErrorKind) → ReadsTrees js ds None → ReadsTrees js more stop → (more ≡ ds) × (stop ≡ None)
trees_alike js ds more stop h r = each_alike ReadsTree (λ j d a m n. one_tree j a (readable d) n m) js ds more stop h r
