-- Keys that were met, and one more.
use Rattle.std.proofs.Common.{◌≡◌, ℕ, List, [], ◌∷◌, ◌++◌, length, drop, append_assoc, Bool, true, false, Decides, refl, sym, ap, ◌∙◌, subst}
use Rattle.std.proofs.Math.Seq.{drop-append_seam}
use Rattle.std.proofs.lemmas.List.{append_cancel_left}
use Rattle.std.specs.Borrow.{Bor}
use Rattle.std.specs.Cmp.Lexicographic.{slice_cmp}
use Rattle.std.specs.List.{list_any}
use Rattle.std.specs.Ordering.{nat_cmp, is_gt, ordering_reverse}
use Rattle.std.specs.Str.{bytes_eq}
use Rattle.std.specs.declared.cmp.Ordering.{Ordering}
use Rattle.std.specs.declared.cmp.Ordering.TheVariants.{Less, Equal, Greater}
use Rattle.std.proofs.lemmas.Bool.{or_from}
use Rattle.std.proofs.lemmas.Cmp.{nat_list_cmp_total, tied_itself, upto}
use Rattle.std.proofs.lemmas.Slice.Eq.{bytes_eq-Decides}
use mathlib.Core.Bool.{true≢false}
use Rattle.bson_bytes.specs.Met.{AreUpTo, HasMet, IsNew}
use Rattle.bson_bytes.specs.declared.keys.MetKeys.{MetKeys}

no_more : (o : Ordering) → (o ≡ Less → ⊥) → is_gt (ordering_reverse o) ≡ false
no_more Less h = absurd (h refl)
no_more Equal h = refl
no_more Greater h = refl

-- a key up to the greatest isn't one that is greater
passed : (k greatest key : List ℕ) → is_gt (slice_cmp nat_cmp k greatest) ≡ false → slice_cmp nat_cmp greatest key ≡ Less → bytes_eq k key ≡ false
passed k greatest key up less = by (bytes_eq k key) (bytes_eq-Decides k key)
  where
    by : (b : Bool) → Decides b (k ≡ key) → b ≡ false
    by true told =
        let back = nat_list_cmp_total.antisymm key greatest ∙ ap ordering_reverse less in
        absurd (true≢false (sym (ap is_gt back) ∙ subst (λ (l : List ℕ). is_gt (slice_cmp nat_cmp l greatest) ≡ false) (told.0 refl) up))
    by false told = refl

-- a greater key is new
greater_new : (greatest key : List ℕ) (all : List (Bor (List ℕ))) → AreUpTo greatest all → slice_cmp nat_cmp greatest key ≡ Less → IsNew key all
greater_new greatest key [] up less = refl
greater_new greatest key (met ∷ keys) up less =
    or_from (bytes_eq met.now key) (list_any (λ (k : Bor (List ℕ)). bytes_eq k.now key) keys) (passed met.now greatest key up.0 less) (greater_new greatest key keys up.1 less)

raised : (greatest : List ℕ) (all : List (Bor (List ℕ))) (last : Bor (List ℕ)) → AreUpTo greatest all → slice_cmp nat_cmp greatest last.now ≡ Less → AreUpTo last.now (all ++ last ∷ [])
raised greatest [] last up less = (ap is_gt (tied_itself nat_list_cmp_total last.now), tt)
raised greatest (met ∷ keys) last up less = (upto nat_list_cmp_total met.now greatest last.now up.0 (ap is_gt less), raised greatest keys last up.1 less)

as_before : (greatest : List ℕ) (all : List (Bor (List ℕ))) (last : Bor (List ℕ)) → AreUpTo greatest all → (slice_cmp nat_cmp greatest last.now ≡ Less → ⊥) → AreUpTo greatest (all ++ last ∷ [])
as_before greatest [] last up other = (ap is_gt (nat_list_cmp_total.antisymm last.now greatest) ∙ no_more (slice_cmp nat_cmp greatest last.now) other, tt)
as_before greatest (met ∷ keys) last up other = (up.0, as_before greatest keys last up.1 other)

-- one more key was met, and kept if there was room
pub record Keeps (old : MetKeys) (kept : List (Bor (List ℕ))) (key : Bor (List ℕ)) (new : MetKeys) (after : List (Bor (List ℕ))) : Type 0 where
  pub outer : new.outer ≡ old.outer
  pub behind : (more : List (Bor (List ℕ))) × (after ≡ kept ++ more)
  pub all : new.has_more ≡ false → (old.has_more ≡ false) × (after ≡ kept ++ key ∷ [])

module _ (old : MetKeys) (outer kept : List (Bor (List ℕ))) (key : Bor (List ℕ)) (new : MetKeys) (after all : List (Bor (List ℕ))) (met : HasMet old outer kept all) (keeps : Keeps old kept key new after) where
  one_more : new.has_more ≡ false → met.own ++ keeps.behind.0 ≡ all ++ key ∷ []
  one_more none =
      let k = keeps.all none in
      let last : keeps.behind.0 ≡ key ∷ [] = append_cancel_left kept keeps.behind.0 (key ∷ []) (sym keeps.behind.1 ∙ k.1) in
      ap (λ (ks : List (Bor (List ℕ))). met.own ++ ks) last ∙ ap (λ (ks : List (Bor (List ℕ))). ks ++ key ∷ []) (met.whole k.0)

  behind : AreUpTo new.greatest.now (all ++ key ∷ []) → HasMet new outer after (all ++ key ∷ [])
  behind up = record {
    bound = up;
    start = keeps.outer ∙ met.start;
    own = met.own ++ keeps.behind.0;
    parts = keeps.behind.1 ∙ ap (λ (ks : List (Bor (List ℕ))). ks ++ keeps.behind.0) met.parts ∙ append_assoc outer met.own keeps.behind.0;
    whole = one_more;
  }

  -- a key that is greater than all before it
  pub met_greater : slice_cmp nat_cmp old.greatest.now key.now ≡ Less → new.greatest ≡ key → IsNew key.now all × HasMet new outer after (all ++ key ∷ [])
  met_greater less is = (
    greater_new old.greatest.now key.now all met.bound less,
    behind (subst (λ (g : Bor (List ℕ)). AreUpTo g.now (all ++ key ∷ [])) (sym is) (raised old.greatest.now all key met.bound less)),
  )

  -- another key, which is new by a comparison with the kept ones
  pub met_other : (slice_cmp nat_cmp old.greatest.now key.now ≡ Less → ⊥) → old.has_more ≡ false → (own : List (Bor (List ℕ))) → own ≡ drop old.outer kept → IsNew key.now own → new.greatest ≡ old.greatest
      → IsNew key.now all × HasMet new outer after (all ++ key ∷ [])
  met_other other few own is_own new_key is =
      let here : own ≡ met.own = is_own ∙ ap (λ (n : ℕ). drop n kept) met.start ∙ ap (drop (length outer)) met.parts ∙ drop-append_seam outer met.own in (
        subst (IsNew key.now) (here ∙ met.whole few) new_key,
        behind (subst (λ (g : Bor (List ℕ)). AreUpTo g.now (all ++ key ∷ [])) (sym is) (as_before old.greatest.now all key met.bound other)),
      )
