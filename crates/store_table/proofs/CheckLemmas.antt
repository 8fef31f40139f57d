-- Rows that are good one after the other.
use Rattle.std.proofs.Common.{◌<ℤ◌, ℕ, ℤ, List, [], ◌∷◌, ◌++◌, append-nil, append_assoc, sym, subst, arith}
use Rattle.std.specs.List.{AllByRecursion}
use Rattle.std.proofs.lemmas.Int.{ints}
use Rattle.store_table.specs.Rows.{TableRow, IsRising, last_place}
use Rattle.store_table.specs.Check.{IsGoodAfter, AreGoodAfter, AreGood}
use Rattle.store_table.proofs.LastPlaceLemmas.{last_last}

module _ (accepts : List ℕ → List ℕ → List ℕ → Type 0) where
  good_more : (seen xs : List TableRow) (d : TableRow) → AreGoodAfter accepts seen xs → IsGoodAfter accepts (seen ++ xs) d → AreGoodAfter accepts seen (xs ++ d ∷ [])
  good_more seen [] d h k = (subst (λ (s : List TableRow). IsGoodAfter accepts s d) (append-nil seen) k, tt)
  good_more seen (x ∷ xs) d h k = (h.0, good_more (seen ++ x ∷ []) xs d h.1 (subst (λ (s : List TableRow). IsGoodAfter accepts s d) (sym (append_assoc seen (x ∷ []) xs)) k))

  pub good_on : (docs : List TableRow) (d : TableRow) → AreGood accepts docs → IsGoodAfter accepts docs d → AreGood accepts (docs ++ d ∷ [])
  good_on docs d h k = good_more [] docs d h k

  up : (a b : ℤ) (ds : List TableRow) → a <ℤ b → AllByRecursion (λ e. b <ℤ e.place) ds → AllByRecursion (λ e. a <ℤ e.place) ds
  up a b [] l k = tt
  up a b (e ∷ ds) l k = (omega (arith, ints, l, k.0), up a b ds l k.1)

  rises_after : (seen docs : List TableRow) → AreGoodAfter accepts seen docs → AllByRecursion (λ d. last_place seen <ℤ d.place) docs × IsRising docs
  rises_after seen [] h = (tt, tt)
  rises_after seen (d ∷ docs) h =
      let more = rises_after (seen ++ d ∷ []) docs h.1 in
      let above : AllByRecursion (λ e. d.place <ℤ e.place) docs = subst (λ (p : ℤ). AllByRecursion (λ (e : TableRow). p <ℤ e.place) docs) (last_last seen d) more.0 in
      ((h.0.above, up (last_place seen) d.place docs h.0.above above), (above, more.1))

  -- good rows rise
  pub good_rises : (docs : List TableRow) → AreGood accepts docs → IsRising docs
  good_rises docs h = (rises_after [] docs h).1
