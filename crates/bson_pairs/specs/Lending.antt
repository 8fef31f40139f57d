-- What pairs end as, once a `&mut` into them has ended.
use Rattle.std.specs.Prelude.{◌≡◌, ℕ, List, Option, Result}
use Rattle.std.specs.Option.{OnSome}
use Rattle.std.specs.Borrow.{Fml, RattleType, MutBor, Lends, LendsIf, LendsSo, LendsSoOk}
use Rattle.bson_pairs.specs.Keyed.{Key, put, set_at}
use Rattle.bson_pairs.specs.contracts.pairs.Pairs.{the_row}

module _ (V : RattleType) (m : MutBor (List (Key × V.Denot))) where
  -- the place has the last value written through r
  abbrev pub LendsAt : ℕ → Option (MutBor V.Denot) → Fml
  LendsAt i r = LendsIf (the_row V) V m r (set_at m.now i) m.now

  -- the key has the last value written through r, and everything else stays
  abbrev pub LendsUnder : Key → Option (MutBor V.Denot) → Fml
  LendsUnder k r = LendsSo (the_row V) V m r (λ n w. OnSome r (n ≡ put k w m.now)) (λ n. n ≡ m.now)

  -- the value at i, which is there, becomes the last one written through r
  abbrev pub LendsValueOf : ℕ → MutBor V.Denot → Fml
  LendsValueOf i r = Lends (the_row V) V m r (set_at m.now i)

  -- the key has the last value written through r, in its place or last, and if r is an error, everything stays
  abbrev pub LendsOrInserts : {E : Type 0} → Key → Result (MutBor V.Denot) E → Fml
  LendsOrInserts k r = LendsSoOk (the_row V) V m r (λ n w. n ≡ put k w m.now) (λ n. n ≡ m.now)
