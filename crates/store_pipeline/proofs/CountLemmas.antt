-- The document that has a number of documents.
use Rattle.std.proofs.Common.{◌≡◌, ◌<◌, ◌^◌, ℕ, zero, suc, List, [], ◌∷◌, length, Bool, true, false, cond, pos, refl, arith, Vec}
use Rattle.std.proofs.lemmas.Bool.Decides.{nat_tests}
use Rattle.std.specs.Prelude.{IsUtf8, nat_lt}
use Rattle.std.specs.declared.alloc.Global.{Global}
use Rattle.bson_base.specs.Value.{scalar, int32, int64, member, no_members, document}
use Rattle.store_model.specs.Reading.{Documents}
use Rattle.store_pipeline.proofs.PlaceLemmas.{zip_long}
use Rattle.store_pipeline.specs.Bodies.{AreBodies, IsBody}
use Rattle.store_pipeline.specs.Faithful.{AreFaithful, IsFaithful}
use Rattle.store_pipeline.specs.Stages.{count_of, number_value}

pub bodies_long : (bodies : List (Vec ℕ Global)) (ds : Documents) → AreBodies bodies ds → length bodies ≡ length ds
bodies_long bodies ds are = zip_long (λ (b : Vec ℕ Global) d. IsBody b.items d) bodies ds are

pub counts_some : (name : List ℕ) (n : ℕ) → 0 < n → count_of name n ≡ member name (number_value n) no_members ∷ []
counts_some name zero some = absurd (omega (arith, some))
counts_some name (suc n) some = refl

-- ---- the number comes back

number_faithful : (n : ℕ) → n < 2 ^ 63 → IsFaithful (number_value n)
number_faithful n small = by (nat_lt n (2 ^ 31)) refl
  where
    by : (b : Bool) → nat_lt n (2 ^ 31) ≡ b → IsFaithful (cond b (scalar (int32 (pos n))) (scalar (int64 (pos n))))
    by true low = let below : n < 2 ^ 31 = grind (arith, nat_tests) in record { sound = record { ranged = record { sfits = omega (arith, below) }; distinct = tt }; settled = tt }
    by false high = record { sound = record { ranged = record { sfits = omega (arith, small) }; distinct = tt }; settled = tt }

pub count_faithful : (name : List ℕ) (n : ℕ) → IsUtf8 name → n < 2 ^ 63 → AreFaithful (count_of name n)
count_faithful name zero text small = tt
count_faithful name (suc n) text small =
    let f = number_faithful (suc n) small in
    (record { sound = record { ranged = (text, f.sound.ranged, tt); distinct = (refl, f.sound.distinct, tt) }; settled = (tt, f.settled, tt) }, tt)
