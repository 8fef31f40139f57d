-- A path in the place of a key.
use Rattle.std.proofs.Common.{◌≡◌, ℕ, List, Bool, true, false, not, Vec, ap, refl, subst, sym}
use Rattle.std.specs.declared.alloc.Global.{Global}
use Rattle.bson_model.specs.declared.bson.Bson.{Bson}
use Rattle.fallowtime_requests.specs.Along.{Along, AlongUnless, BecomesIf, IsPlanned}
use Rattle.fallowtime_requests.specs.declared.request.Request.{Request}
use Rattle.fallowtime_requests.specs.declared.request.Request.TheVariants as request
use Rattle.store_update.specs.Plan.{Change}
use Rattle.store_update.specs.declared.operation.Step.{Step}
use Rattle.store_question_read.specs.UpdateOutcome.{plans_of}

-- it stays, or becomes what is said
pub stays : (b : Bool) (was : Request) (P : Request → Type 0) → b ≡ false → BecomesIf b was P was
stays b was P is = subst (λ x. BecomesIf x was P was) (sym is) refl

pub becomes : (b : Bool) (was r : Request) (P : Request → Type 0) → b ≡ true → P r → BecomesIf b was P r
becomes b was r P is p = subst (λ x. BecomesIf x was P r) (sym is) p

pub literally : (literal : Bool) (was : Request) → literal ≡ true → AlongUnless literal was was
literally literal was is = stays (not literal) was (Along was) (ap not is)

pub along_so : (literal : Bool) (was r : Request) → literal ≡ false → Along was r → AlongUnless literal was r
along_so literal was r is along = becomes (not literal) was r (Along was) (ap not is) along

-- the update that a key with a dot becomes
pub becomes_update : (b : Bool) (was : Request) (id : Bson) (told : Bool) (operator key : List ℕ) (change : Change) (steps : Vec Step Global)
    → b ≡ true → IsPlanned operator key change (plans_of steps)
    → BecomesIf b was (λ s. (x : Vec Step Global) × IsPlanned operator key change (plans_of x) × (s ≡ request.Alter id x told)) (request.Alter id steps told)
becomes_update b was id told operator key change steps is planned =
    becomes b was (request.Alter id steps told) (λ s. (x : Vec Step Global) × IsPlanned operator key change (plans_of x) × (s ≡ request.Alter id x told)) is (steps, planned, refl)
