use Rattle.std.proofs.Common.{◌≡◌, nat_eq, refl, sym, ap, true≢false}
use Rattle.std.specs.Bool.{Decides}
use Rattle.std.proofs.lemmas.Bool.Decides.{Decides-like, Decides-eqb, Decides-and}
use Rattle.bson_base.specs.contracts.spec.BinarySubtypePartialEq.TheImpl as subtype
use Rattle.bson_base.specs.contracts.uuid.ErrorPartialEq.TheImpl as error
use Rattle.bson_base.specs.contracts.uuid.UuidRepresentationPartialEq.TheImpl as representation
use Rattle.bson_base.specs.declared.spec.BinarySubtype.{BinarySubtype}
use Rattle.bson_base.specs.declared.uuid.Error.{Error}
use Rattle.bson_base.specs.declared.uuid.Error.TheVariants.{InvalidUuidString, RepresentationMismatch, InvalidLength, Memory}
use Rattle.bson_base.specs.declared.uuid.UuidRepresentation.{UuidRepresentation}
use Rattle.bson_base.proofs.laws.equal_errors.Goals as goal

module _ (subtypes : (s t : BinarySubtype) → Decides (subtype.ghosts.eq s t) (s ≡ t)) (forms : (p q : UuidRepresentation) → Decides (representation.ghosts.eq p q) (p ≡ q)) where
  uuids : (x y : Error) → Decides (error.ghosts.eq x y) (x ≡ y)
  uuids InvalidUuidString InvalidUuidString = (λ h. refl, λ e. refl)
  uuids InvalidUuidString _ = (λ h. absurd (true≢false (sym h)), λ e. absurd (cc))
  uuids (RepresentationMismatch s t p) (RepresentationMismatch u v q) =
      Decides-like _ (λ h. λ i. RepresentationMismatch (h.0 i) (h.1.0 i) (h.1.1 i)) (λ e. (cc, (cc, cc)))
      (Decides-and (subtype.ghosts.eq s u) _ (subtypes s u) (Decides-and (subtype.ghosts.eq t v) _ (subtypes t v) (forms p q)))
  uuids (RepresentationMismatch s t p) _ = (λ h. absurd (true≢false (sym h)), λ e. absurd (cc))
  uuids (InvalidLength a) (InvalidLength b) = Decides-like (nat_eq a b) (ap InvalidLength) (λ e. cc) (Decides-eqb a b)
  uuids (InvalidLength a) _ = (λ h. absurd (true≢false (sym h)), λ e. absurd (cc))
  uuids Memory Memory = (λ h. refl, λ e. refl)
  uuids Memory _ = (λ h. absurd (true≢false (sym h)), λ e. absurd (cc))

pub returns-clause-uuids : goal.returns-clause-uuids
returns-clause-uuids c = uuids c.equal_scalars.ensures.subtypes c.equal_scalars.ensures.representations
