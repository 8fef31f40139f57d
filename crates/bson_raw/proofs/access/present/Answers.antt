use Rattle.std.proofs.Common.{◌∙◌, inr, subst, Option, Result}
use Rattle.bson_frame.specs.declared.error.Error.{Error}
use Rattle.bson_frame.specs.declared.error.ValueAccessErrorKind.TheVariants as refusals
use Rattle.bson_raw.specs.declared.bson_ref.RawBsonRef.{RawBsonRef}
use Rattle.bson_raw.specs.Read.{GetAnswer}
use Rattle.bson_raw.proofs.access.present.Goals as goal

pub returns-in-OutOfMemory : goal.returns-in-OutOfMemory
returns-in-OutOfMemory c = λ f h.
    let refused = c.new-in-OutOfMemory.ensures in
    (refusals.InvalidBson c.in-Err.e, subst (λ (x : Result (Option RawBsonRef) Error). GetAnswer f x) c.in-Err.is h, inr (refused.kind, refused.key ∙ c.new.ensures.bytes))
