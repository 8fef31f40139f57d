use Rattle.std.proofs.Common.{◌≡◌, ℕ, List, Option, Some, None, refl}
use Rattle.uuid.specs.Text.{parsed}
use Rattle.uuid_text.specs.UuidText.{uuid_of}
use Rattle.uuid_text.proofs.parse.Goals as goal

none_unless : (o : Option (List ℕ)) → ((u : List ℕ) × (o ≡ Some u) → ⊥) → None ≡ o
none_unless None h = refl
none_unless (Some u) h = absurd (h (u, refl))

pub returns-in-Err : goal.returns-in-Err
unfolding uuid_of
returns-in-Err c = none_unless (parsed c.args.text.now) (λ p. cc (c.in-Err.ensures.ok.1 p))
