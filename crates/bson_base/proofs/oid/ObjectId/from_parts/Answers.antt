use Rattle.std.proofs.Common.{[], ◌∷◌, ◌++◌, get_or, ap, ◌∙◌, rules}
use Rattle.std.specs.Int.{w32, to_be_bytes}
use Rattle.bson_base.proofs.ObjectIdLemmas.{three, five}
use Rattle.bson_base.proofs.oid.ObjectId.from_parts.Goals as goal

pub returns : goal.returns
returns c =
    let seconds = to_be_bytes w32 c.args.seconds_since_epoch in
    let x = c.args.counter in
    let process = five c.args.process_id (search rules) in
    let counter = three x (search rules) in
    rw c.to_be_bytes.ensures (
    ap (λ p. seconds ++ p ++ (get_or x 0 0 ∷ get_or x 1 0 ∷ get_or x 2 0 ∷ [])) process ∙ ap (λ q. seconds ++ c.args.process_id ++ q) counter
    )
