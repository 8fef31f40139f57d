use Rattle.std.proofs.Common.{rules, ◌∷◌}
use Rattle.bson_message.proofs.PartLemmas.{no_part_body, no_part_sequence}
use Rattle.bson_message.proofs.section.section_at.Goals as goal

pub returns-in_err-document-in-0 : goal.returns-in_err-document-in-0
returns-in_err-document-in-0 c = rw c.from_residual-in_err-document-in-0.ensures (no_part_body c.args.bytes.now c.in_ok-kind.rest.now (search rules) c.in_err-document-in-0.ensures)

pub returns-in_err-sequence-in-1 : goal.returns-in_err-sequence-in-1
returns-in_err-sequence-in-1 c =
    rw c.from_residual-in_err-sequence-in-1.ensures (no_part_sequence c.args.bytes.now c.in_ok-kind.rest.now c.in_ok-front-in-1.front.now c.in_ok-front-in-1.behind.now (search rules) c.in_ok-front-in-1.ensures.0 c.in_ok-front-in-1.ensures.1 c.in_err-sequence-in-1.ensures)

pub returns-in_ok-sequence-in-1 : goal.returns-in_ok-sequence-in-1
returns-in_ok-sequence-in-1 c = ((1 ∷ c.in_ok-front-in-1.front.now, search rules, c.in_ok-sequence-in-1.ensures c.in_ok-front-in-1.ensures.1), search rules)
