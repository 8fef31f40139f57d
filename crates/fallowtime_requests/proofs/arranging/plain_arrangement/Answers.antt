use Rattle.std.proofs.Common.{sym, ap, ◌∙◌}
use Rattle.store_pipeline.specs.Bodies.{keys_of}
use Rattle.fallowtime_requests.specs.Arranging.{text_in}
use Rattle.fallowtime_requests.specs.Plain.{are_plainly}
use Rattle.fallowtime_requests.proofs.PlainLemmas.{unplain}
use Rattle.fallowtime_requests.proofs.arranging.plain_arrangement.Goals as goal

pub returns-else-are_plainly : goal.returns-else-are_plainly
returns-else-are_plainly c =
    unplain (text_in c.args.sort) c.in_ok-arrangement.arrangement c.in_ok-arrangement.ensures.0 (ap (λ ks. are_plainly (keys_of ks)) (sym c.as_slice.ensures.value) ∙ sym c.are_plainly.ensures ∙ c.if-are_plainly.false)
